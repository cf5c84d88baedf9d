-- Steps that set no mark.
use Rattle.std.specs.Prelude.{◌≡◌, ℕ, Bool, List, None}
use Rattle.tp_scene.specs.Step.{Reduction}
use Rattle.tp_scene.specs.Pick.{Setting, Moment, Reduces}
use Rattle.tp_scene.specs.Cells.{IsKnownEnd}
use Rattle.tp_scene.specs.Seen.{IsLiveNumber}
use Rattle.tp_scene.specs.Laws.{IsSound}

-- After a step without a mark no end is known of a region that was live, but those that were known.
abbrev pub UnmarkedStepsEndNothing : Type 0
UnmarkedStepsEndNothing = (w : Setting) (kinds : List Bool) (m : Moment) (t : ℕ) (r : Reduction)
    (next : Moment)
    → IsSound w kinds m → Reduces w m t r next → r.mark ≡ None
    → (number depth : ℕ) → IsLiveNumber m.scene number depth → IsKnownEnd next.scene number
    → IsKnownEnd m.scene number
