-- What becomes live was never live before, and doesn't become live again.
use Rattle.std.specs.Prelude.{◌≡◌, ◌⊎◌, ◌<◌, ℕ, true, false, Bool, List}
use Rattle.tp_scene.specs.Scene.{has}
use Rattle.tp_scene.specs.Step.{Reduction}
use Rattle.tp_scene.specs.Pick.{Setting, Moment, Reduces}
use Rattle.tp_scene.specs.Laws.{IsSound}
use Rattle.tp_step_laws.specs.Edits.{occurs}

-- the number has been an item's that was live: it is live, or it is taken and stands nowhere, not
-- even among what is dormant
abbrev pub WasLive : Moment → ℕ → Type 0
WasLive m u = (u < m.scene.next_item)
    × ((has u m.scene.root.entries ≡ true) ⊎ (occurs u m.scene.root.entries ≡ false))

-- After a step the item that was picked is gone, what was live has been so, and what becomes live
-- hasn't.
pub record BecomesLiveOnce (m next : Moment) (t : ℕ) : Type 0 where
  pub gone : occurs t next.scene.root.entries ≡ false
  pub was : (u : ℕ) → WasLive m u → WasLive next u
  pub new : (u : ℕ) → has u next.scene.root.entries ≡ true → has u m.scene.root.entries ≡ false
      → WasLive m u → ⊥

abbrev pub ItemsLiveOnce : Type 0
ItemsLiveOnce = (w : Setting) (kinds : List Bool) (m : Moment) (t : ℕ) (r : Reduction)
    (next : Moment)
    → IsSound w kinds m → Reduces w m t r next → BecomesLiveOnce m next t
