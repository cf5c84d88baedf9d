-- What one pass comes to.
use Rattle.std.specs.Prelude.{◌≡◌, ℕ, Bool, List, Option, None, Some}
use Rattle.tp_scene.specs.Pick.{Setting, Moment}
use Rattle.tp_scene.specs.Laws.{IsSound}
use Rattle.tp_scene.specs.Rest.{AtRest}
use Rattle.tp_step.specs.Closes.{ClosureEnds, LedByPicks}
use Rattle.tp_step.specs.declared.ending.Ending.{Ending}
use Rattle.tp_step.specs.declared.order.Order.{Order}
use Rattle.tp_pass.specs.Follows.{PassTurns}

-- One pass was made: where nothing was reduced in it the scene is at rest; or the closure ended in
-- it.
abbrev pub Passes : Setting → (m next : Moment) → (left left' : ℕ) → (before after : List ℕ)
    → Option Ending → Type 0
Passes w m next left left' before after None =
    LedByPicks w m next left left' before after × (left' ≡ left → AtRest w next)
Passes w m next left left' before after (Some ending) =
    LedByPicks w m next left left' before after × ClosureEnds w left' next ending

-- All that a pass promises: what is sound stays so, and these are its end and its turns.
pub record MakesPass (w : Setting) (m next : Moment) (order gone_on : Order) (left left' : ℕ)
    (before after : List ℕ) (ended : Option Ending) : Type 0 where
  pub sound : (kinds : List Bool) → IsSound w kinds m → IsSound w kinds next
  pub passes : Passes w m next left left' before after ended
  pub turns : PassTurns w m next order gone_on left left' before after ended
