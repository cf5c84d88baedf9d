-- What a try of one item leaves of the others, where the moment before it is orderly.
use Rattle.std.specs.Prelude.{◌≢◌, ◌⊎◌, ℕ, Bool, List, length}
use Rattle.tp_scene.specs.Pick.{Setting, Moment}
use Rattle.tp_step_laws.specs.Orders.{IsOrderly, MeetsFailure, StepsTo, BothOrders}
use Rattle.tp_step.specs.declared.answer.Tried.{Tried}
use Rattle.tp_step.specs.declared.answer.Tried.TheVariants as tried

-- The item t had a step, and the moment after it is orderly again. Of each other item: where it had
-- a step too, both have one in both orders, with ends that are alike, or each fails after the
-- other; and where it failed it goes on to fail.
pub record LeavesOthers (w : Setting) (kinds : List Bool) (m : Moment) (t : ℕ)
    (next : Moment) : Type 0 where
  pub orderly : IsOrderly w kinds next
  pub steps : (u : ℕ) (other : Moment) → t ≢ u → StepsTo w m u other
      → BothOrders w (length kinds) next other t u
      ⊎ (MeetsFailure w next u × MeetsFailure w other t)
  pub failures : (u : ℕ) → t ≢ u → MeetsFailure w m u → MeetsFailure w next u

-- what a try answers of the item t, and where it leads
abbrev pub TryCommutes : Setting → (m : Moment) → (t : ℕ) → (next : Moment) → Tried → Type 0
TryCommutes w m t next (tried.Reduced news) =
    (kinds : List Bool) → IsOrderly w kinds m → LeavesOthers w kinds m t next
TryCommutes w m t next (tried.Waits first other) = Unit {0}
TryCommutes w m t next tried.Rests = Unit {0}
TryCommutes w m t next (tried.Clash clash) = Unit {0}
TryCommutes w m t next (tried.Missing port) = Unit {0}
TryCommutes w m t next (tried.Over limit) = Unit {0}
