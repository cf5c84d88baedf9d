-- What every list of picks comes to, where a closure has made some, whichever items it tried.
use Rattle.std.specs.Prelude.{◌≡◌, ℕ, ◌+◌, ◌<◌, Bool, List, length}
use Rattle.tp_kernel.specs.declared.fault.LimitKind.TheVariants as limit
use Rattle.tp_scene.specs.Pick.{Setting, Moment, Leads}
use Rattle.tp_scene.specs.Rest.{AtRest}
use Rattle.tp_step_laws.specs.Alike.{Alike}
use Rattle.tp_step_laws.specs.Orders.{IsOrderly, GoesOnToRest}
use Rattle.tp_step_laws.specs.States.{ClosesOneWay}
use Rattle.tp_step.specs.declared.ending.Ending.{Ending}
use Rattle.tp_step.specs.declared.ending.Ending.TheVariants.{Rest, Clash, Missing, Over}

-- So many picks led to rest, and every list of picks goes on to a rest that is alike, with as many
-- picks in all, and meets no failure. A state that begins alike closes in one way, to what is
-- alike.
pub record HasOneRest (w : Setting) (kinds : List Bool) (room : ℕ) (m last : Moment)
    (picks : ℕ) : Type 0 where
  pub goes_on : (so_far : List ℕ) (there : Moment) → Leads w m so_far there
      → GoesOnToRest w (length kinds) picks last so_far there
  pub one_way : (n : Moment) → IsOrderly w kinds n → Alike (length kinds) m n
      → ClosesOneWay w (length kinds) room n picks last

-- No list of picks comes to rest.
abbrev pub NeverRests : Setting → Moment → Type 0
NeverRests w m = (picks : List ℕ) (last : Moment) → Leads w m picks last → AtRest w last → ⊥

-- Each that does has more picks than that.
abbrev pub RestsBeyond : Setting → (room : ℕ) → Moment → Type 0
RestsBeyond w room m =
    (picks : List ℕ) (last : Moment) → Leads w m picks last → AtRest w last → room < length picks

-- by what the closure ended with
abbrev pub EveryRest : Setting → (kinds : List Bool) → (room : ℕ) → (m last : Moment) → (picks : ℕ)
    → Ending → Type 0
EveryRest w kinds room m last picks Rest = HasOneRest w kinds room m last picks
EveryRest w kinds room m last picks (Clash clash) = NeverRests w m
EveryRest w kinds room m last picks (Missing port) = NeverRests w m
EveryRest w kinds room m last picks (Over limit.Reductions) = RestsBeyond w room m
EveryRest w kinds room m last picks (Over limit.Number) = NeverRests w m
EveryRest w kinds room m last picks (Over limit.List) = NeverRests w m
EveryRest w kinds room m last picks (Over limit.Calls) = NeverRests w m
EveryRest w kinds room m last picks (Over limit.Nest) = NeverRests w m

-- A closure made at most `room` picks from an orderly moment, and the last one is orderly again.
pub record ClosesInAnyOrder (w : Setting) (kinds : List Bool) (room : ℕ) (m last : Moment)
    (before after : List ℕ) (ending : Ending) : Type 0 where
  pub orderly : IsOrderly w kinds last
  pub every : (picks : ℕ) → length before + picks ≡ length after
      → EveryRest w kinds room m last picks ending

-- where the moment is orderly
abbrev pub ClosureCommutes : Setting → (room : ℕ) → (m last : Moment) → (before after : List ℕ)
    → Ending → Type 0
ClosureCommutes w room m last before after ending =
    (kinds : List Bool) → IsOrderly w kinds m
    → ClosesInAnyOrder w kinds room m last before after ending
