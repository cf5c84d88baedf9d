-- How many tries a closure made, and all that it promises.
use Rattle.std.specs.Prelude.{◌≡◌, ℕ, ◌+◌, Bool, true, List, ◌++◌, length}
use Rattle.std.specs.List.{Contains}
use Rattle.tp_scene.specs.Scene.{has}
use Rattle.tp_scene.specs.Step.{waits}
use Rattle.tp_scene.specs.Pick.{Setting, Moment, Leads, outcome_of}
use Rattle.tp_scene.specs.CellLaws.{AreUndecided}
use Rattle.tp_scene.specs.Laws.{IsSound}
use Rattle.tp_step.specs.declared.tally.Wait.{Wait}
use Rattle.tp_step.specs.declared.order.Order.{Order}
use Rattle.tp_step.specs.declared.ending.Ending.{Ending}
use Rattle.tp_step.specs.declared.ending.Ending.TheVariants.{Rest, Clash, Missing, Over}
use Rattle.tp_step.specs.Closes.{ClosureAnswers}
use Rattle.tp_step.specs.EveryRest.{ClosureCommutes}
use Rattle.tp_step.specs.Room.{ClosureKeepsRoom}
use Rattle.tp_agenda.specs.Agenda.{FollowsAgenda, IsThrifty}

-- the try of the item that a closure ends with
abbrev pub last_tries : Ending → ℕ
last_tries Rest = 0
last_tries (Clash clash) = 1
last_tries (Missing port) = 1
last_tries (Over kind) = 1

-- A count of tries rises by one for each pick, which were appended to those before, for each wait,
-- for each rest, and for the item that the closure ends with.
pub record CountsTries (old new : ℕ) (before after : List ℕ) (recorded : List Wait)
    (resting : List ℕ) (ending : Ending) : Type 0 where
  pub picks : List ℕ
  pub appended : after ≡ before ++ picks
  pub counted : new
      ≡ old + (length picks + (length recorded + (length resting + last_tries ending)))

-- Where some of the picks lead the item is live, and it waits there for these cells, which aren't
-- decided.
pub record WaitedWithin (w : Setting) (m : Moment) (picks : List ℕ) (x : Wait) : Type 0 where
  pub made : List ℕ
  pub later : List ℕ
  pub within : picks ≡ made ++ later
  pub there : Moment
  pub leads : Leads w m made there
  pub lives : has x.item there.scene.root.entries ≡ true
  pub answer : outcome_of w there.store there.scene x.item ≡ waits x.first x.other
  pub undecided : AreUndecided there x.first x.other

-- Each wait is so, among the picks that were appended to those before.
pub record WaitedForUndecided (w : Setting) (m : Moment) (before after : List ℕ)
    (recorded : List Wait) : Type 0 where
  pub picks : List ℕ
  pub appended : after ≡ before ++ picks
  pub each : (x : Wait) → Contains recorded x → WaitedWithin w m picks x

-- All that a closure promises that ends with this ending.
pub record ClosesWith (w : Setting) (first last : Moment) (by : Order) (most : ℕ)
    (before after : List ℕ) (recorded : List Wait) (resting : List ℕ) (old new : ℕ)
    (ending : Ending) : Type 0 where
  pub sound : (kinds : List Bool) → IsSound w kinds first → IsSound w kinds last
  pub closes : ClosureAnswers w most first last before after ending
  pub order : FollowsAgenda w by most first last before after recorded resting ending
  pub commutes : ClosureCommutes w most first last before after ending
  pub room : ClosureKeepsRoom w most last before after ending
  pub thrifty : IsThrifty recorded resting
  pub undecided : WaitedForUndecided w first before after recorded
  pub steps : CountsTries old new before after recorded resting ending
