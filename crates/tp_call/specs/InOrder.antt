-- What a call does in the order that its words ask for: which failure of a state it names, the one
-- that a closure of this state meets, and what it tries.
use Rattle.std.specs.Prelude.{◌≡◌, ℕ, List, length, Option, Some, suc, ◌+◌, [], ◌∷◌, ◌++◌, sum_by}
use Rattle.tp_io.specs.Held.{Held}
use Rattle.tp_scene.specs.Pick.{Moment}
use Rattle.tp_step.specs.declared.order.Order.{Order}
use Rattle.tp_show.specs.declared.turn.Picture.{Picture}
use Rattle.tp_show.specs.declared.turn.Turn.{Turn}
use Rattle.tp_run.specs.History.{Plan, setting, LeadsTo, StatesLead, limit_moment, limit_picks, beginning_of, RunEndsWith}
use Rattle.tp_run.specs.Ordered.{IsNamedInOrder, recorded_tries, ClosesThriftily, TriesBeyond}
use Rattle.tp_run.specs.Same.{FailsIn}
use Rattle.tp_call.specs.declared.status.Status.{Status}
use Rattle.tp_call.specs.Run.{status_of, RunEnds}
use Rattle.tp_call.specs.Answer.{IsAskedFor, run_text}
use Rattle.tp_step.specs.declared.tally.Tally.{Tally}
use Rattle.tp_step.specs.declared.ending.Ending.{Ending}
use Rattle.tp_step.specs.declared.ending.Ending.TheVariants as ending
use Rattle.tp_show.specs.declared.turn.Turn.TheVariants as turn
use Rattle.tp_call.specs.Files.{Wrote}

-- A run of the plan settles the states before this one, and the answer names what a closure of this
-- one meets in this order.
pub record MeetsInOrder (plan : Plan) (order : Order) (state : ℕ) (answer : Turn) : Type 0 where
  pub pictures : List Picture
  pub next : Moment
  pub leads : LeadsTo plan pictures next
  pub count : state ≡ length pictures
  pub named : IsNamedInOrder (setting plan state) order plan.reductions next answer

-- where the answer is that a state fails, it names what this state meets in this order
abbrev pub NamesInOrder : Plan → Order → Turn → Type 0
NamesInOrder plan order answer =
    (state : ℕ) → FailsIn state answer → MeetsInOrder plan order state answer

-- the same of the answer that has this status
abbrev pub StatusInOrder : Plan → Order → Status → Type 0
StatusInOrder plan order status =
    (answer : Turn) → status_of answer ≡ Some status → NamesInOrder plan order answer

module _ (words : List (List ℕ)) (held : Option Held) (result : Status) where
  -- Where a state of what is asked for fails and the files tell what they hold: of the failures
  -- that this state may have, the one is named that a closure of it meets in the order that the
  -- words ask for, after states that a run of what is asked for settles.
  abbrev pub FailsInOrder : Type 0
  FailsInOrder =
      (files : Held) → held ≡ Some files → (plan : Plan) (asked : IsAskedFor words held plan)
      → StatusInOrder plan asked.wanted.order result

-- ---- what a run tried in its states, and how many tries a call made

-- These states, of which each goes on to the next, were closed thriftily in this order: there is a
-- tally for each, with the picks that lead through it.
abbrev pub AreTalliesOf : (plan : Plan) (order : Order) (n : ℕ) (m : Moment) (ps : List Picture)
    (last : Moment) → StatesLead plan n m ps last → List Tally → Type 0
AreTalliesOf plan order n m [] last leads tallies = tallies ≡ []
AreTalliesOf plan order n m (p ∷ ps) last leads [] = ⊥
AreTalliesOf plan order n m (p ∷ ps) last leads (tally ∷ tallies) =
    ClosesThriftily (setting plan n) order plan.reductions m leads.1.last leads.1.picks ending.Rest
    tally
    × AreTalliesOf plan order (suc n) leads.0 ps last leads.2 tallies

-- The same of the states with which a run begins and of state n after them, which begins with m,
-- and which these picks close: they lead to this moment, and the closure ends so.
pub record AreTalliesTo (plan : Plan) (order : Order) (ps : List Picture) (m : Moment)
    (leads : LeadsTo plan ps m) (n : ℕ) (last : Moment) (picks : List ℕ) (end : Ending)
    (tallies : List Tally) : Type 0 where
  pub earlier : List Tally
  pub own : Tally
  pub tallies_are : tallies ≡ earlier ++ own ∷ []
  pub led : AreTalliesOf plan order 0 (beginning_of plan) ps m leads earlier
  pub closes : ClosesThriftily (setting plan n) order plan.reductions m last picks end own

-- The tallies of a run that ended: one for each state that was begun, with the picks of this run.
abbrev pub AreTalliesOfRun : (plan : Plan) (order : Order) (ps : List Picture) (answer : Turn)
    → RunEndsWith plan ps answer → List Tally → Type 0
AreTalliesOfRun plan order ps turn.Went end tallies = ⊥
AreTalliesOfRun plan order ps (turn.Finished n) end tallies =
    AreTalliesTo plan order end.before end.moment end.leads (length end.before) end.ends.last
    end.ends.picks ending.Rest tallies
AreTalliesOfRun plan order ps (turn.Contradictory state clash) end tallies =
    AreTalliesTo plan order ps end.0 end.1 state end.2.last end.2.picks (ending.Clash clash) tallies
AreTalliesOfRun plan order ps (turn.Undetermined state cell) end tallies =
    AreTalliesTo plan order ps end.0 end.1 state end.2.last end.2.picks ending.Rest tallies
AreTalliesOfRun plan order ps (turn.StateLimit states) end tallies =
    AreTalliesOf plan order 0 (beginning_of plan) ps end.0 end.1 tallies
AreTalliesOfRun plan order ps (turn.InputMissing state port) end tallies =
    AreTalliesTo plan order ps end.0 end.1 state end.2.last end.2.picks (ending.Missing port)
    tallies
AreTalliesOfRun plan order ps (turn.Over state kind) end tallies =
    AreTalliesTo plan order ps end.0 end.1 state
    (limit_moment (setting plan state) plan.reductions end.0 kind end.2)
    (limit_picks (setting plan state) plan.reductions end.0 kind end.2) (ending.Over kind) tallies

-- how many tries these record
abbrev pub all_tries : List Tally → ℕ
all_tries tallies = sum_by recorded_tries tallies

-- The states of a run that ended with this answer were closed thriftily in this order, with its
-- picks; and a count of tries rose by those that were recorded, and by those beyond, of which there
-- is none where it finished or came to the limit of states.
pub record RunTried (plan : Plan) (order : Order) (ps : List Picture) (answer : Turn)
    (run : RunEndsWith plan ps answer) (old new : ℕ) : Type 0 where
  pub tallies : List Tally
  pub tried : AreTalliesOfRun plan order ps answer run tallies
  pub more : ℕ
  pub beyond : TriesBeyond answer more
  pub counted : new ≡ old + (all_tries tallies + more)

-- A run of what is asked for ended with this status, and its text was appended; it was tried so, in
-- the order that the words ask for.
pub record WorksThriftily (words : List (List ℕ)) (held : Option Held)
    (before after : Option (List ℕ)) (status : Status) (old new : ℕ) : Type 0 where
  pub plan : Plan
  pub pictures : List Picture
  pub asked : IsAskedFor words held plan
  pub run : RunEnds plan pictures status
  pub appended : Wrote before after (run_text asked.wanted.beside run)
  pub tried : RunTried plan asked.wanted.order pictures run.answer run.run old new
