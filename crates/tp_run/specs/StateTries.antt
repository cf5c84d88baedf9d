-- What a run tried in the state that it began last, by its tally.
use Rattle.std.specs.Prelude.{◌≡◌, ℕ, ◌+◌, ◌≤◌, List, [], length}
use Rattle.tp_scene.specs.Pick.{Moment}
use Rattle.tp_store.specs.Known.{Contents}
use Rattle.tp_step.specs.declared.tally.Tally.{Tally}
use Rattle.tp_step.specs.declared.order.Order.{Order}
use Rattle.tp_step.specs.declared.ending.Ending.{Ending}
use Rattle.tp_step.specs.declared.ending.Ending.TheVariants as ending
use Rattle.tp_show.specs.declared.turn.Picture.{Picture}
use Rattle.tp_show.specs.declared.turn.Turn.{Turn}
use Rattle.tp_show.specs.declared.turn.Turn.TheVariants.{Went, Finished, Contradictory, Undetermined, StateLimit, InputMissing, Over}
use Rattle.tp_run.specs.declared.run.Run.{Run}
use Rattle.tp_run.specs.History.{Plan, setting, limit_moment, limit_picks}
use Rattle.tp_run.specs.Standing.{Standing, open_at, answered, spent, StateBecomes}
use Rattle.tp_run.specs.Ordered.{waits_in, recorded_tries, ClosesThriftily, TriesBeyond}

-- what it recorded of the state that it began last
abbrev pub tally_of : Run → Tally
tally_of run = run.tally

-- No item was reduced, or found to wait or to rest.
pub record HasRecordedNothing (tally : Tally) : Type 0 where
  pub no_picks : tally.picks ≡ []
  pub no_waits : waits_in tally ≡ []
  pub no_rests : tally.rests ≡ []

module _ (plan : Plan) (n : ℕ) (m : Moment) (old new : Picture) (standing : Standing)
    (store : Contents) where
  -- the picks by which a state becomes so; at the limit of states none is begun
  abbrev pub picks_of_state : (turn : Turn) → StateBecomes plan n m old new standing store turn
      → List ℕ
  picks_of_state Went becomes = becomes.1.picks
  picks_of_state (Finished length) becomes = becomes.0.picks
  picks_of_state (Contradictory state clash) becomes = becomes.0.picks
  picks_of_state (Undetermined state cell) becomes = becomes.0.picks
  picks_of_state (StateLimit states) becomes = []
  picks_of_state (InputMissing state port) becomes = becomes.0.picks
  picks_of_state (Over state kind) becomes =
      limit_picks (setting plan n) plan.reductions m kind becomes.0

  -- and the moment that these lead to
  abbrev pub end_of_state : (turn : Turn) → StateBecomes plan n m old new standing store turn
      → Moment
  end_of_state Went becomes = becomes.1.last
  end_of_state (Finished length) becomes = becomes.0.last
  end_of_state (Contradictory state clash) becomes = becomes.0.last
  end_of_state (Undetermined state cell) becomes = becomes.0.last
  end_of_state (StateLimit states) becomes = m
  end_of_state (InputMissing state port) becomes = becomes.0.last
  end_of_state (Over state kind) becomes =
      limit_moment (setting plan n) plan.reductions m kind becomes.0

-- how a closure ends from which a state gets this answer; at the limit of states nothing is closed
abbrev pub IsEndingFor : Turn → Ending → Type 0
IsEndingFor Went end = end ≡ ending.Rest
IsEndingFor (Finished length) end = end ≡ ending.Rest
IsEndingFor (Contradictory state clash) end = end ≡ ending.Clash clash
IsEndingFor (Undetermined state cell) end = end ≡ ending.Rest
IsEndingFor (StateLimit states) end = ⊥
IsEndingFor (InputMissing state port) end = end ≡ ending.Missing port
IsEndingFor (Over state kind) end = end ≡ ending.Over kind

-- The tally is that of the closure by which state n, which begins with m, becomes what it does: it
-- has the picks of which this is said, and ends as the answer says.
pub record IsTallyOf (plan : Plan) (order : Order) (n : ℕ) (m : Moment) (old new : Picture)
    (standing : Standing) (store : Contents) (turn : Turn) (tally : Tally) : Type 0 where
  pub becomes : StateBecomes plan n m old new standing store turn
  pub found : Ending
  pub ends : IsEndingFor turn found
  pub closes : ClosesThriftily (setting plan n) order plan.reductions m
      (end_of_state plan n m old new standing store turn becomes)
      (picks_of_state plan n m old new standing store turn becomes) found tally

-- A count of tries rises by those of a state with this answer: those that are recorded, and those
-- beyond.
pub record CountsStateTries (old new : ℕ) (tally : Tally) (turn : Turn) : Type 0 where
  pub more : ℕ
  pub beyond : TriesBeyond turn more
  pub counted : new ≡ old + (recorded_tries tally + more)

-- a run that stands there begins no state when it is called: it would be one beyond the limit, or
-- the run has ended
abbrev pub BeginsNoState : Plan → (n : ℕ) → Standing → Type 0
BeginsNoState plan n (open_at m) = plan.states ≤ n
BeginsNoState plan n (answered turn m) = Unit {0}
BeginsNoState plan n spent = Unit {0}
