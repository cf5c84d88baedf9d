-- What a run that goes on, or ended, has tried and written.
use Rattle.std.specs.Prelude.{◌≡◌, ◌⊎◌, ℕ, ◌+◌, ◌≤◌, IsTrue, List, Option, IfSome}
use Rattle.tp_store.specs.Known.{Contents}
use Rattle.tp_scene.specs.Pick.{Moment}
use Rattle.tp_step.specs.declared.tally.Tally.{Tally}
use Rattle.tp_step.specs.declared.order.Order.{Order}
use Rattle.tp_show.specs.declared.turn.Picture.{Picture}
use Rattle.tp_show.specs.declared.turn.Turn.{Turn}
use Rattle.tp_show.specs.Told.{IsPictureInRange}
use Rattle.tp_run.specs.History.{Plan, LeadsTo, setting, beginning_of, RunEndsWith, end_store}
use Rattle.tp_run.specs.Runs.{program_of, store_of}
use Rattle.tp_run.specs.Standing.{RunPlace, Standing, StateBecomes, state_after, open_at}
use Rattle.tp_run.specs.StateTries.{IsTallyOf, CountsStateTries}
use Rattle.tp_call.specs.declared.run.Ended.{Ended}
use Rattle.tp_call.specs.Progress.{last_answer, next_moment, is_settled, printed_lines, HasWritten}
use Rattle.tp_call.specs.Run.{ended_text}
use Rattle.tp_call.specs.Files.{Wrote}
use Rattle.tp_words.specs.declared.beside.Beside.{Beside}
use Rattle.tp_call.specs.InOrder.{AreTalliesOf, RunTried, all_tries}
use Rattle.tp_run.specs.Ordered.{IsNamedInOrder}

-- The states with which a run begins were closed thriftily in this order, with these picks; and a
-- count of tries rose by those that were recorded.
pub record HasTried (plan : Plan) (order : Order) (ps : List Picture) (m : Moment)
    (leads : LeadsTo plan ps m) (old new : ℕ) : Type 0 where
  pub tallies : List Tally
  pub tried : AreTalliesOf plan order 0 (beginning_of plan) ps m leads tallies
  pub counted : new ≡ old + all_tries tallies

-- State n, which begins with m, was closed thriftily, and the tries were counted; or it is one
-- beyond the limit, and nothing was tried.
abbrev pub StateTried : (plan : Plan) (order : Order) (n : ℕ) (m : Moment)
    (earlier picture : Picture) → Standing → Contents → Turn → (old new : ℕ) → Type 0
StateTried plan order n m earlier picture standing store answer old new =
    ((tally : Tally) × IsTallyOf plan order n m earlier picture standing store answer tally
    × CountsStateTries old new tally answer)
    ⊎ (StateBecomes plan n m earlier picture standing store answer × (plan.states ≤ n)
    × (new ≡ old))

-- A run that stood before this moment was called and answered, what it answered was written, and
-- its state was tried so.
pub record StateWorked (plan : Plan) (beside : Beside) (order : Order) (m : Moment)
    (from to : RunPlace) (before after : Option (List ℕ)) (old new : ℕ)
    (last : Option Turn) : Type 0 where
  pub answer : Turn
  pub last_is : last ≡ last_answer answer
  pub earlier : Picture
  pub picture : Picture
  pub tried : StateTried plan order from.state m earlier picture to.standing to.store answer old new
  pub number : to.state ≡ state_after from.state answer
  pub wrote : Wrote before after
      (printed_lines beside plan.program answer picture (next_moment to))
  pub range : IsTrue (is_settled answer) → IsPictureInRange picture

-- a run of the plan, which stands here, has settled, written and tried some states and goes on
pub record HasWorked (plan : Plan) (beside : Beside) (order : Order) (now : RunPlace)
    (before after : Option (List ℕ)) (old new : ℕ) : Type 0 where
  pub written : HasWritten plan beside now before after
  pub tried : HasTried plan order written.pictures written.next written.leads old new

-- The run that ended is one of the plan's program, whose states were settled, written and tried.
pub record WorkEnded (plan : Plan) (beside : Beside) (order : Order)
    (before after : Option (List ℕ)) (old new : ℕ) (ended : Ended) : Type 0 where
  pub pictures : List Picture
  pub run : RunEndsWith plan pictures ended.turn
  pub program_is : program_of ended.run ≡ plan.program
  pub store_is : store_of ended.run ≡ end_store plan pictures ended.turn run
  pub wrote : Wrote before after (ended_text beside plan pictures ended.turn run)
  pub tried : RunTried plan order pictures ended.turn run old new

-- where a run stands before a state, and this state's answer is its last one, it is named in this
-- order
abbrev pub LastInOrder : Plan → Order → (from : RunPlace) → (last : Option Turn) → Type 0
LastInOrder plan order from last =
    (m : Moment) → from.standing ≡ open_at m
    → IfSome last (IsNamedInOrder (setting plan from.state) order plan.reductions m)
