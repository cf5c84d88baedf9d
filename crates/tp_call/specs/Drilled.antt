-- What the run of a drill has come to, state by state.
use Rattle.std.specs.Prelude.{◌≡◌, ◌+◌, ℕ, true, List, length, Option, None, Some}
use Rattle.tp_scene.specs.Pick.{Moment}
use Rattle.tp_step.specs.declared.order.Order.{Order}
use Rattle.tp_show.specs.declared.turn.Picture.{Picture}
use Rattle.tp_show.specs.declared.turn.Turn.{Turn}
use Rattle.tp_show.specs.declared.turn.Turn.TheVariants as turn
use Rattle.tp_run.specs.History.{Plan, LeadsTo, RunEndsWith, end_store}
use Rattle.tp_run.specs.Standing.{RunPlace, open_at, state_after}
use Rattle.tp_run.specs.Runs.{program_of, store_of}
use Rattle.tp_call.specs.declared.drill.Totals.{Totals}
use Rattle.tp_call.specs.declared.drill.Drilled.{Drilled}
use Rattle.tp_call.specs.Progress.{last_answer, is_settled, ClosesRun}
use Rattle.tp_call.specs.InOrder.{RunTried}
use Rattle.tp_call.specs.Worked.{StateTried, HasTried}
use Rattle.tp_call.specs.Parts.{ClosesText}
use Rattle.tp_call.specs.Drill.{reductions_in, drill_line}
use Rattle.tp_call.specs.declared.status.Status.{Status}
use Rattle.tp_call.specs.declared.status.Status.TheVariants.{Done}

-- the totals rose by what one state more took, as the count of tries did
pub record CountsState (old new : Totals) (before after : ℕ) (reductions : ℕ) : Type 0 where
  pub tries : ℕ
  pub reductions_are : new.reductions ≡ old.reductions + reductions
  pub tries_are : new.tries ≡ old.tries + tries
  pub rose : after ≡ before + tries

-- A run that stood before this moment was called and answered, its state was tried so, and counted
-- where it was settled; and the run ends with the answer, or goes on.
pub record StateDrilled (plan : Plan) (order : Order) (m : Moment) (from to : RunPlace)
    (old new : Totals) (before after : ℕ) (last : Option Turn) : Type 0 where
  pub answer : Turn
  pub last_is : last ≡ last_answer answer
  pub earlier : Picture
  pub picture : Picture
  pub tried : StateTried plan order from.state m earlier picture to.standing to.store answer before
      after
  pub number : to.state ≡ state_after from.state answer
  pub counts : is_settled answer ≡ true → CountsState old new before after picture.reductions

-- the totals are those of states that were settled with these pictures, while the count of tries
-- rose so
pub record AreTotalsOf (pictures : List Picture) (before after : ℕ) (totals : Totals) : Type 0 where
  pub reductions_are : totals.reductions ≡ reductions_in pictures
  pub rose : after ≡ before + totals.tries

-- a run of the plan, which stands here, has settled and tried some states, which were counted, and
-- goes on
pub record HasDrilled (plan : Plan) (order : Order) (now : RunPlace) (before after : ℕ)
    (totals : Totals) : Type 0 where
  pub pictures : List Picture
  pub next : Moment
  pub stands : now.standing ≡ open_at next
  pub count : now.state ≡ length pictures
  pub leads : LeadsTo plan pictures next
  pub tried : HasTried plan order pictures next leads before after
  pub totals_are : AreTotalsOf pictures before after totals

-- A run of the plan ended so, its states were tried, and its store holds what was known at that
-- end; where it finished, the totals are those of its states.
pub record RunDrilled (plan : Plan) (order : Order) (before after : ℕ)
    (drilled : Drilled) : Type 0 where
  pub pictures : List Picture
  pub run : RunEndsWith plan pictures drilled.ended.turn
  pub program_is : program_of drilled.ended.run ≡ plan.program
  pub store : store_of drilled.ended.run ≡ end_store plan pictures drilled.ended.turn run
  pub tried : RunTried plan order pictures drilled.ended.turn run before after
  pub totals_are : (n : ℕ) → drilled.ended.turn ≡ turn.Finished n
      → AreTotalsOf pictures before after drilled.totals

-- the length of a run that finished with this answer
abbrev pub finished_length : Turn → Option ℕ
finished_length turn.Went = None
finished_length (turn.Finished n) = Some n
finished_length (turn.Contradictory state clash) = None
finished_length (turn.Undetermined state cell) = None
finished_length (turn.StateLimit states) = None
finished_length (turn.InputMissing state port) = None
finished_length (turn.Over state limit) = None

-- writing the line of a drill whose run has this length, or where there is none the end line
abbrev pub ClosesAtLength : (length : Option ℕ) → (size reductions : ℕ) → Drilled → Option (List ℕ)
    → Option (List ℕ) → Status → Type 0
ClosesAtLength None size reductions drilled old new result =
    ClosesRun reductions drilled.ended old new result
ClosesAtLength (Some n) size reductions drilled old new result =
    ClosesText (drill_line size n drilled.totals.reductions drilled.totals.tries) Done old new
    result

-- writing what the run of a drill came to, where a state has at most so many reductions
abbrev pub ClosesDrill : (size reductions : ℕ) → Drilled → Option (List ℕ) → Option (List ℕ)
    → Status → Type 0
ClosesDrill size reductions drilled old new result =
    ClosesAtLength (finished_length drilled.ended.turn) size reductions drilled old new result
