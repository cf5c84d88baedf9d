-- What a run has written, state by state.
use Rattle.std.specs.Prelude.{◌≡◌, ◌⊎◌, ℕ, Bool, true, false, IsTrue, if◌then◌else◌, List, [], length, take, All, Option, Some, Result, Ok, Err, IfOk, None}
use Rattle.tp_io.specs.declared.refusal.WriteRefusal.{WriteRefusal}
use Rattle.tp_io.specs.declared.refusal.WriteRefusal.TheVariants as sink
use Rattle.tp_meaning.specs.Interval.{ProgramTree}
use Rattle.tp_scene.specs.Pick.{Moment}
use Rattle.tp_show.specs.declared.turn.Picture.{Picture}
use Rattle.tp_show.specs.declared.turn.Turn.{Turn}
use Rattle.tp_show.specs.declared.turn.Turn.TheVariants as turn
use Rattle.tp_run.specs.History.{Plan, LeadsTo}
use Rattle.tp_run.specs.Standing.{RunPlace, open_at, AnswersState}
use Rattle.tp_run.specs.Runs.{program_of, store_of, carried_scene}
use Rattle.tp_call.specs.declared.run.Ended.{Ended}
use Rattle.tp_show.specs.Told.{IsPictureInRange}
use Rattle.tp_call.specs.Run.{written_state, lead_text, status_of}
use Rattle.tp_call.specs.Files.{Wrote}
use Rattle.tp_show.specs.Texts.{end_line}
use Rattle.tp_call.specs.declared.status.Status.{Status}
use Rattle.tp_call.specs.Parts.{ClosesText}
use Rattle.tp_words.specs.declared.beside.Beside.{Beside}
use Rattle.tp_call.specs.declared.status.Status.TheVariants.{Finished, Contradictory, Undetermined, StateLimit, InputMissing}
use Rattle.tp_store.specs.Known.{Contents}
use Rattle.tp_scene.specs.Scene.{Scene}

-- what the state after the last one begins with, where the run stands there
abbrev pub moment_with : Contents → Option Scene → Option Moment
moment_with store None = None
moment_with store (Some scene) = Some (record { scene = scene; store = store })

abbrev pub next_moment : RunPlace → Option Moment
next_moment place = moment_with place.store (carried_scene place.state place.standing)

-- the answer with which a run ends; it goes on with `Went`
abbrev pub last_answer : Turn → Option Turn
last_answer turn.Went = None
last_answer (turn.Finished length) = Some (turn.Finished length)
last_answer (turn.Contradictory state clash) = Some (turn.Contradictory state clash)
last_answer (turn.Undetermined state cell) = Some (turn.Undetermined state cell)
last_answer (turn.StateLimit states) = Some (turn.StateLimit states)
last_answer (turn.InputMissing state port) = Some (turn.InputMissing state port)
last_answer (turn.Over state kind) = Some (turn.Over state kind)

-- a call of the run of this plan answers this: it goes from here to there, with this picture
pub record Turned (plan : Plan) (from to : RunPlace) (answer : Turn)
    (picture : Picture) : Type 0 where
  pub earlier : Picture
  pub answers : AnswersState plan from earlier picture to answer

-- with this answer a state was settled
abbrev pub is_settled : Turn → Bool
is_settled turn.Went = true
is_settled (turn.Finished length) = true
is_settled (turn.Contradictory state clash) = false
is_settled (turn.Undetermined state cell) = false
is_settled (turn.StateLimit states) = false
is_settled (turn.InputMissing state port) = false
is_settled (turn.Over state limit) = false

-- what is written of an answer and its picture: that of the state, where it was settled; the next
-- one begins with this moment, where there is one
abbrev pub printed_lines : (beside : Beside) → ProgramTree → Turn → Picture → (next : Option Moment)
    → List ℕ
printed_lines beside program answer picture next =
    if is_settled answer then written_state beside program picture next else []

-- the call answered this, which was written; and the run ends with it, or goes on
pub record AnswerMade (plan : Plan) (beside : Beside) (from to : RunPlace)
    (before after : Option (List ℕ)) (last : Option Turn) : Type 0 where
  pub answer : Turn
  pub last_is : last ≡ last_answer answer
  pub picture : Picture
  pub turned : Turned plan from to answer picture
  pub wrote : Wrote before after (printed_lines beside plan.program answer picture (next_moment to))
  pub range : IsTrue (is_settled answer) → IsPictureInRange picture

-- the next state was settled, and a part of its lines was written
pub record PartMade (plan : Plan) (beside : Beside) (from to : RunPlace)
    (before after : Option (List ℕ)) : Type 0 where
  pub picture : Picture
  pub answer : Turn
  pub settled : IsTrue (is_settled answer)
  pub turned : Turned plan from to answer picture
  pub kept : ℕ
  pub wrote : Wrote before after
      (take kept (written_state beside plan.program picture (next_moment to)))

-- what became of the next state: the run answered and wrote, a write failed, or memory was wanted
abbrev pub TurnMade : Plan → (beside : Beside) → RunPlace → RunPlace → Option (List ℕ)
    → Option (List ℕ) → Result (Option Turn) WriteRefusal → Type 0
TurnMade plan beside from to before after (Ok last) =
    AnswerMade plan beside from to before after last
TurnMade plan beside from to before after (Err sink.Failed) =
    PartMade plan beside from to before after
TurnMade plan beside from to before after (Err sink.NoMemory) = after ≡ before

-- a run of the plan, which stands here, has settled and written some states and goes on
pub record HasWritten (plan : Plan) (beside : Beside) (now : RunPlace)
    (before after : Option (List ℕ)) : Type 0 where
  pub pictures : List Picture
  pub next : Moment
  pub stands : now.standing ≡ open_at next
  pub count : now.state ≡ length pictures
  pub leads : LeadsTo plan pictures next
  pub wrote : Wrote before after (lead_text beside plan pictures next leads)
  pub range : All IsPictureInRange pictures

abbrev pub as_turn : Result Ended WriteRefusal → Result (Option Turn) WriteRefusal
as_turn (Ok ended) = Ok (Some ended.turn)
as_turn (Err refusal) = Err refusal

-- the run that ended is one of the plan's program, and stands there
pub record EndedThere (plan : Plan) (to : RunPlace) (ended : Ended) : Type 0 where
  pub program_is : program_of ended.run ≡ plan.program
  pub store : store_of ended.run ≡ to.store

-- a run of the plan settled and wrote some states, and then ended or was stopped
pub record RunMade (plan : Plan) (beside : Beside) (before after : Option (List ℕ))
    (result : Result Ended WriteRefusal) : Type 0 where
  pub from : RunPlace
  pub to : RunPlace
  pub middle : Option (List ℕ)
  pub settled : HasWritten plan beside from before middle
  pub stopped : TurnMade plan beside from to middle after (as_turn result)
  pub ended : IfOk result (EndedThere plan to)

-- the same, or memory was wanted before the run
abbrev pub ProgramMade : Plan → (beside : Beside) → Option (List ℕ) → Option (List ℕ)
    → Result Ended WriteRefusal → Type 0
ProgramMade plan beside before after result =
    ((result ≡ Err sink.NoMemory) × (after ≡ before)) ⊎ RunMade plan beside before after result

-- the end line of a run that ended, where a state has at most so many reductions
abbrev pub line_of_end : (reductions : ℕ) → Ended → List ℕ
line_of_end reductions ended =
    end_line (program_of ended.run).globals (store_of ended.run).variables reductions ended.turn

-- writing this end line for a last answer, whose status is the one that is answered
abbrev pub ClosesAnswer : (line : List ℕ) → Turn → Option (List ℕ) → Option (List ℕ) → Status
    → Type 0
ClosesAnswer line turn old new result =
    (status : Status) × (status_of turn ≡ Some status) × ClosesText line status old new result

-- writing the end line of a run that ended
abbrev pub ClosesRun : (reductions : ℕ) → Ended → Option (List ℕ) → Option (List ℕ) → Status
    → Type 0
ClosesRun reductions ended old new result =
    ClosesAnswer (line_of_end reductions ended) ended.turn old new result
