-- The runs of a plan, and the text of their states.
use Rattle.std.specs.Prelude.{◌≡◌, ◌⊎◌, ℕ, List, Option, Some, None, suc, [], ◌∷◌, ◌++◌}
use Rattle.tp_kernel.specs.declared.fault.LimitKind.{LimitKind}
use Rattle.tp_kernel.specs.declared.fault.LimitKind.TheVariants as limit
use Rattle.tp_store.specs.Known.{Variable}
use Rattle.tp_scene.specs.Pick.{Moment}
use Rattle.tp_show.specs.declared.turn.Picture.{Picture}
use Rattle.tp_show.specs.declared.turn.Turn.{Turn}
use Rattle.tp_show.specs.declared.turn.Turn.TheVariants as turn
use Rattle.tp_run.specs.History.{Plan, LeadsTo, StatesLead, RunEndsWith, end_store, SatisfiedExactly, Satisfiable, Unsatisfiable, ContinuesEach}
use Rattle.tp_call.specs.declared.status.Status.{Status}
use Rattle.tp_call.specs.declared.status.Status.TheVariants.{Finished, Contradictory, Undetermined, StateLimit, ReductionLimit, NumberLimit, ListLimit, CallLimit, NestLimit, InputMissing}
use Rattle.std.proofs.Common.{inl, inr}
use Rattle.std.specs.Option.{option_map}
use Rattle.tp_meaning.specs.Interval.{ProgramTree}
use Rattle.tp_scene.specs.Beginning.{first_moment}
use Rattle.tp_show.specs.Line.{picture_lines}
use Rattle.tp_residual.specs.Residual.{residual_phrase, trace_lines}
use Rattle.tp_words.specs.declared.beside.Beside.{Beside}
use Rattle.tp_words.specs.declared.beside.Beside.TheVariants.{Nothing, TraceLines}

-- the status of a run that passes a limit in this state
abbrev pub limit_end : ℕ → LimitKind → Status
limit_end state limit.Reductions = ReductionLimit state
limit_end state limit.Number = NumberLimit state
limit_end state limit.List = ListLimit state
limit_end state limit.Calls = CallLimit state
limit_end state limit.Nest = NestLimit state

-- The status of a run that ends with this answer; an answer with which it goes on has none.
abbrev pub status_of : Turn → Option Status
status_of turn.Went = None
status_of (turn.Finished length) = Some (Finished length)
status_of (turn.Contradictory state clash) = Some (Contradictory state clash)
status_of (turn.Undetermined state cell) = Some (Undetermined state cell)
status_of (turn.StateLimit states) = Some (StateLimit states)
status_of (turn.InputMissing state port) = Some (InputMissing state port)
status_of (turn.Over state kind) = Some (limit_end state kind)

-- a run ended with this status
abbrev pub IsEndOfRun : Status → Type 0
IsEndOfRun status = (answer : Turn) × (status_of answer ≡ Some status)

-- a run ends so before it is known whether an interval satisfies the program
abbrev pub IsOpenTurn : Turn → Type 0
IsOpenTurn turn.Went = ⊥
IsOpenTurn (turn.Finished length) = ⊥
IsOpenTurn (turn.Contradictory state clash) = ⊥
IsOpenTurn (turn.Undetermined state cell) = Unit {0}
IsOpenTurn (turn.StateLimit states) = Unit {0}
IsOpenTurn (turn.InputMissing state port) = ⊥
IsOpenTurn (turn.Over state kind) = Unit {0}

-- such a run ended with this status
abbrev pub IsOpenEnd : Status → Type 0
IsOpenEnd status = (answer : Turn) × IsOpenTurn answer × (status_of answer ≡ Some status)

-- A run of the plan settles states with these pictures and no other, and ends with an answer that
-- has this status. At `Finished` the last of them is the state that ends.
pub record RunEnds (plan : Plan) (pictures : List Picture) (status : Status) : Type 0 where
  pub answer : Turn
  pub status_is : status_of answer ≡ Some status
  pub run : RunEndsWith plan pictures answer

-- the variables that are known at the end of such a run
abbrev pub known_at_end : {plan : Plan} {pictures : List Picture} {status : Status}
    → RunEnds plan pictures status → List Variable
known_at_end {plan} {pictures} end = (end_store plan pictures end.answer end.run).variables

-- a run of the plan settles these states, and goes on
abbrev pub RunGoesOn : Plan → List Picture → Type 0
RunGoesOn plan pictures = (next : Moment) × LeadsTo plan pictures next

-- a run of the plan settles these states, and goes on or finishes with the last of them
abbrev pub Settles : Plan → List Picture → Type 0
Settles plan pictures =
    RunGoesOn plan pictures ⊎ ((length : ℕ) × RunEnds plan pictures (Finished length))

-- What the end of a run whose settled states have these pictures says of every interval. Finished:
-- an interval satisfies the program, and shows this or that, exactly where it is an interval of the
-- program with the printed length that agrees with each printed state, and it shows what these
-- show; and there is one. Contradictory, or an input that is missing: none does. Else: each one
-- that does agrees with the printed states and has more states.
abbrev pub EndSays : Plan → List Picture → Turn → Type 0
EndSays plan pictures turn.Went = ⊥
EndSays plan pictures (turn.Finished length) =
    SatisfiedExactly plan pictures length × Satisfiable plan
EndSays plan pictures (turn.Contradictory state clash) = Unsatisfiable plan
EndSays plan pictures (turn.Undetermined state cell) = ContinuesEach plan pictures
EndSays plan pictures (turn.StateLimit states) = ContinuesEach plan pictures
EndSays plan pictures (turn.InputMissing state port) = Unsatisfiable plan
EndSays plan pictures (turn.Over state kind) = ContinuesEach plan pictures

-- ---- the text of a run's states

-- what is left to hold from a moment on, as a phrase
abbrev pub phrase_left : ProgramTree → Moment → List ℕ
phrase_left program m = residual_phrase m.store.variables program.defs m.scene

-- What is written of a settled state: its lines, and what is asked for beside them. The next state
-- begins with this moment, where there is one.
abbrev pub written_state : (beside : Beside) → ProgramTree → Picture → (next : Option Moment)
    → List ℕ
written_state Nothing program picture next = picture_lines program.globals picture
written_state TraceLines program picture next =
    picture_lines program.globals picture
    ++ trace_lines picture.reductions (option_map (phrase_left program) next)

-- of the states that lead from one moment to another
abbrev pub states_text : (beside : Beside) (plan : Plan) (n : ℕ) (m : Moment)
    (pictures : List Picture) (last : Moment) → StatesLead plan n m pictures last → List ℕ
states_text beside plan n m [] last leads = []
states_text beside plan n m (p ∷ ps) last leads =
    written_state beside plan.program p (Some leads.0)
    ++ states_text beside plan (suc n) leads.0 ps last leads.2

-- of those with which a run begins
abbrev pub lead_text : (beside : Beside) (plan : Plan) (pictures : List Picture) (m : Moment)
    → LeadsTo plan pictures m → List ℕ
lead_text beside plan pictures m leads =
    states_text beside plan 0 (first_moment plan.program.globals plan.program.main) pictures m leads

-- of those of a run that ended with this answer; no state comes after the last one of a run that
-- finished
abbrev pub ended_text : (beside : Beside) (plan : Plan) (pictures : List Picture) (answer : Turn)
    → RunEndsWith plan pictures answer → List ℕ
ended_text beside plan pictures turn.Went end = []
ended_text beside plan pictures (turn.Finished length) end =
    lead_text beside plan end.before end.moment end.leads
    ++ written_state beside plan.program end.final None
ended_text beside plan pictures (turn.Contradictory state clash) end =
    lead_text beside plan pictures end.0 end.1
ended_text beside plan pictures (turn.Undetermined state cell) end =
    lead_text beside plan pictures end.0 end.1
ended_text beside plan pictures (turn.StateLimit states) end =
    lead_text beside plan pictures end.0 end.1
ended_text beside plan pictures (turn.InputMissing state port) end =
    lead_text beside plan pictures end.0 end.1
ended_text beside plan pictures (turn.Over state limit) end =
    lead_text beside plan pictures end.0 end.1

-- of those that a run settled, whether it goes on or has finished
abbrev pub settled_text : (beside : Beside) (plan : Plan) (pictures : List Picture)
    → Settles plan pictures → List ℕ
settled_text beside plan pictures (inl goes) = lead_text beside plan pictures goes.0 goes.1
settled_text beside plan pictures (inr end) = ended_text beside plan pictures end.1.answer end.1.run
