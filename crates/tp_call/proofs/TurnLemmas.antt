-- What one answer of a run makes, and what is written of it.
use Rattle.std.proofs.Common.{◌≡◌, ℕ, zero, suc, true, List, Option, Some, None, IfSome, Err, refl, ap, sym, ◌∙◌, subst}
use Rattle.tp_io.specs.Devices.{Writes}
use Rattle.tp_io.specs.declared.refusal.WriteRefusal.{WriteRefusal}
use Rattle.tp_io.specs.declared.refusal.WriteRefusal.TheVariants as sink
use Rattle.tp_kernel.specs.declared.fault.LimitKind.TheVariants as limit
use Rattle.tp_show.specs.declared.turn.Picture.{Picture}
use Rattle.tp_show.specs.declared.turn.Turn.{Turn}
use Rattle.tp_show.specs.declared.turn.Turn.TheVariants as turn
use Rattle.tp_meaning.specs.Interval.{ProgramTree, kinds_of}
use Rattle.tp_scene.specs.Scene.{Scene}
use Rattle.tp_scene.specs.Pick.{Moment}
use Rattle.tp_residual.specs.Carried.{AreCarried}
use Rattle.tp_residual.proofs.Carried.{next_scenes_are_carried}
use Rattle.tp_run.specs.History.{Plan, setting}
use Rattle.tp_run.specs.Standing.{RunPlace, Standing, open_at, answered, spent, state_after, StateBecomes, AnswersState}
use Rattle.tp_run.specs.Runs.{StandsSound, carried_scene}
use Rattle.tp_show.specs.Line.{line_parts, plain_parts}
use Rattle.tp_call.specs.Places.{StandsOpen}
use Rattle.tp_call.specs.declared.status.Status.{Status}
use Rattle.tp_call.specs.declared.status.Status.TheVariants.{Finished, Done, Contradictory, Undetermined, StateLimit, ReductionLimit, NumberLimit, ListLimit, CallLimit, NestLimit, InputMissing, SourceRefused, InputsRefused, WordsRefused, TooLong, ReadFault, WriteFault, NoMemory, OtherRefused, TraceTooLong}
use Rattle.tp_show.specs.Told.{IsPictureInRange, IsLastTurn}
use Rattle.tp_call.specs.Progress.{last_answer, next_moment, Turned, is_settled, printed_lines, AnswerMade, TurnMade}
use Rattle.tp_call.specs.Run.{limit_end, status_of, written_state, IsEndOfRun, IsOpenTurn, IsOpenEnd}
use Rattle.tp_call.specs.Files.{Wrote}
use Rattle.tp_call.proofs.EndKinds.{EndsRun, StaysOpen}
use Rattle.tp_words.specs.declared.beside.Beside.{Beside}

-- the call gives this answer, and what was to be written of it, by the run's program, was
module _ (plan : Plan) (beside : Beside) (from to : RunPlace) (answer : Turn) (earlier picture : Picture) (answers : AnswersState plan from earlier picture to answer) (before : Option (List ℕ)) (program : ProgramTree) (own : program ≡ plan.program) where
  abbrev lines : ProgramTree → List ℕ
  lines p = printed_lines beside p answer picture (next_moment to)

  pub answer_made : (after : Option (List ℕ)) (last : Option Turn) → last ≡ last_answer answer → Wrote before after (lines program) → (is_settled answer ≡ true → IsPictureInRange picture)
      → AnswerMade plan beside from to before after last
  answer_made after last is wrote range =
      record { answer = answer; last_is = is; picture = picture; turned = record { earlier = earlier; answers = answers }; wrote = subst (λ p. Wrote before after (lines p)) own wrote; range = range }

  -- a settled state whose lines aren't written as a whole
  write_stopped : (after : Option (List ℕ)) (refusal : WriteRefusal) → is_settled answer ≡ true → Writes {T = Unit {0}} before after (lines plan.program) (Err refusal)
      → TurnMade plan beside from to before after (Err refusal)
  write_stopped after sink.Failed settled wrote =
      record { picture = picture; answer = answer; settled = settled; turned = record { earlier = earlier; answers = answers }; kept = wrote.0; wrote = rw settled at wrote.2 }
  write_stopped after sink.NoMemory settled wrote = wrote

  pub write_stopped_so : (after : Option (List ℕ)) (refusal : WriteRefusal) → is_settled answer ≡ true → Writes {T = Unit {0}} before after (lines program) (Err refusal)
      → TurnMade plan beside from to before after (Err refusal)
  write_stopped_so after refusal settled wrote = write_stopped after refusal settled (subst (λ p. Writes {T = Unit {0}} before after (lines p) (Err refusal)) own wrote)

-- an answer that isn't the last one goes on, and its state's lines were written
pub record WentOn (plan : Plan) (beside : Beside) (from to : RunPlace) (before after : Option (List ℕ)) (picture : Picture) : Type 0 where
  pub turned : Turned plan from to turn.Went picture
  pub wrote : Wrote before after (written_state beside plan.program picture (next_moment to))
  pub range : IsPictureInRange picture

pub went_on : (plan : Plan) (beside : Beside) (from to : RunPlace) (before after : Option (List ℕ)) (made : AnswerMade plan beside from to before after None) → WentOn plan beside from to before after made.picture
went_on plan beside from to before after made = by made.answer refl where
  by : (answer : Turn) → made.answer ≡ answer → WentOn plan beside from to before after made.picture
  by turn.Went e = record {
    turned = subst (λ t. Turned plan from to t made.picture) e made.turned;
    wrote = subst (λ t. Wrote before after (printed_lines beside plan.program t made.picture (next_moment to))) e made.wrote;
    range = made.range (ap is_settled e);
  }
  by (turn.Finished length) e = let bad : None ≡ last_answer (turn.Finished length) = made.last_is ∙ ap last_answer e in absurd (cc)
  by (turn.Contradictory state clash) e = let bad : None ≡ last_answer (turn.Contradictory state clash) = made.last_is ∙ ap last_answer e in absurd (cc)
  by (turn.Undetermined state cell) e = let bad : None ≡ last_answer (turn.Undetermined state cell) = made.last_is ∙ ap last_answer e in absurd (cc)
  by (turn.StateLimit states) e = let bad : None ≡ last_answer (turn.StateLimit states) = made.last_is ∙ ap last_answer e in absurd (cc)
  by (turn.InputMissing state port) e = let bad : None ≡ last_answer (turn.InputMissing state port) = made.last_is ∙ ap last_answer e in absurd (cc)
  by (turn.Over state limit) e = let bad : None ≡ last_answer (turn.Over state limit) = made.last_is ∙ ap last_answer e in absurd (cc)

-- only with `Went` a run goes on
pub goes_with : (answer : Turn) → None ≡ last_answer answer → answer ≡ turn.Went
goes_with turn.Went e = refl
goes_with (turn.Finished n) e = absurd (cc (e))
goes_with (turn.Contradictory state clash) e = absurd (cc (e))
goes_with (turn.Undetermined state cell) e = absurd (cc (e))
goes_with (turn.StateLimit states) e = absurd (cc (e))
goes_with (turn.InputMissing state port) e = absurd (cc (e))
goes_with (turn.Over state limit) e = absurd (cc (e))

-- the last answer is the one that was given
pub last_is_given : (answer last : Turn) → Some last ≡ last_answer answer → answer ≡ last
last_is_given turn.Went last e = cc
last_is_given _ last e = cc

-- and the run doesn't go on with it
pub is_last : (answer last : Turn) → Some last ≡ last_answer answer → IsLastTurn last
is_last turn.Went last e = cc
is_last (turn.Finished length) last e = subst IsLastTurn (last_is_given (turn.Finished length) last e) tt
is_last (turn.Contradictory state clash) last e = subst IsLastTurn (last_is_given (turn.Contradictory state clash) last e) tt
is_last (turn.Undetermined state cell) last e = subst IsLastTurn (last_is_given (turn.Undetermined state cell) last e) tt
is_last (turn.StateLimit states) last e = subst IsLastTurn (last_is_given (turn.StateLimit states) last e) tt
is_last (turn.InputMissing state port) last e = subst IsLastTurn (last_is_given (turn.InputMissing state port) last e) tt
is_last (turn.Over state limit) last e = subst IsLastTurn (last_is_given (turn.Over state limit) last e) tt

-- a last answer has a status
pub has_status : (turn : Turn) → IsLastTurn turn → status_of turn ≡ None → ⊥
has_status turn.Went l e = l
has_status (turn.Finished length) l e = absurd (cc)
has_status (turn.Contradictory state clash) l e = absurd (cc)
has_status (turn.Undetermined state cell) l e = absurd (cc)
has_status (turn.StateLimit states) l e = absurd (cc)
has_status (turn.InputMissing state port) l e = absurd (cc)
has_status (turn.Over state limit) l e = absurd (cc)

-- the answer with which a run ends that has this status; a status that no run ends with has none, and `Went` stands for it
abbrev pub answer_of : Status → Turn
answer_of (Finished length) = turn.Finished length
answer_of (Contradictory state clash) = turn.Contradictory state clash
answer_of (Undetermined state cell) = turn.Undetermined state cell
answer_of (StateLimit states) = turn.StateLimit states
answer_of (ReductionLimit state) = turn.Over state limit.Reductions
answer_of (NumberLimit state) = turn.Over state limit.Number
answer_of (ListLimit state) = turn.Over state limit.List
answer_of (CallLimit state) = turn.Over state limit.Calls
answer_of (NestLimit state) = turn.Over state limit.Nest
answer_of (InputMissing state port) = turn.InputMissing state port
answer_of Done = turn.Went
answer_of (SourceRefused line column kind) = turn.Went
answer_of (InputsRefused line) = turn.Went
answer_of (OtherRefused line) = turn.Went
answer_of (TraceTooLong states) = turn.Went
answer_of WordsRefused = turn.Went
answer_of (TooLong which) = turn.Went
answer_of (ReadFault which) = turn.Went
answer_of WriteFault = turn.Went
answer_of NoMemory = turn.Went

some_is : {A : Type 0} {a b : A} → Some a ≡ Some b → a ≡ b
some_is e = cc

-- each status is that of one answer
pub answer_is : (answer : Turn) (status : Status) → status_of answer ≡ Some status → answer ≡ answer_of status
answer_is turn.Went status e = cc
answer_is (turn.Finished length) status e = subst (λ s. turn.Finished length ≡ answer_of s) (some_is e) refl
answer_is (turn.Contradictory state clash) status e = subst (λ s. turn.Contradictory state clash ≡ answer_of s) (some_is e) refl
answer_is (turn.Undetermined state cell) status e = subst (λ s. turn.Undetermined state cell ≡ answer_of s) (some_is e) refl
answer_is (turn.StateLimit states) status e = subst (λ s. turn.StateLimit states ≡ answer_of s) (some_is e) refl
answer_is (turn.InputMissing state port) status e = subst (λ s. turn.InputMissing state port ≡ answer_of s) (some_is e) refl
answer_is (turn.Over state limit.Reductions) status e = subst (λ s. turn.Over state limit.Reductions ≡ answer_of s) (some_is e) refl
answer_is (turn.Over state limit.Number) status e = subst (λ s. turn.Over state limit.Number ≡ answer_of s) (some_is e) refl
answer_is (turn.Over state limit.List) status e = subst (λ s. turn.Over state limit.List ≡ answer_of s) (some_is e) refl
answer_is (turn.Over state limit.Calls) status e = subst (λ s. turn.Over state limit.Calls ≡ answer_of s) (some_is e) refl
answer_is (turn.Over state limit.Nest) status e = subst (λ s. turn.Over state limit.Nest ≡ answer_of s) (some_is e) refl

-- which is one with which a run ends
pub ends_run : (answer : Turn) (status : Status) → status_of answer ≡ Some status → EndsRun status
ends_run turn.Went status e = cc
ends_run (turn.Finished length) status e = subst EndsRun (some_is e) tt
ends_run (turn.Contradictory state clash) status e = subst EndsRun (some_is e) tt
ends_run (turn.Undetermined state cell) status e = subst EndsRun (some_is e) tt
ends_run (turn.StateLimit states) status e = subst EndsRun (some_is e) tt
ends_run (turn.InputMissing state port) status e = subst EndsRun (some_is e) tt
ends_run (turn.Over state limit.Reductions) status e = subst EndsRun (some_is e) tt
ends_run (turn.Over state limit.Number) status e = subst EndsRun (some_is e) tt
ends_run (turn.Over state limit.List) status e = subst EndsRun (some_is e) tt
ends_run (turn.Over state limit.Calls) status e = subst EndsRun (some_is e) tt
ends_run (turn.Over state limit.Nest) status e = subst EndsRun (some_is e) tt

-- the two ways of saying it are one
pub end_seen : (status : Status) → IsEndOfRun status → EndsRun status
end_seen status end = ends_run end.0 status end.1

pub end_told : (status : Status) → EndsRun status → IsEndOfRun status
end_told (Finished length) end = (turn.Finished length, refl)
end_told (Contradictory state clash) end = (turn.Contradictory state clash, refl)
end_told (Undetermined state cell) end = (turn.Undetermined state cell, refl)
end_told (StateLimit states) end = (turn.StateLimit states, refl)
end_told (ReductionLimit state) end = (turn.Over state limit.Reductions, refl)
end_told (NumberLimit state) end = (turn.Over state limit.Number, refl)
end_told (ListLimit state) end = (turn.Over state limit.List, refl)
end_told (CallLimit state) end = (turn.Over state limit.Calls, refl)
end_told (NestLimit state) end = (turn.Over state limit.Nest, refl)
end_told (InputMissing state port) end = (turn.InputMissing state port, refl)
end_told status end = absurd end

-- the same of those that leave it open
pub open_seen : (status : Status) → IsOpenEnd status → StaysOpen status
open_seen status end = by end.0 end.1 end.2
  where
    by : (answer : Turn) → IsOpenTurn answer → status_of answer ≡ Some status → StaysOpen status
    by (turn.Undetermined state cell) o e = subst StaysOpen (some_is e) tt
    by (turn.StateLimit states) o e = subst StaysOpen (some_is e) tt
    by (turn.Over state limit.Reductions) o e = subst StaysOpen (some_is e) tt
    by (turn.Over state limit.Number) o e = subst StaysOpen (some_is e) tt
    by (turn.Over state limit.List) o e = subst StaysOpen (some_is e) tt
    by (turn.Over state limit.Calls) o e = subst StaysOpen (some_is e) tt
    by (turn.Over state limit.Nest) o e = subst StaysOpen (some_is e) tt
    by answer o e = absurd o

-- the parts of the picture of a state that is settled are those of its facts
pub settled_parts : (plan : Plan) (from to : RunPlace) (old new : Picture) (answer : Turn) → StandsOpen from.standing → AnswersState plan from old new to answer → is_settled answer ≡ true → plain_parts new.parts ≡ line_parts new.facts
settled_parts plan from to old new answer stands made settled = at from.standing stands made where
  at : (standing : Standing) → StandsOpen standing → AnswersState plan (record { standing = standing; state = from.state; store = from.store }) old new to answer → plain_parts new.parts ≡ line_parts new.facts
  at (answered last m) o a = absurd o
  at spent o a = absurd o
  at (open_at moment) o a = by answer settled a.0 where
    by : (turn : Turn) → is_settled turn ≡ true → StateBecomes plan from.state moment old new to.standing to.store turn → plain_parts new.parts ≡ line_parts new.facts
    by turn.Went e b = b.1.picture_is.parts
    by (turn.Finished length) e b = b.0.picture_is.parts
    by _ e b = cc

carries_none : (n : ℕ) (turn : Turn) (m : Moment) → carried_scene n (answered turn m) ≡ None
carries_none zero turn m = refl
carries_none (suc n) turn m = refl

-- what is carried to the next state
pub carries_next : (to : RunPlace) (n : ℕ) (m : Moment) → to.standing ≡ open_at m → to.state ≡ suc n → carried_scene to.state to.standing ≡ Some m.scene
carries_next to n m stands state = ap (λ z. carried_scene to.state z) stands ∙ ap (λ k. carried_scene k (open_at m)) state

-- after its last answer a run carries nothing
pub carries_nothing : (to : RunPlace) (turn : Turn) (m : Moment) → to.standing ≡ answered turn m → carried_scene to.state to.standing ≡ None
carries_nothing to turn m stands = ap (λ z. carried_scene to.state z) stands ∙ carries_none to.state turn m

abbrev Carries : Option Scene → Type 0
Carries carried = IfSome carried (λ s. AreCarried s.root.entries)

-- what a settled state leaves is as a state begins
pub settled_carries : (plan : Plan) (from to : RunPlace) (old new : Picture) (answer : Turn) → StandsOpen from.standing → StandsSound plan from.state from.standing → AnswersState plan from old new to answer → is_settled answer ≡ true
    → IfSome (carried_scene to.state to.standing) (λ s. AreCarried s.root.entries)
settled_carries plan from to old new answer stands sound made settled = at from.standing stands sound made where
  at : (standing : Standing) → StandsOpen standing → StandsSound plan from.state standing → AnswersState plan (record { standing = standing; state = from.state; store = from.store }) old new to answer → Carries (carried_scene to.state to.standing)
  at (answered last m) o s a = absurd o
  at spent o s a = absurd o
  at (open_at moment) o s a = by answer settled a.0 a.1 where
    by : (turn : Turn) → is_settled turn ≡ true → StateBecomes plan from.state moment old new to.standing to.store turn → to.state ≡ state_after from.state turn → Carries (carried_scene to.state to.standing)
    by turn.Went e b next =
        let g = b.1.goes in
        let due = next_scenes_are_carried.goes (setting plan from.state) (kinds_of plan.program.globals) plan.reductions moment b.1.picks b.1.last b.0 s g in
        subst Carries (sym (carries_next to from.state b.0 b.2 next)) due
    by (turn.Finished length) e b next = subst Carries (sym (carries_nothing to (turn.Finished length) b.0.last b.2)) tt
    by _ e b next = cc

pub status_there : (turn : Turn) → IsLastTurn turn → (status : Status) × (status_of turn ≡ Some status)
status_there turn.Went l = absurd l
status_there (turn.Finished length) l = (Finished length, refl)
status_there (turn.Contradictory state clash) l = (Contradictory state clash, refl)
status_there (turn.Undetermined state cell) l = (Undetermined state cell, refl)
status_there (turn.StateLimit states) l = (StateLimit states, refl)
status_there (turn.InputMissing state port) l = (InputMissing state port, refl)
status_there (turn.Over state kind) l = (limit_end state kind, refl)
