-- What the table of the answers says of each answer.
use Rattle.std.proofs.Common.{◌≡◌, ◌⊎◌, ◌<◌, ◌^◌, inl, inr, ℕ, List, length, Option, None, sym, subst, arith}
use Rattle.tp_io.specs.Held.{Held}
use Rattle.tp_scene.specs.declared.answer.Cell.{Cell}
use Rattle.tp_scene.specs.declared.answer.Clash.{Clash}
use Rattle.tp_show.specs.declared.turn.Picture.{Picture}
use Rattle.tp_show.specs.Told.{FitsIn64Bits, IsLastTurn}
use Rattle.tp_run.specs.History.{Plan, RunEndsWith, ContinuesEach}
use Rattle.tp_words.specs.Words.{wanted_of}
use Rattle.tp_call.specs.declared.status.Status.{Status}
use Rattle.tp_call.specs.declared.status.Status.TheVariants.{Finished, Done, Contradictory, Undetermined, StateLimit, ReductionLimit, NumberLimit, ListLimit, CallLimit, NestLimit, InputMissing, SourceRefused, InputsRefused, WordsRefused, TooLong, OtherRefused, TraceTooLong}
use Rattle.tp_call.specs.declared.status.Which.{Which}
use Rattle.tp_call.specs.declared.status.Which.TheVariants.{Source, Inputs, Other}
use Rattle.tp_call.specs.declared.status.SourceKind.{SourceKind}
use Rattle.tp_call.specs.Answer.{WhereTold, HoldsRefused, Spells, Converts, IsPastLimit, HasBadLine, HasBadTraceLine, HasManyStates, ReadsFile, Refuses, CallEnds, Answers, Prints, WritesVerdict}
use Rattle.tp_call.specs.Run.{EndSays, IsOpenEnd}
use Rattle.tp_call.specs.Files.{Wrote}
use Rattle.tp_call.specs.Text.{AsksNothingBeside, TextTells, SatisfiedAsTold, ContinuesTold, finished_line}
use Rattle.tp_call.proofs.EndKinds.{EndsRun, StaysOpen}
use Rattle.tp_call.proofs.TurnLemmas.{answer_of, answer_is, ends_run, open_seen}
use Rattle.tp_call.proofs.TextLemmas.{tells_finished, tells_open}
use Rattle.tp_call.proofs.JudgedLemmas.{writes_verdict}

module _ (words : List (List ℕ)) (held : Option Held) (old new : Option (List ℕ)) where
  -- an answer that is no failure is that of a run, of a source that is printed, of inputs that are converted, or a refusal
  run_alone : (status : Status) → (Refuses words held status → ⊥) → EndsRun status → (text : List ℕ) × CallEnds words held status text × Wrote old new text → Prints words held old new status (λ p printed. EndSays p printed (answer_of status))
  run_alone status never end (text, inl run, wrote) = record {
    plan = run.plan;
    pictures = run.pictures;
    asked = run.asked;
    run = run.run;
    appended = subst (Wrote old new) run.written wrote;
    fits = run.fits;
    names = run.names;
    states = run.states;
    range = run.range;
    says = subst (EndSays run.plan run.pictures) (answer_is run.run.answer status run.run.status_is) run.says;
  }
  run_alone status never end (text, inr (inl spelled), wrote) = absurd (subst EndsRun spelled.status_is end)
  run_alone status never end (text, inr (inr (inl made)), wrote) = absurd (subst EndsRun made.status_is end)
  run_alone status never end (text, inr (inr (inr (inl judges))), wrote) = absurd (subst EndsRun judges.status_is end)
  run_alone status never end (text, inr (inr (inr (inr refused))), wrote) = absurd (never refused.0)

  -- no run ends with such a status, which is then a refusal's
  refusal_alone : (status : Status) → (EndsRun status → ⊥) → (status ≡ Done → ⊥) → (text : List ℕ) × CallEnds words held status text × Wrote old new text → Refuses words held status
  refusal_alone status never other (text, inl run, wrote) = absurd (never (ends_run run.run.answer status run.run.status_is))
  refusal_alone status never other (text, inr (inl spelled), wrote) = absurd (other spelled.status_is)
  refusal_alone status never other (text, inr (inr (inl made)), wrote) = absurd (other made.status_is)
  refusal_alone status never other (text, inr (inr (inr (inl judges))), wrote) = absurd (other judges.status_is)
  refusal_alone status never other (text, inr (inr (inr (inr refused))), wrote) = refused.0

  -- no run ends so, and no refusal does
  text_alone : (text : List ℕ) × CallEnds words held Done text × Wrote old new text → ((text : List ℕ) × (Spells words held Done text ⊎ Converts words held Done text) × Wrote old new text) ⊎ WritesVerdict words held old new
  text_alone (text, inl run, wrote) = absurd (ends_run run.run.answer Done run.run.status_is)
  text_alone (text, inr (inl spelled), wrote) = inl (text, inl spelled, wrote)
  text_alone (text, inr (inr (inl made)), wrote) = inl (text, inr made, wrote)
  text_alone (text, inr (inr (inr (inl judges))), wrote) = inr (writes_verdict words held old new judges.verdict judges.judged (subst (Wrote old new) judges.written wrote))
  text_alone (text, inr (inr (inr (inr refused))), wrote) = absurd refused.0

  pub done : (result : Status) → Answers words held old new result → result ≡ Done → ((text : List ℕ) × (Spells words held Done text ⊎ Converts words held Done text) × Wrote old new text) ⊎ WritesVerdict words held old new
  done result a is = text_alone (subst (Answers words held old new) is a)

  pub finished : (result : Status) → Answers words held old new result → (length : ℕ) → result ≡ Finished length → Prints words held old new (Finished length) (λ p printed. EndSays p printed (answer_of (Finished length)))
  finished result a n is = run_alone (Finished n) (λ r. r) tt (subst (Answers words held old new) is a)

  pub contradictory : (result : Status) → Answers words held old new result → (state : ℕ) (clash : Clash) → result ≡ Contradictory state clash → Prints words held old new (Contradictory state clash) (λ p printed. EndSays p printed (answer_of (Contradictory state clash)))
  contradictory result a state clash is = run_alone (Contradictory state clash) (λ r. r) tt (subst (Answers words held old new) is a)

  pub undetermined : (result : Status) → Answers words held old new result → (state : ℕ) (cell : Cell) → result ≡ Undetermined state cell → Prints words held old new (Undetermined state cell) (λ p printed. EndSays p printed (answer_of (Undetermined state cell)))
  undetermined result a state cell is = run_alone (Undetermined state cell) (λ r. r) tt (subst (Answers words held old new) is a)

  -- as many states were printed as there may be
  pub state_limit : (result : Status) → Answers words held old new result → (states : ℕ) → result ≡ StateLimit states
      → Prints words held old new (StateLimit states) (λ p printed. ContinuesEach p printed × (states ≡ length printed) × (states ≡ p.states))
  state_limit result a states is =
      let p = run_alone (StateLimit states) (λ r. r) tt (subst (Answers words held old new) is a) in
      let run = subst (RunEndsWith p.plan p.pictures) (answer_is p.run.answer (StateLimit states) p.run.status_is) p.run.run in
      record { plan = p.plan; pictures = p.pictures; asked = p.asked; run = p.run; appended = p.appended; fits = p.fits; names = p.names; states = p.states; range = p.range; says = (p.says, run.2, run.3) }

  pub reduction_limit : (result : Status) → Answers words held old new result → (state : ℕ) → result ≡ ReductionLimit state → Prints words held old new (ReductionLimit state) (λ p printed. EndSays p printed (answer_of (ReductionLimit state)))
  reduction_limit result a state is = run_alone (ReductionLimit state) (λ r. r) tt (subst (Answers words held old new) is a)

  pub number_limit : (result : Status) → Answers words held old new result → (state : ℕ) → result ≡ NumberLimit state → Prints words held old new (NumberLimit state) (λ p printed. EndSays p printed (answer_of (NumberLimit state)))
  number_limit result a state is = run_alone (NumberLimit state) (λ r. r) tt (subst (Answers words held old new) is a)

  pub list_limit : (result : Status) → Answers words held old new result → (state : ℕ) → result ≡ ListLimit state → Prints words held old new (ListLimit state) (λ p printed. EndSays p printed (answer_of (ListLimit state)))
  list_limit result a state is = run_alone (ListLimit state) (λ r. r) tt (subst (Answers words held old new) is a)

  pub call_limit : (result : Status) → Answers words held old new result → (state : ℕ) → result ≡ CallLimit state → Prints words held old new (CallLimit state) (λ p printed. EndSays p printed (answer_of (CallLimit state)))
  call_limit result a state is = run_alone (CallLimit state) (λ r. r) tt (subst (Answers words held old new) is a)

  pub nest_limit : (result : Status) → Answers words held old new result → (state : ℕ) → result ≡ NestLimit state → Prints words held old new (NestLimit state) (λ p printed. EndSays p printed (answer_of (NestLimit state)))
  nest_limit result a state is = run_alone (NestLimit state) (λ r. r) tt (subst (Answers words held old new) is a)

  pub input_missing : (result : Status) → Answers words held old new result → (state : ℕ) (port : List ℕ) → result ≡ InputMissing state port → Prints words held old new (InputMissing state port) (λ p printed. EndSays p printed (answer_of (InputMissing state port)))
  input_missing result a state port is = run_alone (InputMissing state port) (λ r. r) tt (subst (Answers words held old new) is a)

  -- the same for whoever has the text alone
  pub finished_text : (result : Status) → Answers words held old new result → (length : ℕ) → result ≡ Finished length → AsksNothingBeside words
      → TextTells words held old new (λ plan told last. (n : ℕ) → FitsIn64Bits n → last ≡ finished_line n → SatisfiedAsTold plan told n)
  finished_text result a n is plain =
      let p = finished result a n is in
      let answer = answer_is p.run.answer (Finished n) p.run.status_is in
      let run = subst (RunEndsWith p.plan p.pictures) answer p.run.run in
      let within = run.ends.within in
      let small : n < 2 ^ 64 = omega (arith, run.count, within, p.states) in
      tells_finished words held old new (Finished n) _ p (plain p.asked.wanted p.asked.accepted) p.fits (subst IsLastTurn (sym answer) tt) n answer small p.says.0

  open_by : (status : Status) → Prints words held old new status (λ p printed. EndSays p printed (answer_of status)) → IsLastTurn (answer_of status) → ((plan : Plan) (printed : List Picture) → EndSays plan printed (answer_of status) → ContinuesEach plan printed) → AsksNothingBeside words
      → TextTells words held old new (λ plan told last. ContinuesTold plan told)
  open_by status p last says plain =
      let answer = answer_is p.run.answer status p.run.status_is in
      tells_open words held old new status _ p (plain p.asked.wanted p.asked.accepted) p.fits (subst IsLastTurn (sym answer) last) (says p.plan p.pictures p.says)

  text_left_open : (result : Status) → Answers words held old new result → StaysOpen result → AsksNothingBeside words → TextTells words held old new (λ plan told last. ContinuesTold plan told)
  text_left_open (Undetermined state cell) a o plain = open_by (Undetermined state cell) (run_alone (Undetermined state cell) (λ r. r) tt a) tt (λ plan printed h. h) plain
  text_left_open (StateLimit states) a o plain = open_by (StateLimit states) (run_alone (StateLimit states) (λ r. r) tt a) tt (λ plan printed h. h) plain
  text_left_open (ReductionLimit state) a o plain = open_by (ReductionLimit state) (run_alone (ReductionLimit state) (λ r. r) tt a) tt (λ plan printed h. h) plain
  text_left_open (NumberLimit state) a o plain = open_by (NumberLimit state) (run_alone (NumberLimit state) (λ r. r) tt a) tt (λ plan printed h. h) plain
  text_left_open (ListLimit state) a o plain = open_by (ListLimit state) (run_alone (ListLimit state) (λ r. r) tt a) tt (λ plan printed h. h) plain
  text_left_open (CallLimit state) a o plain = open_by (CallLimit state) (run_alone (CallLimit state) (λ r. r) tt a) tt (λ plan printed h. h) plain
  text_left_open (NestLimit state) a o plain = open_by (NestLimit state) (run_alone (NestLimit state) (λ r. r) tt a) tt (λ plan printed h. h) plain
  text_left_open _ a o plain = absurd o

  pub open_text : (result : Status) → Answers words held old new result → IsOpenEnd result → AsksNothingBeside words → TextTells words held old new (λ plan told last. ContinuesTold plan told)
  open_text result a end = text_left_open result a (open_seen result end)

  pub words_refused_only : (result : Status) → Answers words held old new result → result ≡ WordsRefused → wanted_of words ≡ None
  words_refused_only result a is = refusal_alone WordsRefused (λ e. e) (λ e. cc) (subst (Answers words held old new) is a)

  pub too_long_only : (result : Status) → Answers words held old new result → (which : Which) → result ≡ TooLong which → ReadsFile words (WhereTold held) which (λ mode. IsPastLimit which)
  too_long_only result a which is = refusal_alone (TooLong which) (λ e. e) (λ e. cc) (subst (Answers words held old new) is a)

  pub source_refused_only : (result : Status) → Answers words held old new result → (line column : ℕ) (kind : SourceKind) → result ≡ SourceRefused line column kind → ReadsFile words (WhereTold held) Source (HoldsRefused (record { line = line; column = column; kind = kind }))
  source_refused_only result a line column kind is = refusal_alone (SourceRefused line column kind) (λ e. e) (λ e. cc) (subst (Answers words held old new) is a)

  pub inputs_refused_only : (result : Status) → Answers words held old new result → (line : ℕ) → result ≡ InputsRefused line → ReadsFile words (WhereTold held) Inputs (λ mode. HasBadLine line)
  inputs_refused_only result a line is = refusal_alone (InputsRefused line) (λ e. e) (λ e. cc) (subst (Answers words held old new) is a)

  pub other_refused_only : (result : Status) → Answers words held old new result → (line : ℕ) → result ≡ OtherRefused line → ReadsFile words (WhereTold held) Other (λ mode. HasBadTraceLine line)
  other_refused_only result a line is = refusal_alone (OtherRefused line) (λ e. e) (λ e. cc) (subst (Answers words held old new) is a)

  pub trace_too_long_only : (result : Status) → Answers words held old new result → (states : ℕ) → result ≡ TraceTooLong states → ReadsFile words (WhereTold held) Other (λ mode. HasManyStates states)
  trace_too_long_only result a states is = refusal_alone (TraceTooLong states) (λ e. e) (λ e. cc) (subst (Answers words held old new) is a)
