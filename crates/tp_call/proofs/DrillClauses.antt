-- What is said of words that ask for a drill, and of those that ask for none.
use Rattle.std.proofs.Common.{◌≡◌, ◌≢◌, ◌⊎◌, inl, inr, ℕ, List, [], Option, Some, None, refl, sym, ap, ◌∙◌, subst}
use Rattle.tp_io.specs.Held.{Held}
use Rattle.tp_inputs.specs.Within.{InputsWithin}
use Rattle.tp_meaning.specs.Inputs.{InputTable}
use Rattle.tp_meaning.specs.Interval.{ProgramTree}
use Rattle.tp_meaning.specs.Fits.{ProgramFits}
use Rattle.tp_gen.specs.Source.{source_text}
use Rattle.tp_show.specs.declared.turn.Picture.{Picture}
use Rattle.tp_show.specs.declared.turn.Turn.{Turn}
use Rattle.tp_run.specs.History.{RunEndsWith, Plan, plan_with}
use Rattle.tp_run_laws.specs.Agree.{IsOrderlyPlan}
use Rattle.tp_run_laws.proofs.AlikeRuns.{runs_agree}
use Rattle.tp_words.specs.declared.mode.Mode.{Mode}
use Rattle.tp_words.specs.declared.mode.Mode.TheVariants.{Run, Print, Convert, Check, Drill}
use Rattle.tp_words.specs.Words.{Wanted, wanted_of}
use Rattle.tp_call.specs.declared.status.Status.{Status}
use Rattle.tp_call.specs.declared.status.Status.TheVariants.{Finished, Done, SourceRefused, InputsRefused, WordsRefused, TooLong, ReadFault, WriteFault, NoMemory, OtherRefused, TraceTooLong}
use Rattle.tp_call.specs.declared.status.Refused.{Refused}
use Rattle.tp_call.specs.declared.status.Which.{Which}
use Rattle.tp_call.specs.EndLine.{refusal_line}
use Rattle.tp_call.specs.Run.{RunEnds}
use Rattle.tp_call.specs.Files.{Wrote, NamedFile, files_read, IsFoundIn}
use Rattle.tp_call.specs.Answer.{ReadsFile, Refuses, refused_status}
use Rattle.tp_call.specs.Parts.{IsProgramRefusal, ClosesText}
use Rattle.tp_call.specs.EachRun.{ComesTo}
use Rattle.tp_call.specs.Drill.{AsksForDrill, AsksNoDrill, IsAskedToDrill, DrillFinished, DrillStopped, DrillRefused, DrillEnds, DrillAnswers, DrillSays, DrillComesTo, DrillComesToEachEnd}
use Rattle.tp_call.proofs.EndKinds.{EndsRun}
use Rattle.tp_call.proofs.ProgramLemmas.{one_program, program_or_refused}
use Rattle.tp_call.proofs.TurnLemmas.{ends_run}

-- the other modes are no drill
pub run_apart : (size : ℕ) → Run ≡ Drill size → ⊥
run_apart size e = cc (e)

pub print_apart : (size : ℕ) → Print ≡ Drill size → ⊥
print_apart size e = cc (e)

pub convert_apart : (size : ℕ) → Convert ≡ Drill size → ⊥
convert_apart size e = cc (e)

pub check_apart : (size : ℕ) → Check ≡ Drill size → ⊥
check_apart size e = cc (e)

module _ (words : List (List ℕ)) where
  -- accepted words ask for one thing
  one_wanted : (w v : Wanted) → wanted_of words ≡ Some w → wanted_of words ≡ Some v → w ≡ v
  one_wanted w v p q = let both : Some w ≡ Some v = sym p ∙ q in cc

  mode_of_drill : (size : ℕ) → AsksForDrill words size → (w : Wanted) → wanted_of words ≡ Some w → w.mode ≡ Drill size
  mode_of_drill size asks w p = ap (λ (v : Wanted). v.mode) (one_wanted w asks.wanted p asks.accepted) ∙ asks.mode

  -- a mode that is none asks for none
  pub other_mode : (w : Wanted) → wanted_of words ≡ Some w → (mode : Mode) → w.mode ≡ mode → ((size : ℕ) → mode ≡ Drill size → ⊥) → AsksNoDrill words
  other_mode w p mode is apart = λ size asks. apart size (sym is ∙ mode_of_drill size asks w p)

  by_mode : (w : Wanted) → wanted_of words ≡ Some w → (mode : Mode) → w.mode ≡ mode → AsksNoDrill words ⊎ ((size : ℕ) × AsksForDrill words size)
  by_mode w p Run is = inl (other_mode w p Run is run_apart)
  by_mode w p Print is = inl (other_mode w p Print is print_apart)
  by_mode w p Convert is = inl (other_mode w p Convert is convert_apart)
  by_mode w p Check is = inl (other_mode w p Check is check_apart)
  by_mode w p (Drill size) is = inr (size, record { wanted = w; accepted = p; mode = is })

  by_wanted : (o : Option Wanted) → wanted_of words ≡ o → AsksNoDrill words ⊎ ((size : ℕ) × AsksForDrill words size)
  by_wanted None none = inl (λ size asks. let bad : Some asks.wanted ≡ None = sym asks.accepted ∙ none in cc)
  by_wanted (Some w) p = by_mode w p w.mode refl

  -- either they ask for a drill or not, so what follows from both follows
  pub either_way : (T : Type 0) → (AsksNoDrill words → T) → ((size : ℕ) → AsksForDrill words size → T) → T
  either_way T none some = by (by_wanted (wanted_of words) refl)
    where
      by : AsksNoDrill words ⊎ ((size : ℕ) × AsksForDrill words size) → T
      by (inl no_drill) = none no_drill
      by (inr drill) = some drill.0 drill.1

  module _ (size : ℕ) (asks : AsksForDrill words size) where
    pub accepted_words : wanted_of words ≡ None → ⊥
    accepted_words none = let bad : Some asks.wanted ≡ None = sym asks.accepted ∙ none in cc

    pub not_run : (w : Wanted) → wanted_of words ≡ Some w → w.mode ≡ Run → ⊥
    not_run w p is = run_apart size (sym is ∙ mode_of_drill size asks w p)

    pub not_checked : (w : Wanted) → wanted_of words ≡ Some w → w.mode ≡ Check → ⊥
    not_checked w p is = check_apart size (sym is ∙ mode_of_drill size asks w p)

    none_found : (mode : Mode) (w : Wanted) (which : Which) (Q : NamedFile → Type 0) (P : List ℕ → Type 0) → mode ≡ Drill size → IsFoundIn which Q P (files_read mode w) → ⊥
    none_found mode w which Q P is found = subst (λ (m : Mode). IsFoundIn which Q P (files_read m w)) is found

    -- a drill reads no file
    pub no_file : (Tells : (Held → Type 0) → Type 0) (which : Which) (P : Mode → List ℕ → Type 0) → ReadsFile words Tells which P → ⊥
    no_file Tells which P r = none_found r.wanted.mode r.wanted which _ _ (mode_of_drill size asks r.wanted r.accepted) r.found

    -- so no file is a cause to refuse it
    no_refusal : (held : Option Held) (status : Status) → Refuses words held status → ⊥
    no_refusal held (SourceRefused line column kind) r = no_file _ _ _ r
    no_refusal held (InputsRefused line) r = no_file _ _ _ r
    no_refusal held (OtherRefused line) r = no_file _ _ _ r
    no_refusal held (TraceTooLong states) r = no_file _ _ _ r
    no_refusal held (TooLong which) r = no_file _ _ _ r
    no_refusal held (ReadFault which) r = no_file _ _ _ r
    no_refusal held WordsRefused r = accepted_words r
    no_refusal held _ r = r

    pub drill_unread : (held : Option Held) (status : Status) → IsProgramRefusal words held status → status ≡ NoMemory
    drill_unread held status (inl memory) = memory
    drill_unread held status (inr r) = absurd (no_refusal held status r)

    -- there is nothing to do with it but for want of memory
    pub drill_stops : (held : Option Held) (old new : Option (List ℕ)) (before after : ℕ) (status result : Status) → IsProgramRefusal words held status → (status ≡ NoMemory → result ≡ NoMemory) → ClosesText (refusal_line status) status old new result
        → DrillAnswers words size old new before after result
    drill_stops held old new before after status result r same c =
        let none : result ≡ NoMemory = same (drill_unread held status r) in
        subst (DrillAnswers words size old new before after) (sym none) (subst (ClosesText (refusal_line status) status old new) none c)

    pub one_size : (other : ℕ) → AsksForDrill words other → size ≡ other
    one_size other also = let both : Drill size ≡ Drill other = sym asks.mode ∙ mode_of_drill other also asks.wanted asks.accepted in cc

module _ (words : List (List ℕ)) (old new : Option (List ℕ)) (before after : ℕ) where
  -- what a drill answered, by its kind
  data DrillView (size : ℕ) (result : Status) : Type 0 where
    was_done : (text : List ℕ) → result ≡ Done → DrillFinished words size before after text → DrillView size result
    was_stopped : (text : List ℕ) → DrillStopped words size before after result text → DrillView size result
    was_refused : (text : List ℕ) → DrillRefused words size result text → DrillView size result
    had_failed : (result ≡ WriteFault) ⊎ (result ≡ NoMemory) → DrillView size result

  seen_end : (size : ℕ) (result : Status) → (text : List ℕ) × DrillEnds words size before after result text × Wrote old new text → DrillView size result
  seen_end size result (text, inl d, wrote) = was_done text d.0 d.1
  seen_end size result (text, inr (inl s), wrote) = was_stopped text s
  seen_end size result (text, inr (inr r), wrote) = was_refused text r

  seen : (size : ℕ) (result : Status) → DrillAnswers words size old new before after result → DrillView size result
  seen size WriteFault d = had_failed (inl refl)
  seen size NoMemory d = had_failed (inr refl)
  seen size result d = seen_end size result d

  no_input_within : (t : InputTable) → t ≡ [] → InputsWithin t
  no_input_within t none = subst InputsWithin (sym none) tt

  -- what is to be drilled is one plan
  one_drill : (size : ℕ) (p q : Plan) → IsAskedToDrill words size p → IsAskedToDrill words size q → p ≡ q
  one_drill size p q a b =
      let w : a.asks.wanted ≡ b.asks.wanted = one_wanted words a.asks.wanted b.asks.wanted a.asks.accepted b.asks.accepted in
      let program : p.program ≡ q.program = one_program (source_text size) p.program q.program a.source b.source in
      let inputs : p.inputs ≡ q.inputs = a.inputs ∙ sym b.inputs in
      let states : p.states ≡ q.states = a.states ∙ ap (λ (v : Wanted). v.states) w ∙ sym b.states in
      let reductions : p.reductions ≡ q.reductions = a.reductions ∙ ap (λ (v : Wanted). v.reductions) w ∙ sym b.reductions in
      ap (λ (x : ProgramTree). plan_with x p.inputs p.states p.reductions) program ∙ ap (λ (x : InputTable). plan_with q.program x p.states p.reductions) inputs
      ∙ ap (λ n. plan_with q.program q.inputs n p.reductions) states ∙ ap (plan_with q.program q.inputs q.states) reductions

  -- each run of it comes to the end of the drill's own
  comes_as : (size : ℕ) (plan own : Plan) → IsAskedToDrill words size plan → IsAskedToDrill words size own → ProgramFits own.program → (pictures : List Picture) (status : Status) → RunEnds own pictures status
      → (others : List Picture) (end : Turn) (ends : RunEndsWith plan others end) → ComesTo plan others end ends status
  comes_as size plan own asked is fits pictures status run others end =
      let orderly : IsOrderlyPlan own = record { program = fits; inputs = no_input_within own.inputs is.inputs } in
      subst (λ (p : Plan). (ends : RunEndsWith p others end) → ComesTo p others end ends status) (sym (one_drill size plan own asked is))
      (λ ends. (pictures, run.answer, run.run, (runs_agree own orderly others end ends pictures run.answer run.run).1, run.status_is))

  pub drill_comes : (result : Status) → DrillSays words old new before after result → DrillComesToEachEnd words result
  drill_comes result says = λ size plan asked pictures end ends. by size plan asked pictures end ends (seen size result (says size asked.asks))
    where
      by : (size : ℕ) (plan : Plan) (asked : IsAskedToDrill words size plan) (pictures : List Picture) (end : Turn) (ends : RunEndsWith plan pictures end) → DrillView size result
          → DrillComesTo plan pictures end ends result ⊎ (result ≡ WriteFault) ⊎ (result ≡ NoMemory)
      by size plan asked pictures end ends (was_done text is f) =
          inl (inl (f.length, comes_as size plan f.plan asked f.asked f.fits f.pictures (Finished f.length) f.run pictures end ends, is))
      by size plan asked pictures end ends (was_stopped text s) =
          inl (inr (s.unfinished, comes_as size plan s.plan asked s.asked s.fits s.pictures result s.run pictures end ends))
      by size plan asked pictures end ends (was_refused text r) = absurd (program_or_refused (source_text size) plan.program r.refused asked.source r.cause)
      by size plan asked pictures end ends (had_failed f) = inr f

  module _ (result : Status) (says : DrillSays words old new before after result) (size : ℕ) (asks : AsksForDrill words size) where
    it_is : (status : Status) → result ≡ status → DrillAnswers words size old new before after status
    it_is status is = subst (DrillAnswers words size old new before after) is (says size asks)

    -- it ends as done, as a run that didn't finish, or with a source that is refused
    no_end : (status : Status) → (status ≡ Done → ⊥) → (EndsRun status → ((n : ℕ) → status ≢ Finished n) → ⊥) → ((r : Refused) → status ≡ refused_status r → ⊥)
        → (text : List ℕ) × DrillEnds words size before after status text × Wrote old new text → ⊥
    no_end status not_done not_stopped not_refused (text, inl d, wrote) = not_done d.0
    no_end status not_done not_stopped not_refused (text, inr (inl s), wrote) = not_stopped (ends_run s.run.answer status s.run.status_is) s.unfinished
    no_end status not_done not_stopped not_refused (text, inr (inr r), wrote) = not_refused r.refused r.status_is

    -- what a drill never answers
    pub no_finish : (n : ℕ) → result ≡ Finished n → ⊥
    no_finish n is = no_end (Finished n) (λ e. cc (e)) (λ end apart. apart n refl) (λ r e. cc (e)) (it_is (Finished n) is)

    pub no_words_refused : result ≡ WordsRefused → ⊥
    no_words_refused is = no_end WordsRefused (λ e. cc (e)) (λ end apart. end) (λ r e. cc (e)) (it_is WordsRefused is)

    pub no_too_long : (which : Which) → result ≡ TooLong which → ⊥
    no_too_long which is = no_end (TooLong which) (λ e. cc (e)) (λ end apart. end) (λ r e. cc (e)) (it_is (TooLong which) is)

    pub no_inputs_refused : (line : ℕ) → result ≡ InputsRefused line → ⊥
    no_inputs_refused line is = no_end (InputsRefused line) (λ e. cc (e)) (λ end apart. end) (λ r e. cc (e)) (it_is (InputsRefused line) is)

    pub no_other_refused : (line : ℕ) → result ≡ OtherRefused line → ⊥
    no_other_refused line is = no_end (OtherRefused line) (λ e. cc (e)) (λ end apart. end) (λ r e. cc (e)) (it_is (OtherRefused line) is)

    pub no_trace_too_long : (states : ℕ) → result ≡ TraceTooLong states → ⊥
    no_trace_too_long states is = no_end (TraceTooLong states) (λ e. cc (e)) (λ end apart. end) (λ r e. cc (e)) (it_is (TraceTooLong states) is)

    pub no_read_fault : (which : Which) → result ≡ ReadFault which → ⊥
    no_read_fault which is = no_end (ReadFault which) (λ e. cc (e)) (λ end apart. end) (λ r e. cc (e)) (it_is (ReadFault which) is)
