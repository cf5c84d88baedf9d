-- What a call answers where the files are there.
use Rattle.std.proofs.Common.{◌≡◌, ◌⊎◌, ◌≤◌, inl, inr, ℕ, List, length, Option, None, Some, refl, ap, sym, ◌∙◌, subst, arith}
use Rattle.tp_io.specs.Held.{Held, bytes_of}
use Rattle.tp_inputs.proofs.LawLemmas.{no_faulty_table, one_first_fault}
use Rattle.tp_meaning.specs.Inputs.{InputTable}
use Rattle.tp_meaning.specs.Interval.{ProgramTree}
use Rattle.tp_run.specs.History.{Plan}
use Rattle.tp_tree.specs.Tree.{SourceTree}
use Rattle.tp_words.specs.declared.mode.Mode.{Mode}
use Rattle.tp_words.specs.declared.mode.Mode.TheVariants.{Run, Print, Convert, Check}
use Rattle.tp_words.specs.Words.{Wanted, wanted_of}
use Rattle.tp_call.specs.Source.{IsRefusedAt}
use Rattle.tp_call.specs.declared.status.Status.{Status}
use Rattle.tp_call.specs.declared.status.Status.TheVariants.{Done, SourceRefused, InputsRefused, WordsRefused, TooLong, ReadFault, WriteFault, NoMemory, OtherRefused, TraceTooLong}
use Rattle.tp_call.specs.declared.status.Which.TheVariants.{Source, Inputs, Other}
use Rattle.tp_call.specs.declared.status.SourceKind.{SourceKind}
use Rattle.tp_call.specs.declared.status.Refused.{Refused}
use Rattle.tp_call.specs.Answer.{refused_status, WhereTold, AsTold, IsAskedFor, HasInputs, HoldsTable, HoldsProgram, HoldsSource, HoldsRefused, IsToPrint, IsToConvert, HoldsWide, HoldsTrace, HasBadTraceLine, HasManyStates, IsAskedToCheck, Spells, Converts, Judges, IsPastLimit, HasBadLine, Serves, ReadsFile, Refuses, RunsTo, CallEnds, Answers, IsOrStopped, IsOrFailed, HasFailed}
use Rattle.tp_call.specs.Files.{Wrote}
use Rattle.tp_call.proofs.FileLemmas.{where_told, source_read, source_reader, ReadsSecond, ReadsInputs, ReadsTable, inputs_read, other_read}
use Rattle.tp_call.proofs.ProgramLemmas.{program_or_refused, source_or_outside, wide_or_refused, refused_once}
use Rattle.tp_call.proofs.CheckingLemmas.{one_told, not_many}
use Rattle.tp_call.proofs.TurnLemmas.{ends_run, end_told}
use Rattle.std.specs.Str.Lines.{lines}
use Rattle.tp_show.specs.declared.named_fact.NamedFact.{NamedFact}
use Rattle.tp_show.proofs.TraceOnce.{one_bad_line, no_bad_trace}
use Rattle.tp_monitor.specs.WideOf.{NamedWide}
use Rattle.tp_monitor.specs.Told.{state_limit}
use Rattle.tp_call.specs.declared.status.Which.{Which}
use Rattle.tp_call.proofs.EndKinds.{EndsRun}
use Rattle.tp_call.specs.Headline.{ProgramRuns}

module _ (words : List (List ℕ)) (held : Option Held) (old new : Option (List ℕ)) where
  -- what an answer is that of: a run, a source that is printed, inputs that are converted, a verdict, a refusal, a failed write or want of memory
  pub data View (result : Status) : Type 0 where
    ran : EndsRun result → (text : List ℕ) → RunsTo words held result text → View result
    spelled : (text : List ℕ) → Spells words held result text → View result
    converts : (text : List ℕ) → Converts words held result text → View result
    judged : (text : List ℕ) → Judges words held result text → View result
    refused : Refuses words held result → View result
    failed : (result ≡ WriteFault) ⊎ (result ≡ NoMemory) → View result

  of_end : (result : Status) → (text : List ℕ) × CallEnds words held result text × Wrote old new text → View result
  of_end result (text, inl run, wrote) = ran (ends_run run.run.answer result run.run.status_is) text run
  of_end result (text, inr (inl spelling), wrote) = spelled text spelling
  of_end result (text, inr (inr (inl made)), wrote) = converts text made
  of_end result (text, inr (inr (inr (inl judges))), wrote) = judged text judges
  of_end result (text, inr (inr (inr (inr refusal))), wrote) = refused refusal.0

  pub view : (result : Status) → Answers words held old new result → View result
  view WriteFault a = failed (inl refl)
  view NoMemory a = failed (inr refl)
  view result a = of_end result a

  -- the words of two who accept them ask for the same
  pub same_wanted : (w v : Wanted) → wanted_of words ≡ Some w → wanted_of words ≡ Some v → w ≡ v
  same_wanted w v p q = let both : Some w ≡ Some v = sym p ∙ q in cc

  pub accepted_never : (w : Wanted) (T : Type 0) → wanted_of words ≡ Some w → wanted_of words ≡ None → T
  accepted_never w T p q = let bad : Some w ≡ None = sym p ∙ q in absurd (cc)

  -- a refusal other than that of the words is one of accepted words
  refused_words : (result : Status) → Refuses words held result → (result ≡ WordsRefused) ⊎ ((w : Wanted) × (wanted_of words ≡ Some w))
  refused_words (SourceRefused line column kind) r = inr (r.wanted, r.accepted)
  refused_words (InputsRefused line) r = inr (r.wanted, r.accepted)
  refused_words (OtherRefused line) r = inr (r.wanted, r.accepted)
  refused_words (TraceTooLong states) r = inr (r.wanted, r.accepted)
  refused_words WordsRefused r = inl refl
  refused_words (TooLong which) r = inr (r.wanted, r.accepted)
  refused_words (ReadFault which) r = inr (r.wanted, r.accepted)
  refused_words _ r = absurd r

  -- words that are not accepted
  pub words_refused : (result : Status) → Answers words held old new result → wanted_of words ≡ None → IsOrStopped WordsRefused result
  words_refused result a none = by (view result a) where
    by : View result → IsOrStopped WordsRefused result
    by (ran end text run) = accepted_never run.asked.wanted _ run.asked.accepted none
    by (spelled text s) = accepted_never s.asked.wanted _ s.asked.accepted none
    by (converts text s) = accepted_never s.asked.wanted _ s.asked.accepted none
    by (judged text s) = accepted_never s.judged.asked.wanted _ s.judged.asked.accepted none
    by (refused r) = elim (refused_words result r) [ inl e ↦ inl e | inr w ↦ accepted_never w.0 _ w.1 none ]
    by (failed f) = inr f

  -- the files tell what they hold: the source that the words name has Q
  module _ (files : Held) (told : held ≡ Some files) (wanted : Wanted) (accepted : wanted_of words ≡ Some wanted) where
    abbrev source : List ℕ
    source = bytes_of files wanted.file

    -- what another says of accepted words, in this mode, it says of these
    pub mode_there : (w : Wanted) (mode : Mode) → wanted_of words ≡ Some w → w.mode ≡ mode → wanted.mode ≡ mode
    mode_there w mode p m = subst (λ (v : Wanted). v.mode ≡ mode) (same_wanted w wanted p accepted) m

    pub held_there : (w : Wanted) (P : Mode → List ℕ → Type 0) → wanted_of words ≡ Some w → ((f : Held) → held ≡ Some f → P w.mode (bytes_of f w.file)) → P wanted.mode source
    held_there w P p h = subst (λ (v : Wanted). P v.mode (bytes_of files v.file)) (same_wanted w wanted p accepted) (h files told)

    program_there : (w : Wanted) (program : ProgramTree) → wanted_of words ≡ Some w → ((f : Held) → held ≡ Some f → HoldsProgram program (bytes_of f w.file)) → HoldsProgram program source
    program_there w program p h = held_there w (λ mode. HoldsProgram program) p h

    pub run_there : (result : Status) (text : List ℕ) → RunsTo words held result text → (wanted.mode ≡ Run) × ((program : ProgramTree) × HoldsProgram program source)
    run_there result text run = (mode_there run.asked.wanted Run run.asked.accepted run.asked.mode, (run.plan.program, program_there run.asked.wanted run.plan.program run.asked.accepted run.asked.source))

    pub spelled_there : (result : Status) (text : List ℕ) → Spells words held result text → (wanted.mode ≡ Print) × ((tree : SourceTree) × HoldsSource tree source)
    spelled_there result text s = (mode_there s.asked.wanted Print s.asked.accepted s.asked.mode, (s.tree, held_there s.asked.wanted (λ mode. HoldsSource s.tree) s.asked.accepted s.asked.source))

    pub table_there : (result : Status) (text : List ℕ) → Converts words held result text → (wanted.mode ≡ Convert) × ((table : InputTable) × HoldsTable table source)
    table_there result text s = (mode_there s.asked.wanted Convert s.asked.accepted s.asked.mode, (s.table, held_there s.asked.wanted (λ mode. HoldsTable s.table) s.asked.accepted s.asked.inputs))

    pub judged_there : (result : Status) (text : List ℕ) → Judges words held result text → (wanted.mode ≡ Check) × ((wide : NamedWide) × HoldsWide wide source)
    judged_there result text s = let asked = s.judged.asked in (mode_there asked.wanted Check asked.accepted asked.mode, (s.judged.wide, held_there asked.wanted (λ mode. HoldsWide s.judged.wide) asked.accepted asked.source))

    pub sourced_there : (P : Mode → List ℕ → Type 0) → ReadsFile words (WhereTold held) Source P → P wanted.mode source
    sourced_there P r = held_there r.wanted P r.accepted (source_read words (WhereTold held) P r)

    -- a source that is read is not that of inputs that are converted
    sourced_mode : (P : Mode → List ℕ → Type 0) → ReadsFile words (WhereTold held) Source P → wanted.mode ≡ Convert → ⊥
    sourced_mode P r e = source_reader words (WhereTold held) P r (ap (λ (v : Wanted). v.mode) (same_wanted r.wanted wanted r.accepted accepted) ∙ e)

    supplied_source : (P : Mode → List ℕ → Type 0) → ReadsFile words (WhereTold held) Inputs P → ((wanted.mode ≡ Run) × ((program : ProgramTree) × HoldsProgram program source)) ⊎ (wanted.mode ≡ Convert)
    supplied_source P r = by (inputs_read words (WhereTold held) P r)
      where
        by : ReadsInputs words (WhereTold held) P ⊎ ReadsTable words (WhereTold held) P → ((wanted.mode ≡ Run) × ((program : ProgramTree) × HoldsProgram program source)) ⊎ (wanted.mode ≡ Convert)
        by (inl s) =
            let mode = mode_there s.wanted Run s.accepted s.mode in
            inl (mode, subst (λ (m : Mode). Serves m Source source) mode (held_there s.wanted (λ m. Serves m Source) s.accepted s.source))
        by (inr s) = inr (mode_there s.wanted Convert s.accepted s.mode)

    -- the source of another file that is read is a wider formula
    pub other_source : (P : Mode → List ℕ → Type 0) → ReadsFile words (WhereTold held) Other P → (wanted.mode ≡ Check) × ((wide : NamedWide) × HoldsWide wide source)
    other_source P r =
        let s = other_read words (WhereTold held) P r in
        let mode = mode_there s.wanted Check s.accepted s.mode in
        (mode, subst (λ (m : Mode). Serves m Source source) mode (held_there s.wanted (λ m. Serves m Source) s.accepted s.source))

    -- what is told of inputs that are converted
    supplied_table : (P : List ℕ → Type 0) → wanted.mode ≡ Convert → ReadsFile words (WhereTold held) Inputs (λ mode. P) → P source
    supplied_table P mode r = by (inputs_read words (WhereTold held) (λ mode. P) r)
      where
        by : ReadsInputs words (WhereTold held) (λ mode. P) ⊎ ReadsTable words (WhereTold held) (λ mode. P) → P source
        by (inl s) = let bad : Run ≡ Convert = sym (mode_there s.wanted Run s.accepted s.mode) ∙ mode in absurd (cc)
        by (inr s) = held_there s.wanted (λ mode. P) s.accepted s.inputs

    -- it runs a program, or it converts inputs: neither is so
    not_supplied : {T : Type 0} → (wanted.mode ≡ Convert → ⊥) → (wanted.mode ≡ Run → (program : ProgramTree) → HoldsProgram program source → ⊥) → ((wanted.mode ≡ Run) × ((program : ProgramTree) × HoldsProgram program source)) ⊎ (wanted.mode ≡ Convert) → T
    not_supplied sourced never (inl p) = absurd (never p.0 p.1.0 p.1.1)
    not_supplied sourced never (inr e) = absurd (sourced e)

    not_checking : {T : Type 0} → (wanted.mode ≡ Check → (wide : NamedWide) → HoldsWide wide source → ⊥) → (wanted.mode ≡ Check) × ((wide : NamedWide) × HoldsWide wide source) → T
    not_checking never p = absurd (never p.0 p.1.0 p.1.1)

    -- what the answer is by the source alone: in no run is it a program, in no check is it a wider formula, and it isn't printed unless it is this answer
    by_source : (result answer : Status) → View result → (wanted.mode ≡ Convert → ⊥) → (wanted.mode ≡ Run → (program : ProgramTree) → HoldsProgram program source → ⊥) → (wanted.mode ≡ Check → (wide : NamedWide) → HoldsWide wide source → ⊥)
        → (wanted.mode ≡ Print → (tree : SourceTree) → HoldsSource tree source → result ≡ Done → IsOrFailed answer result)
        → ((line column : ℕ) (kind : SourceKind) → result ≡ SourceRefused line column kind → HoldsRefused (record { line = line; column = column; kind = kind }) wanted.mode source → IsOrFailed answer result)
        → (result ≡ TooLong Source → IsPastLimit Source source → IsOrFailed answer result) → IsOrFailed answer result
    by_source result answer (ran end text run) sourced never checks print refusal long = let p = run_there result text run in absurd (never p.0 p.1.0 p.1.1)
    by_source result answer (spelled text s) sourced never checks print refusal long = let p = spelled_there result text s in print p.0 p.1.0 p.1.1 s.status_is
    by_source result answer (converts text s) sourced never checks print refusal long = absurd (sourced (table_there result text s).0)
    by_source result answer (judged text s) sourced never checks print refusal long = not_checking checks (judged_there result text s)
    by_source result answer (failed f) sourced never checks print refusal long = inr (inr f)
    by_source (SourceRefused line column kind) answer (refused r) sourced never checks print refusal long = refusal line column kind refl (sourced_there _ r)
    by_source (InputsRefused line) answer (refused r) sourced never checks print refusal long = not_supplied sourced never (supplied_source _ r)
    by_source (OtherRefused line) answer (refused r) sourced never checks print refusal long = not_checking checks (other_source _ r)
    by_source (TraceTooLong states) answer (refused r) sourced never checks print refusal long = not_checking checks (other_source _ r)
    by_source (TooLong Other) answer (refused r) sourced never checks print refusal long = not_checking checks (other_source _ r)
    by_source WordsRefused answer (refused r) sourced never checks print refusal long = accepted_never wanted _ accepted r
    by_source (TooLong Source) answer (refused r) sourced never checks print refusal long = long refl (sourced_there _ r)
    by_source (TooLong Inputs) answer (refused r) sourced never checks print refusal long = not_supplied sourced never (supplied_source _ r)
    by_source (ReadFault which) answer (refused r) sourced never checks print refusal long = inr (inl (which, refl))
    by_source _ answer (refused r) sourced never checks print refusal long = absurd r

    -- where inputs are to be converted
    module _ (mode : wanted.mode ≡ Convert) where
      not_run : wanted.mode ≡ Run → ⊥
      not_run e = let bad : Run ≡ Convert = sym e ∙ mode in cc

      not_checked : wanted.mode ≡ Check → ⊥
      not_checked e = let bad : Check ≡ Convert = sym e ∙ mode in cc

      by_table : (result : Status) (T : Type 0) → View result → ((table : InputTable) → HoldsTable table source → result ≡ Done → T) → ((line : ℕ) → result ≡ InputsRefused line → HasBadLine line source → T)
          → (result ≡ TooLong Inputs → IsPastLimit Inputs source → T) → (HasFailed result → T) → T
      by_table result T (ran end text run) done bad long fails = absurd (not_run (run_there result text run).0)
      by_table result T (spelled text s) done bad long fails = let e : Print ≡ Convert = sym (spelled_there result text s).0 ∙ mode in absurd (cc)
      by_table result T (converts text s) done bad long fails = let p = table_there result text s in done p.1.0 p.1.1 s.status_is
      by_table result T (judged text s) done bad long fails = absurd (not_checked (judged_there result text s).0)
      by_table result T (failed f) done bad long fails = fails (inr f)
      by_table (SourceRefused line column kind) T (refused r) done bad long fails = absurd (sourced_mode _ r mode)
      by_table (InputsRefused line) T (refused r) done bad long fails = bad line refl (supplied_table (HasBadLine line) mode r)
      by_table (OtherRefused line) T (refused r) done bad long fails = absurd (not_checked (other_source _ r).0)
      by_table (TraceTooLong states) T (refused r) done bad long fails = absurd (not_checked (other_source _ r).0)
      by_table (TooLong Other) T (refused r) done bad long fails = absurd (not_checked (other_source _ r).0)
      by_table WordsRefused T (refused r) done bad long fails = accepted_never wanted _ accepted r
      by_table (TooLong Source) T (refused r) done bad long fails = absurd (sourced_mode _ r mode)
      by_table (TooLong Inputs) T (refused r) done bad long fails = long refl (supplied_table (IsPastLimit Inputs) mode r)
      by_table (ReadFault which) T (refused r) done bad long fails = fails (inl (which, refl))
      by_table _ T (refused r) done bad long fails = absurd r

    -- and where a run is asked for, and it is this program
    module _ (mode : wanted.mode ≡ Run) (program : ProgramTree) (is : HoldsProgram program source) where
      not_refused : (refusal : Refused) → HoldsRefused refusal wanted.mode source → ⊥
      not_refused refusal h = program_or_refused source program refusal is.1 (subst (λ (m : Mode). IsRefusedAt m source refusal) mode h.1)

      not_long : IsPastLimit Source source → ⊥
      not_long h = omega (arith, is.0, h)

      not_printed : (result : Status) (text : List ℕ) → Spells words held result text → ⊥
      not_printed result text s = let e : Run ≡ Print = sym mode ∙ (spelled_there result text s).0 in cc

      not_converted : (result : Status) (text : List ℕ) → Converts words held result text → ⊥
      not_converted result text s = let e : Run ≡ Convert = sym mode ∙ (table_there result text s).0 in cc

      no_check : wanted.mode ≡ Check → ⊥
      no_check e = let bad : Run ≡ Check = sym mode ∙ e in cc

      by_program : (result : Status) (T : Type 0) → View result → (EndsRun result → (text : List ℕ) → RunsTo words held result text → T) → ((line : ℕ) → result ≡ InputsRefused line → ReadsFile words (WhereTold held) Inputs (λ mode. HasBadLine line) → T)
          → (result ≡ TooLong Inputs → ReadsFile words (WhereTold held) Inputs (λ mode. IsPastLimit Inputs) → T) → (HasFailed result → T) → T
      by_program result T (ran end text run) run_case bad long fails = run_case end text run
      by_program result T (spelled text s) run_case bad long fails = absurd (not_printed result text s)
      by_program result T (converts text s) run_case bad long fails = absurd (not_converted result text s)
      by_program result T (judged text s) run_case bad long fails = absurd (no_check (judged_there result text s).0)
      by_program result T (failed f) run_case bad long fails = fails (inr f)
      by_program (SourceRefused line column kind) T (refused r) run_case bad long fails = absurd (not_refused _ (sourced_there _ r))
      by_program (InputsRefused line) T (refused r) run_case bad long fails = bad line refl r
      by_program (OtherRefused line) T (refused r) run_case bad long fails = absurd (no_check (other_source _ r).0)
      by_program (TraceTooLong states) T (refused r) run_case bad long fails = absurd (no_check (other_source _ r).0)
      by_program (TooLong Other) T (refused r) run_case bad long fails = absurd (no_check (other_source _ r).0)
      by_program WordsRefused T (refused r) run_case bad long fails = accepted_never wanted _ accepted r
      by_program (TooLong Source) T (refused r) run_case bad long fails = absurd (not_long (sourced_there _ r))
      by_program (TooLong Inputs) T (refused r) run_case bad long fails = long refl r
      by_program (ReadFault which) T (refused r) run_case bad long fails = fails (inl (which, refl))
      by_program _ T (refused r) run_case bad long fails = absurd r

    -- the inputs that the words name for a run
    module _ (mode : wanted.mode ≡ Run) (name : List ℕ) (named : wanted.inputs ≡ Some name) where
      same_name : (w : Wanted) (n : List ℕ) → wanted_of words ≡ Some w → w.inputs ≡ Some n → n ≡ name
      same_name w n p q =
          let e : Some n ≡ Some name = sym q ∙ ap (λ (v : Wanted). v.inputs) (same_wanted w wanted p accepted) ∙ named in
          cc

      supplied_there : (P : List ℕ → Type 0) → ReadsFile words (WhereTold held) Inputs (λ mode. P) → P (bytes_of files name)
      supplied_there P r = by (inputs_read words (WhereTold held) (λ mode. P) r)
        where
          by : ReadsInputs words (WhereTold held) (λ mode. P) ⊎ ReadsTable words (WhereTold held) (λ mode. P) → P (bytes_of files name)
          by (inl s) = subst (λ n. P (bytes_of files n)) (same_name s.wanted s.name s.accepted s.named) (s.has files told)
          by (inr s) = let bad : Run ≡ Convert = sym mode ∙ mode_there s.wanted Convert s.accepted s.mode in absurd (cc)

      inputs_of_run : (plan : Plan) → IsAskedFor words held plan → HoldsTable plan.inputs (bytes_of files name)
      inputs_of_run plan a =
          let has : HasInputs (Some name) held plan.inputs =
          subst (λ o. HasInputs o held plan.inputs) (ap (λ (v : Wanted). v.inputs) (same_wanted a.wanted wanted a.accepted accepted) ∙ named) a.inputs in
          has files told

    -- where a check is asked for, and it is this wider formula
    module _ (mode : wanted.mode ≡ Check) (wide : NamedWide) (is : HoldsWide wide source) (name : List ℕ) (named : wanted.other ≡ Some name) where
      abbrev other : List ℕ
      other = bytes_of files name

      same_other : (w : Wanted) (n : List ℕ) → wanted_of words ≡ Some w → w.other ≡ Some n → n ≡ name
      same_other w n p q =
          let e : Some n ≡ Some name = sym q ∙ ap (λ (v : Wanted). v.other) (same_wanted w wanted p accepted) ∙ named in
          cc

      other_there : (P : List ℕ → Type 0) → ReadsFile words (WhereTold held) Other (λ mode. P) → P other
      other_there P r =
          let s = other_read words (WhereTold held) (λ mode. P) r in
          subst (λ n. P (bytes_of files n)) (same_other s.wanted s.name s.accepted s.named) (s.has files told)

      trace_there : (w : NamedWide) (trace : List (List NamedFact)) → IsAskedToCheck words held w trace → HoldsTrace trace other
      trace_there w trace a = subst (λ n. HoldsTrace trace (bytes_of files n)) (same_other a.wanted a.name a.accepted a.named) (a.other files told)

      not_this : (m : Mode) → (m ≡ Check → ⊥) → wanted.mode ≡ m → ⊥
      not_this m apart e = apart (sym e ∙ mode)

      sound_wide : (refusal : Refused) → HoldsRefused refusal wanted.mode source → ⊥
      sound_wide refusal h = wide_or_refused source wide refusal is.1 (subst (λ (m : Mode). IsRefusedAt m source refusal) mode h.1)

      not_inputs : {P : Mode → List ℕ → Type 0} → ReadsFile words (WhereTold held) Inputs P → ⊥
      not_inputs {P} r = elim (supplied_source P r) [ inl p ↦ not_this Run (λ e. cc (e)) p.0 | inr e ↦ not_this Convert (λ f. cc (f)) e ]

      by_other : (result : Status) (T : Type 0) → View result → ((trace : List (List NamedFact)) → HoldsTrace trace other → length trace ≤ state_limit → result ≡ Done → T) → ((line : ℕ) → result ≡ OtherRefused line → HasBadTraceLine line other → T)
          → ((states : ℕ) → result ≡ TraceTooLong states → HasManyStates states other → T) → (result ≡ TooLong Other → IsPastLimit Other other → T) → (HasFailed result → T) → T
      by_other result T (ran end text run) done bad many long fails = absurd (not_this Run (λ e. cc (e)) (run_there result text run).0)
      by_other result T (spelled text s) done bad many long fails = absurd (not_this Print (λ e. cc (e)) (spelled_there result text s).0)
      by_other result T (converts text s) done bad many long fails = absurd (not_this Convert (λ e. cc (e)) (table_there result text s).0)
      by_other result T (judged text s) done bad many long fails = let j = s.judged in done j.trace (trace_there j.wide j.trace j.asked) j.within s.status_is
      by_other result T (failed f) done bad many long fails = fails (inr f)
      by_other (SourceRefused line column kind) T (refused r) done bad many long fails = absurd (sound_wide _ (sourced_there _ r))
      by_other (InputsRefused line) T (refused r) done bad many long fails = absurd (not_inputs r)
      by_other (OtherRefused line) T (refused r) done bad many long fails = bad line refl (other_there (HasBadTraceLine line) r)
      by_other (TraceTooLong states) T (refused r) done bad many long fails = many states refl (other_there (HasManyStates states) r)
      by_other WordsRefused T (refused r) done bad many long fails = accepted_never wanted _ accepted r
      by_other (TooLong Source) T (refused r) done bad many long fails = let h = sourced_there _ r in absurd (omega (arith, is.0, h))
      by_other (TooLong Inputs) T (refused r) done bad many long fails = absurd (not_inputs r)
      by_other (TooLong Other) T (refused r) done bad many long fails = long refl (other_there (IsPastLimit Other) r)
      by_other (ReadFault which) T (refused r) done bad many long fails = fails (inl (which, refl))
      by_other _ T (refused r) done bad many long fails = absurd r

  -- a source past the limit
  source_too_long : (result : Status) → Answers words held old new result → ReadsFile words (AsTold held) Source (λ mode. IsPastLimit Source) → IsOrFailed (TooLong Source) result
  source_too_long result a r =
      let t = source_read words (AsTold held) (λ mode. IsPastLimit Source) r in
      let long = t.2 in
      by_source t.0 t.1 r.wanted r.accepted result (TooLong Source) (view result a) (source_reader words (AsTold held) (λ mode. IsPastLimit Source) r) (λ m p h. omega (arith, h.0, long)) (λ m w h. omega (arith, h.0, long)) (λ m tree h e. absurd (omega (arith, h.0, long)))
      (λ line column kind e h. absurd (omega (arith, h.0, long))) (λ e h. inl e)

  -- a source that is refused
  pub source_refused : (result : Status) → Answers words held old new result → (refusal : Refused) → ReadsFile words (AsTold held) Source (HoldsRefused refusal) → IsOrFailed (refused_status refusal) result
  source_refused result a refusal r =
      let t = source_read words (AsTold held) (HoldsRefused refusal) r in
      let source = bytes_of t.0 r.wanted.file in
      let short = t.2.0 in
      by_source t.0 t.1 r.wanted r.accepted result (refused_status refusal) (view result a) (source_reader words (AsTold held) (HoldsRefused refusal) r)
      (λ m p h. program_or_refused source p refusal h.1 (subst (λ (mode : Mode). IsRefusedAt mode source refusal) m t.2.1))
      (λ m w h. wide_or_refused source w refusal h.1 (subst (λ (mode : Mode). IsRefusedAt mode source refusal) m t.2.1))
      (λ m tree h e. absurd (source_or_outside source tree refusal h.1 (subst (λ (mode : Mode). IsRefusedAt mode source refusal) m t.2.1)))
      (λ line column kind e h. inl (e ∙ ap refused_status (refused_once r.wanted.mode source (record { line = line; column = column; kind = kind }) refusal h.1 t.2.1)))
      (λ e h. absurd (omega (arith, h, short)))

  -- a source that is to be printed
  pub source_prints : (result : Status) → Answers words held old new result → (tree : SourceTree) → ReadsFile words (AsTold held) Source (IsToPrint tree) → IsOrFailed Done result
  source_prints result a tree r =
      let t = source_read words (AsTold held) (IsToPrint tree) r in
      let source = bytes_of t.0 r.wanted.file in
      let mode = t.2.0 in
      let short = t.2.1.0 in
      by_source t.0 t.1 r.wanted r.accepted result Done (view result a) (source_reader words (AsTold held) (IsToPrint tree) r) (λ m p h. let e : Print ≡ Run = sym mode ∙ m in cc) (λ m w h. let e : Print ≡ Check = sym mode ∙ m in cc) (λ m other h e. inl e)
      (λ line column kind e h.
      absurd (source_or_outside source tree (record { line = line; column = column; kind = kind }) t.2.1.1
      (subst (λ (m : Mode). IsRefusedAt m source (record { line = line; column = column; kind = kind })) mode h.1)))
      (λ e h. absurd (omega (arith, h, short)))

  -- the file that is told, which this mode reads behind a source that serves it
  pub record SecondThere (asks : Mode) (second : Wanted → Option (List ℕ)) (P : List ℕ → Type 0) : Type 0 where
    pub files : Held
    pub told : held ≡ Some files
    pub wanted : Wanted
    pub accepted : wanted_of words ≡ Some wanted
    pub mode : wanted.mode ≡ asks
    pub source : Serves asks Source (bytes_of files wanted.file)
    pub name : List ℕ
    pub named : second wanted ≡ Some name
    pub has : P (bytes_of files name)

  second_there : (asks : Mode) (second : Wanted → Option (List ℕ)) (P : List ℕ → Type 0) → ReadsSecond words (AsTold held) (λ mode. P) asks second → SecondThere asks second P
  second_there asks second P s =
      let t = s.has in
      let source = subst (λ (m : Mode). Serves m Source (bytes_of t.0 s.wanted.file)) s.mode (where_told held _ s.source t.0 t.1) in
      record { files = t.0; told = t.1; wanted = s.wanted; accepted = s.accepted; mode = s.mode; source = source; name = s.name; named = s.named; has = t.2 }

  -- the inputs of a source that is a program
  abbrev pub InputsThere : (List ℕ → Type 0) → Type 0
  InputsThere P = SecondThere Run (λ (w : Wanted). w.inputs) P

  -- the inputs that are told, which are to be converted
  pub record TableThere (P : List ℕ → Type 0) : Type 0 where
    pub files : Held
    pub told : held ≡ Some files
    pub wanted : Wanted
    pub accepted : wanted_of words ≡ Some wanted
    pub mode : wanted.mode ≡ Convert
    pub inputs : P (bytes_of files wanted.file)

  of_table : (P : List ℕ → Type 0) → ReadsTable words (AsTold held) (λ mode. P) → TableThere P
  of_table P s = let t = s.inputs in record { files = t.0; told = t.1; wanted = s.wanted; accepted = s.accepted; mode = s.mode; inputs = t.2 }

  inputs_there : (P : List ℕ → Type 0) → ReadsFile words (AsTold held) Inputs (λ mode. P) → InputsThere P ⊎ TableThere P
  inputs_there P r = by (inputs_read words (AsTold held) (λ mode. P) r)
    where
      by : ReadsInputs words (AsTold held) (λ mode. P) ⊎ ReadsTable words (AsTold held) (λ mode. P) → InputsThere P ⊎ TableThere P
      by (inl s) = inl (second_there Run (λ (w : Wanted). w.inputs) P s)
      by (inr s) = inr (of_table P s)

  -- inputs past the limit
  inputs_too_long : (result : Status) → Answers words held old new result → InputsThere (IsPastLimit Inputs) ⊎ TableThere (IsPastLimit Inputs) → IsOrFailed (TooLong Inputs) result
  inputs_too_long result a (inr t) =
      let long = t.inputs in
      by_table t.files t.told t.wanted t.accepted t.mode result (IsOrFailed (TooLong Inputs) result) (view result a)
      (λ table h e. absurd (omega (arith, h.0, long))) (λ line e h. absurd (omega (arith, h.0, long))) (λ e h. inl e) inr
  inputs_too_long result a (inl t) =
      let long = t.has in
      by_program t.files t.told t.wanted t.accepted t.mode t.source.0 t.source.1 result (IsOrFailed (TooLong Inputs) result) (view result a)
      (λ end text run. let h = inputs_of_run t.files t.told t.wanted t.accepted t.mode t.name t.named run.plan run.asked in absurd (omega (arith, h.0, long)))
      (λ line e s. let h = supplied_there t.files t.told t.wanted t.accepted t.mode t.name t.named (HasBadLine line) s in absurd (omega (arith, h.0, long)))
      (λ e s. inl e) inr

  -- the other file of a source that is a wider formula
  abbrev pub OtherThere : (List ℕ → Type 0) → Type 0
  OtherThere P = SecondThere Check (λ (w : Wanted). w.other) P

  of_other : (P : List ℕ → Type 0) → ReadsFile words (AsTold held) Other (λ mode. P) → OtherThere P
  of_other P r = second_there Check (λ (w : Wanted). w.other) P (other_read words (AsTold held) (λ mode. P) r)

  -- another file past the limit
  other_too_long : (result : Status) → Answers words held old new result → OtherThere (IsPastLimit Other) → IsOrFailed (TooLong Other) result
  other_too_long result a t =
      let long = t.has in
      by_other t.files t.told t.wanted t.accepted t.mode t.source.0 t.source.1 t.name t.named result (IsOrFailed (TooLong Other) result) (view result a)
      (λ trace h within e. absurd (omega (arith, h.0, long))) (λ line e h. absurd (omega (arith, h.0, long))) (λ states e h. absurd (omega (arith, h.1.0, long))) (λ e h. inl e) inr

  -- another file that is no trace
  pub other_refused : (result : Status) → Answers words held old new result → (line : ℕ) → ReadsFile words (AsTold held) Other (λ mode. HasBadTraceLine line) → IsOrFailed (OtherRefused line) result
  other_refused result a line r =
      let t = of_other (HasBadTraceLine line) r in
      let texts = lines (bytes_of t.files t.name) in
      let bad = t.has in
      by_other t.files t.told t.wanted t.accepted t.mode t.source.0 t.source.1 t.name t.named result (IsOrFailed (OtherRefused line) result) (view result a)
      (λ trace h within e. absurd (no_bad_trace texts trace line h.1 bad.1)) (λ found e h. inl (e ∙ ap OtherRefused (one_bad_line texts found line h.1 bad.1)))
      (λ states e h. absurd (no_bad_trace texts h.0 line h.1.1 bad.1)) (λ e h. absurd (omega (arith, h, bad.0))) inr

  -- one of too many states
  pub trace_too_long : (result : Status) → Answers words held old new result → (states : ℕ) → ReadsFile words (AsTold held) Other (λ mode. HasManyStates states) → IsOrFailed (TraceTooLong states) result
  trace_too_long result a states r =
      let t = of_other (HasManyStates states) r in
      let bytes = bytes_of t.files t.name in
      let many = t.has in
      by_other t.files t.told t.wanted t.accepted t.mode t.source.0 t.source.1 t.name t.named result (IsOrFailed (TraceTooLong states) result) (view result a)
      (λ trace h within e. not_many bytes trace states h within many) (λ line e h. absurd (no_bad_trace (lines bytes) many.0 line many.1.1 h.1))
      (λ found e h. let same = ap length (one_told bytes h.0 many.0 h.1 many.1) in inl (e ∙ ap TraceTooLong (sym h.2 ∙ same ∙ many.2))) (λ e h. absurd (omega (arith, h, many.1.0))) inr

  -- one that is judged
  pub trace_is_checked : (result : Status) → Answers words held old new result → (files : Held) → held ≡ Some files → (wide : NamedWide) (trace : List (List NamedFact)) → IsAskedToCheck words held wide trace → length trace ≤ state_limit → IsOrFailed Done result
  trace_is_checked result a files told wide trace asked within =
      let bytes = bytes_of files asked.name in
      let good = asked.other files told in
      by_other files told asked.wanted asked.accepted asked.mode wide (asked.source files told) asked.name asked.named result (IsOrFailed Done result) (view result a)
      (λ found h few e. inl e) (λ line e h. absurd (no_bad_trace (lines bytes) trace line good.1 h.1)) (λ states e h. not_many bytes trace states good within h) (λ e h. absurd (omega (arith, h, good.0))) inr

  -- a file past the limit
  pub too_long : (result : Status) → Answers words held old new result → (which : Which) → ReadsFile words (AsTold held) which (λ mode. IsPastLimit which) → IsOrFailed (TooLong which) result
  too_long result a Source r = source_too_long result a r
  too_long result a Inputs r = inputs_too_long result a (inputs_there (IsPastLimit Inputs) r)
  too_long result a Other r = other_too_long result a (of_other (IsPastLimit Other) r)

  -- inputs that are refused
  refused_there : (result : Status) → Answers words held old new result → (line : ℕ) → InputsThere (HasBadLine line) ⊎ TableThere (HasBadLine line) → IsOrFailed (InputsRefused line) result
  refused_there result a line (inr t) =
      let bytes = bytes_of t.files t.wanted.file in
      let bad = t.inputs in
      by_table t.files t.told t.wanted t.accepted t.mode result (IsOrFailed (InputsRefused line) result) (view result a)
      (λ table h e. absurd (no_faulty_table bytes table line bad.1.0 h.1 bad.1.1))
      (λ other e h. let same = one_first_fault bytes other line h.1.0 bad.1.0 h.1.1 bad.1.1 in inl (e ∙ ap InputsRefused same.0))
      (λ e h. absurd (omega (arith, h, bad.0))) inr
  refused_there result a line (inl t) =
      let bytes = bytes_of t.files t.name in
      let bad = t.has in
      by_program t.files t.told t.wanted t.accepted t.mode t.source.0 t.source.1 result (IsOrFailed (InputsRefused line) result) (view result a)
      (λ end text run. let h = inputs_of_run t.files t.told t.wanted t.accepted t.mode t.name t.named run.plan run.asked in absurd (no_faulty_table bytes run.plan.inputs line bad.1.0 h.1 bad.1.1))
      (λ other e s.
      let h = supplied_there t.files t.told t.wanted t.accepted t.mode t.name t.named (HasBadLine other) s in
      let same = one_first_fault bytes other line h.1.0 bad.1.0 h.1.1 bad.1.1 in
      inl (e ∙ ap InputsRefused same.0))
      (λ e s. let h = supplied_there t.files t.told t.wanted t.accepted t.mode t.name t.named (IsPastLimit Inputs) s in absurd (omega (arith, h, bad.0))) inr

  pub inputs_refused : (result : Status) → Answers words held old new result → (line : ℕ) → ReadsFile words (AsTold held) Inputs (λ mode. HasBadLine line) → IsOrFailed (InputsRefused line) result
  inputs_refused result a line r = refused_there result a line (inputs_there (HasBadLine line) r)

  -- inputs that are to be converted
  pub inputs_convert : (result : Status) → Answers words held old new result → (table : InputTable) → ReadsFile words (AsTold held) Inputs (IsToConvert table) → IsOrFailed Done result
  inputs_convert result a table r = by (inputs_read words (AsTold held) (IsToConvert table) r)
    where
      by : ReadsInputs words (AsTold held) (IsToConvert table) ⊎ ReadsTable words (AsTold held) (IsToConvert table) → IsOrFailed Done result
      by (inl s) = let bad : Run ≡ Convert = sym s.mode ∙ s.has.2.0 in absurd (cc)
      by (inr s) =
          let t = s.inputs in
          let bytes = bytes_of t.0 s.wanted.file in
          let good = t.2.1 in
          by_table t.0 t.1 s.wanted s.accepted s.mode result (IsOrFailed Done result) (view result a) (λ other h e. inl e) (λ line e h. absurd (no_faulty_table bytes table line h.1.0 good.1 h.1.1)) (λ e h. absurd (omega (arith, h, good.0))) inr

  -- what is asked for is there
  pub program_runs : (result : Status) → Answers words held old new result → (files : Held) → held ≡ Some files → (plan : Plan) → IsAskedFor words held plan → EndsRun result ⊎ HasFailed result
  program_runs result a files told plan asked =
      by_program files told asked.wanted asked.accepted asked.mode plan.program (asked.source files told) result (EndsRun result ⊎ HasFailed result) (view result a)
      (λ end text run. inl end)
      (λ line e s.
      let n = named_by s in
      let bad = supplied_there files told asked.wanted asked.accepted asked.mode n.0 n.1 (HasBadLine line) s in
      let good = inputs_of_run files told asked.wanted asked.accepted asked.mode n.0 n.1 plan asked in
      absurd (no_faulty_table (bytes_of files n.0) plan.inputs line bad.1.0 good.1 bad.1.1))
      (λ e s.
      let n = named_by s in
      let long = supplied_there files told asked.wanted asked.accepted asked.mode n.0 n.1 (IsPastLimit Inputs) s in
      let good = inputs_of_run files told asked.wanted asked.accepted asked.mode n.0 n.1 plan asked in
      absurd (omega (arith, long, good.0))) inr
    where
      named_by : {P : Mode → List ℕ → Type 0} → ReadsFile words (WhereTold held) Inputs P → (name : List ℕ) × (asked.wanted.inputs ≡ Some name)
      named_by {P} r = by (inputs_read words (WhereTold held) P r)
        where
          by : ReadsInputs words (WhereTold held) P ⊎ ReadsTable words (WhereTold held) P → (name : List ℕ) × (asked.wanted.inputs ≡ Some name)
          by (inl s) = (s.name, ap (λ (v : Wanted). v.inputs) (same_wanted asked.wanted s.wanted asked.accepted s.accepted) ∙ s.named)
          by (inr s) =
              let bad : Run ≡ Convert = sym asked.mode ∙ (ap (λ (v : Wanted). v.mode) (same_wanted asked.wanted s.wanted asked.accepted s.accepted) ∙ s.mode) in
              absurd (cc)

  pub program_ends : (result : Status) → Answers words held old new result → ProgramRuns words held result
  program_ends result a = λ files told plan asked. elim (program_runs result a files told plan asked) [
    | inl is_end ↦ inl (end_told result is_end)
    | inr had_failed ↦ inr had_failed
  ]
