-- What a run printed is a trace of its states.
use Rattle.std.proofs.Common.{◌≡◌, inl, inr, ◌+◌, ◌<◌, ℕ, suc, List, [], ◌∷◌, ◌++◌, map, length, All, Contains, Option, None, Some, refl, sym, ap, ◌∙◌, subst, arith}
use Rattle.std.proofs.lemmas.List.{length-map}
use Rattle.std.proofs.lemmas.List.Elements.{All-nil, All-cons, All-head, All-tail, All-contains}
use Rattle.tp_lex.specs.Names.{token_names}
use Rattle.tp_io.specs.Held.{Held, bytes_of}
use Rattle.tp_tree.specs.Names.{source_names}
use Rattle.tp_parse.proofs.NameLemmas.{names_are_tokens}
use Rattle.tp_meaning.specs.Inputs.{InputTable}
use Rattle.tp_check.proofs.NameLaws.{globals_stand_in_source}
use Rattle.tp_scene.specs.Pick.{Moment}
use Rattle.tp_scene.specs.Beginning.{first_moment}
use Rattle.tp_show.specs.declared.turn.Picture.{Picture}
use Rattle.tp_show.specs.declared.turn.Turn.{Turn}
use Rattle.tp_show.specs.declared.turn.Turn.TheVariants as turn
use Rattle.tp_show.specs.FactsOf.{AreFactsOf}
use Rattle.tp_show.specs.Line.{IsOneLine}
use Rattle.tp_show.specs.Texts.{last_words, end_line}
use Rattle.tp_show.specs.Trace.{IsTraceText, IsVariableName, named_facts}
use Rattle.tp_show.specs.TraceOfRun.{AreVariableNames, IsReadable, PrintedState, printed_states_text, CountFrom, IsEnding}
use Rattle.tp_show.proofs.PrintedBytes.{name_plain}
use Rattle.tp_show.proofs.PrintedLines.{plain_one}
use Rattle.tp_show.proofs.PrintedStates.{traces_tell_facts}
use Rattle.tp_run.specs.History.{Plan, StatesLead, LeadsTo, RunEndsWith}
use Rattle.tp_run_laws.specs.Printable.{ProgramIsPrintable, InputsArePrintable}
use Rattle.tp_run_laws.specs.PrintableRuns.{IsWrittenWithinLimits, RunIsPrintable}
use Rattle.tp_run_laws.proofs.Tokens.{token_names_are_of_variables}
use Rattle.tp_run_laws.proofs.Checked.{checked_programs_are_printable}
use Rattle.tp_run_laws.proofs.Tables.{tables_are_printable}
use Rattle.tp_run_laws.proofs.Runs.{runs_are_printable}
use Rattle.tp_call.specs.declared.status.Status.{Status}
use Rattle.tp_call.specs.declared.status.Status.TheVariants.{Finished, Contradictory, Undetermined, StateLimit, ReductionLimit, NumberLimit, ListLimit, CallLimit, NestLimit, InputMissing}
use Rattle.tp_call.specs.Source.{IsProgram}
use Rattle.tp_call.specs.Files.{Wrote}
use Rattle.tp_call.specs.Run.{known_at_end}
use Rattle.tp_call.specs.Answer.{HasInputs, RunsTo, Refuses, CallEnds, Answers}
use Rattle.tp_call.specs.Text.{TraceSays}
use Rattle.tp_call.proofs.EndKinds.{EndsRun}
use Rattle.tp_call.proofs.FactLemmas.{run_facts}
use Rattle.tp_call.proofs.TracedLemmas.{run_printed, picture_of, HasTraceLines, run_is, run_pictures, run_further, all_printed, facts_printed}
use Rattle.tp_call.proofs.TurnLemmas.{end_seen}

-- ---- names

module _ (P Q : List ℕ → Type 0) where
  each_is : ((x : List ℕ) → P x → Q x) → (xs : List (List ℕ)) → All P xs → All Q xs
  each_is is [] h = All-nil Q
  each_is is (x ∷ xs) h = All-cons Q x xs (is x (All-head P x xs h)) (each_is is xs (All-tail P x xs h))

-- what holds of all names holds of those among them
among : (P : List ℕ → Type 0) (all xs : List (List ℕ)) → All P all → All (Contains all) xs → All P xs
among P all xs h = each_is (Contains all) P (λ x there. All-contains P all x h there) xs

one_line : (name : List ℕ) → IsVariableName name → IsOneLine name
one_line name h = plain_one name (name_plain name h.bytes)

module _ (source : List ℕ) (plan : Plan) (is : IsProgram source plan.program) where
  source_variables : All IsVariableName (source_names is.tree)
  source_variables = among IsVariableName (token_names is.tokens) (source_names is.tree) (token_names_are_of_variables source is.tokens is.are_tokens) (names_are_tokens is.tokens is.tree is.accepted)

  pub global_variables : All IsVariableName plan.program.globals
  global_variables = among IsVariableName (source_names is.tree) plan.program.globals source_variables (globals_stand_in_source is.tree plan.program is.checked)

  pub program_printable : ProgramIsPrintable plan.program
  program_printable = checked_programs_are_printable is.tree plan.program is.checked (each_is IsVariableName IsOneLine one_line (source_names is.tree) source_variables)

pub inputs_printable : (held : Option Held) (files : Held) → held ≡ Some files → (name : Option (List ℕ)) (table : InputTable) → HasInputs name held table → InputsArePrintable table
inputs_printable held files told None table h = subst InputsArePrintable (sym h) tt
inputs_printable held files told (Some name) table h = tables_are_printable (bytes_of files name) table (h files told).1

-- ---- numbers of states

count_states : (plan : Plan) (n : ℕ) (m : Moment) (ps : List Picture) (last : Moment) → StatesLead plan n m ps last → CountFrom n ps
count_states plan n m [] last h = tt
count_states plan n m (p ∷ ps) last h = (h.1.picture_is.state, count_states plan (suc n) h.0 ps last h.2)

count_one_more : (n : ℕ) (ps : List Picture) (p : Picture) → CountFrom n ps → p.state ≡ length ps + n → CountFrom n (ps ++ p ∷ [])
count_one_more n [] p h e = (e ∙ omega arith, tt)
count_one_more n (q ∷ ps) p h e = (h.0, count_one_more (suc n) ps p h.1 (e ∙ omega arith))

pub count_run : (plan : Plan) (ps : List Picture) (answer : Turn) → RunEndsWith plan ps answer → CountFrom 0 ps
count_run plan ps answer = by answer where
  lead : (qs : List Picture) (m : Moment) → LeadsTo plan qs m → CountFrom 0 qs
  lead qs m leads = count_states plan 0 (first_moment plan.program.globals plan.program.main) qs m leads

  by : (answer : Turn) → RunEndsWith plan ps answer → CountFrom 0 ps
  by turn.Went end = absurd end
  by (turn.Finished n) end = subst (CountFrom 0) (sym end.pictures) (count_one_more 0 end.before end.final (lead end.before end.moment end.leads) (end.ends.picture_is.state ∙ omega arith))
  by (turn.Contradictory state clash) end = lead ps end.0 end.1
  by (turn.Undetermined state cell) end = lead ps end.0 end.1
  by (turn.StateLimit states) end = lead ps end.0 end.1
  by (turn.InputMissing state port) end = lead ps end.0 end.1
  by (turn.Over state limit) end = lead ps end.0 end.1

-- ---- pictures

all_readable : (names : List (List ℕ)) (ps : List Picture) → All (λ (p : Picture). AreFactsOf names p.facts) ps → All (IsWrittenWithinLimits names) ps → All (IsReadable names) ps
all_readable names [] h k = All-nil (IsReadable names)
all_readable names (p ∷ ps) h k =
    let Facts : Picture → Type 0 = λ (q : Picture). AreFactsOf names q.facts in
    let facts = All-head Facts p ps h in
    All-cons (IsReadable names) p ps (record { facts = facts; limits = All-head (IsWrittenWithinLimits names) p ps k facts }) (all_readable names ps (All-tail Facts p ps h) (All-tail (IsWrittenWithinLimits names) p ps k))

-- ---- the text

module _ (words : List (List ℕ)) (held : Option Held) (old new : Option (List ℕ)) where
  -- the run that ended so, and what it wrote
  abbrev Ran : Status → Type 0
  Ran status = (text : List ℕ) × RunsTo words held status text × Wrote old new text

  run_alone : (status : Status) → (Refuses words held status → ⊥) → EndsRun status → (text : List ℕ) × CallEnds words held status text × Wrote old new text → Ran status
  run_alone status never end (text, inl run, wrote) = (text, run, wrote)
  run_alone status never end (text, inr (inl spelled), wrote) = absurd (subst EndsRun spelled.status_is end)
  run_alone status never end (text, inr (inr (inl made)), wrote) = absurd (subst EndsRun made.status_is end)
  run_alone status never end (text, inr (inr (inr (inl judges))), wrote) = absurd (subst EndsRun judges.status_is end)
  run_alone status never end (text, inr (inr (inr (inr refused))), wrote) = absurd (never refused.0)

  pub ran : (status : Status) → EndsRun status → Answers words held old new status → Ran status
  ran (Finished n) end a = run_alone (Finished n) (λ r. r) end a
  ran (Contradictory state clash) end a = run_alone (Contradictory state clash) (λ r. r) end a
  ran (Undetermined state cell) end a = run_alone (Undetermined state cell) (λ r. r) end a
  ran (StateLimit states) end a = run_alone (StateLimit states) (λ r. r) end a
  ran (ReductionLimit state) end a = run_alone (ReductionLimit state) (λ r. r) end a
  ran (NumberLimit state) end a = run_alone (NumberLimit state) (λ r. r) end a
  ran (ListLimit state) end a = run_alone (ListLimit state) (λ r. r) end a
  ran (CallLimit state) end a = run_alone (CallLimit state) (λ r. r) end a
  ran (NestLimit state) end a = run_alone (NestLimit state) (λ r. r) end a
  ran (InputMissing state port) end a = run_alone (InputMissing state port) (λ r. r) end a
  ran status end a = absurd end

  module _ (files : Held) (told : held ≡ Some files) (status : Status) (text : List ℕ) (run : RunsTo words held status text) where
    abbrev pub names : List (List ℕ)
    names = run.plan.program.globals

    is_program : IsProgram (bytes_of files run.asked.wanted.file) run.plan.program
    is_program = (run.asked.source files told).1

    variable_names : AreVariableNames names
    variable_names = record { each = global_variables (bytes_of files run.asked.wanted.file) run.plan is_program; apart = run.names.apart }

    program_made : ProgramIsPrintable run.plan.program
    program_made = program_printable (bytes_of files run.asked.wanted.file) run.plan is_program

    inputs_made : InputsArePrintable run.plan.inputs
    inputs_made = inputs_printable held files told run.asked.wanted.inputs run.plan.inputs run.asked.inputs

    printable : RunIsPrintable run.plan run.pictures run.run.answer run.run.run
    printable = runs_are_printable run.plan program_made inputs_made run.pictures run.run.answer run.run.run

    readable : All (IsReadable names) run.pictures
    readable = all_readable names run.pictures (run_facts run.plan run.pictures run.run.answer run.fits run.run.run) printable.limits

    abbrev pub last_line : List ℕ
    last_line = end_line names (known_at_end run.run) run.plan.reductions run.run.answer

    pub last_one : IsOneLine (last_words names (known_at_end run.run) run.plan.reductions run.run.answer)
    last_one = traces_tell_facts.end_lines names variable_names (known_at_end run.run) printable.variables run.plan.reductions run.run.answer printable.port

    ending : IsEnding names last_line
    ending = (known_at_end run.run, run.plan.reductions, run.run.answer, last_one, refl)

    -- the states as they are printed
    abbrev pub printed : List PrintedState
    printed = run_printed run.asked.wanted.beside run.plan run.pictures run.run.answer run.run.run

    pub pictures_are : map picture_of printed ≡ run.pictures
    pictures_are = run_pictures run.asked.wanted.beside run.plan run.pictures run.run.answer run.run.run

    pub text_is : text ≡ printed_states_text names printed ++ last_line
    text_is = run.written ∙ ap (λ l. l ++ last_line) (run_is run.asked.wanted.beside run.plan run.pictures run.run.answer run.run.run)

    pub have_trace_lines : All HasTraceLines printed
    have_trace_lines = run_further run.asked.wanted.beside run.plan program_made inputs_made run.pictures run.run.answer run.run.run

    is_trace : 0 < length run.pictures → IsTraceText text (map (named_facts names) run.pictures)
    is_trace some =
        let as_printed = all_printed names printed (subst (All (IsReadable names)) (sym pictures_are) readable) have_trace_lines in
        let count = subst (CountFrom 0) (sym pictures_are) (count_run run.plan run.pictures run.run.answer run.run.run) in
        let many : length printed ≡ length run.pictures = sym (length-map printed picture_of) ∙ ap length pictures_are in
        let whole = traces_tell_facts.printed names variable_names printed as_printed count (omega (arith, some, many)) last_line ending in
        let facts : map (λ (s : PrintedState). named_facts names s.picture) printed ≡ map (named_facts names) run.pictures = facts_printed names printed ∙ ap (map (named_facts names)) pictures_are in
        subst (λ (t : List ℕ). IsTraceText t (map (named_facts names) run.pictures)) (sym text_is) (subst (IsTraceText (printed_states_text names printed ++ last_line)) facts whole)

  pub trace_says : (result : Status) → Answers words held old new result → TraceSays words held old new result
  trace_says result a = λ files told end.
      let r = ran result (end_seen result end) a in
      let run = r.1 in
      record {
        plan = run.plan;
        pictures = run.pictures;
        asked = run.asked;
        run = run.run;
        says = run.says;
        text = r.0;
        appended = r.2;
        trace = is_trace files told result r.0 run;
      }
