-- What the last line of a text says, whatever the status is.
use Rattle.std.proofs.Common.{◌≡◌, ◌<◌, ◌^◌, inl, inr, ℕ, true, false, List, [], ◌∷◌, ◌++◌, length, map, take, drop, All, Option, Some, codes, refl, sym, ap, ◌∙◌, subst, append_assoc, append-nil, arith}
use Rattle.std.specs.List.{flat_map}
use Rattle.std.specs.Fmt.{decimal}
use Rattle.std.specs.Option.{option_map}
use Rattle.std.proofs.lemmas.List.{append_cancel_left, take-append-drop, length-map}
use Rattle.std.proofs.lemmas.List.Elements.{All-nil, All-cons, All-append, All-head, All-tail}
use Rattle.tp_io.specs.Held.{Held, bytes_of}
use Rattle.tp_kernel.specs.declared.fault.LimitKind.{LimitKind}
use Rattle.tp_kernel.specs.declared.fault.LimitKind.TheVariants as limit
use Rattle.tp_store.specs.Known.{Variable}
use Rattle.tp_show.specs.declared.turn.Picture.{Picture}
use Rattle.tp_show.specs.declared.turn.Turn.{Turn}
use Rattle.tp_show.specs.declared.turn.Turn.TheVariants as turn
use Rattle.tp_show.specs.FactsOf.{AreFactsOf}
use Rattle.tp_show.specs.Line.{IsOneLine, fed_line, told_of}
use Rattle.tp_show.specs.Texts.{end_line}
use Rattle.tp_show.specs.Told.{AreNames, IsPartOf, FitsIn64Bits}
use Rattle.tp_show.specs.Trace.{opens_with_one}
use Rattle.tp_show.specs.TraceOfRun.{PrintedState, printed_states_text}
use Rattle.tp_show.proofs.EndPlaces.{number_read}
use Rattle.tp_show.proofs.ToldLemmas.{parts_of_variables}
use Rattle.tp_run.specs.History.{Plan, RunEndsWith, Unsatisfiable, ContinuesEach}
use Rattle.tp_run_laws.specs.Printable.{ProgramIsPrintable, InputsArePrintable}
use Rattle.tp_run_laws.proofs.Phrases.{written_out, joined, decimal_one}
use Rattle.tp_words.specs.declared.beside.Beside.{Beside}
use Rattle.tp_words.specs.declared.mode.Mode.TheVariants.{Run, Print, Convert, Check}
use Rattle.tp_call.specs.declared.status.Status.{Status}
use Rattle.tp_call.specs.declared.status.Status.TheVariants.{SourceRefused, InputsRefused, OtherRefused, TraceTooLong, WordsRefused, TooLong, ReadFault, WriteFault, NoMemory}
use Rattle.tp_call.specs.declared.status.Which.{Which}
use Rattle.tp_call.specs.declared.status.Which.TheVariants.{Source, Inputs, Other}
use Rattle.tp_call.specs.declared.status.SourceKind.{SourceKind}
use Rattle.tp_call.specs.declared.status.SourceKind.TheVariants as cause
use Rattle.tp_call.specs.Source.{IsProgram}
use Rattle.tp_call.specs.EndLine.{which_text, kind_text, place_text, refusal_words, refusal_line}
use Rattle.tp_call.specs.Run.{EndSays, Settles, known_at_end, settled_text}
use Rattle.tp_call.specs.Files.{Wrote}
use Rattle.tp_call.specs.Text.{finished_line, SatisfiedAsTold, TracedState, IsTraceLine, IsTraced, TracedTextTells, finished_openings, refuting_openings, stopped_openings, last_openings, state_limit_line, LineSays, EndsInLine, AsksForRun, LastLineSays}
use Rattle.tp_call.specs.Answer.{RunsTo, Refuses, CallEnds, RunsOn, IsUnfinishedText, Answers}
use Rattle.tp_call.proofs.FactLemmas.{run_facts, leads_facts}
use Rattle.tp_call.proofs.NamesLemmas.{names_are}
use Rattle.tp_call.proofs.TextLemmas.{told_all, exactly_told, continues_told, finished_length}
use Rattle.tp_call.proofs.TraceLemmas.{last_line, program_printable, inputs_printable}
use Rattle.tp_call.proofs.TracedLemmas.{picture_of, HasTraceLines, lead_printed, run_printed, lead_is, run_is, lead_pictures, run_pictures, lead_further, run_further}
use Rattle.tp_call.proofs.TracedOnce.{told_words, state_words, show_words, all_words, traced_fed, state_one, shows_one, further_one, end_words, lines_one, lines_fed}
use Rattle.tp_call.proofs.TracedTextLemmas.{traced_of, traced_is, own, tells, facts}
use Rattle.tp_call.proofs.LineTexts.{never, stands_there, IsNoEnd, no_end_there, nothing_behind, told_no_end, further_no_end}

-- ---- what the end line of a run says

module _ (plan : Plan) (ps : List Picture) (are : All (λ (p : Picture). AreFactsOf plan.program.globals p.facts) ps) (known : List Variable) where
  abbrev names : List (List ℕ)
  names = plan.program.globals

  abbrev line_of : Turn → List ℕ
  line_of answer = end_line names known plan.reductions answer

  abbrev Says : Turn → Type 0
  Says answer = LineSays plan (told_all ps) (line_of answer)

  -- a line that begins otherwise is none of a run that finished
  no_finish : {X : Type 0} (line : List ℕ) (n : ℕ) → opens_with_one finished_openings line ≡ false → line ≡ finished_line n → X
  no_finish line n other is = never (sym other ∙ ap (opens_with_one finished_openings) is)

  -- and none of a run that stopped at the limit of states
  abbrev limit_openings : List (List ℕ)
  limit_openings = codes "state limit: " ∷ []

  no_state_limit : {X : Type 0} (line : List ℕ) (n : ℕ) → opens_with_one limit_openings line ≡ false → line ≡ state_limit_line n → X
  no_state_limit line n other is = never (sym other ∙ ap (opens_with_one limit_openings) is)

  refutes : (line : List ℕ) → Unsatisfiable plan → opens_with_one finished_openings line ≡ false → opens_with_one stopped_openings line ≡ false → opens_with_one limit_openings line ≡ false → LineSays plan (told_all ps) line
  refutes line none f s l = record { finished = λ n fit is. no_finish line n f is; refuted = λ h. none; stopped = λ h. never (sym s ∙ h); state_limit_reached = λ n fit is. no_state_limit line n l is }

  stops : (line : List ℕ) → ContinuesEach plan ps → opens_with_one finished_openings line ≡ false → opens_with_one refuting_openings line ≡ false → opens_with_one limit_openings line ≡ false → LineSays plan (told_all ps) line
  stops line each f r l = record { finished = λ n fit is. no_finish line n f is; refuted = λ h. never (sym r ∙ h); stopped = λ h. continues_told plan names ps are each; state_limit_reached = λ n fit is. no_state_limit line n l is }

  -- the last lines of two limits of states
  limit_read : (m n : ℕ) → FitsIn64Bits m → FitsIn64Bits n → state_limit_line m ≡ state_limit_line n → m ≡ n
  limit_read m n h k e = (number_read m n (codes "\n") (codes "\n") h k refl refl (ap (drop 13) e)).0

  -- as many states were settled as there may be
  fills : (count : ℕ) → plan.states < 2 ^ 64 → ContinuesEach plan ps → count ≡ length ps → count ≡ plan.states → Says (turn.StateLimit count)
  fills count states each settled most =
      let small : count < 2 ^ 64 = omega (arith, most, states) in
      let line : line_of (turn.StateLimit count) ≡ state_limit_line count = append_assoc (codes "state limit: ") (decimal count) (codes "\n") in
      let told : length (told_all ps) ≡ length ps = length-map ps told_of in
      record {
        finished = λ n fit is. no_finish (line_of (turn.StateLimit count)) n refl is;
        refuted = λ h. never h;
        stopped = λ h. continues_told plan names ps are each;
        state_limit_reached = λ n fit is. let same : n ≡ count = limit_read n count fit small (sym is ∙ line) in (same ∙ (settled ∙ sym told), same ∙ most);
      }

  limit_says : (state : ℕ) (kind : LimitKind) → ContinuesEach plan ps → Says (turn.Over state kind)
  limit_says state limit.Reductions each = stops (line_of (turn.Over state limit.Reductions)) each refl refl refl
  limit_says state limit.Number each = stops (line_of (turn.Over state limit.Number)) each refl refl refl
  limit_says state limit.List each = stops (line_of (turn.Over state limit.List)) each refl refl refl
  limit_says state limit.Calls each = stops (line_of (turn.Over state limit.Calls)) each refl refl refl
  limit_says state limit.Nest each = stops (line_of (turn.Over state limit.Nest)) each refl refl refl

  pub line_says : (answer : Turn) → plan.states < 2 ^ 64 → RunEndsWith plan ps answer → EndSays plan ps answer → Says answer
  line_says turn.Went states end says = absurd says
  line_says (turn.Finished n) states end says =
      let within = end.ends.within in
      let count = end.count in
      let small : n < 2 ^ 64 = omega (arith, count, within, states) in
      let line : line_of (turn.Finished n) ≡ finished_line n = append_assoc (codes "finished: length ") (decimal n) (codes "\n") in
      record {
        finished = λ m fit is. subst (SatisfiedAsTold plan (told_all ps)) (finished_length n m small fit (sym line ∙ is)) (exactly_told plan names ps are n says.0);
        refuted = λ h. never h;
        stopped = λ h. never h;
        state_limit_reached = λ m fit is. no_state_limit (line_of (turn.Finished n)) m refl is;
      }
  line_says (turn.Contradictory state clash) states end says = refutes (line_of (turn.Contradictory state clash)) says refl refl refl
  line_says (turn.Undetermined state cell) states end says = stops (line_of (turn.Undetermined state cell)) says refl refl refl
  line_says (turn.StateLimit count) states end says = fills count states says end.2 end.3
  line_says (turn.InputMissing state port) states end says = refutes (line_of (turn.InputMissing state port)) says refl refl refl
  line_says (turn.Over state kind) states end says = limit_says state kind says

-- ---- the lines of states

-- the text is lines of states, and of nothing else
record StateLines (text : List ℕ) : Type 0 where
  lines : List (List ℕ)
  one : All IsOneLine lines
  no_end : All IsNoEnd lines
  fed : text ≡ flat_map fed_line lines

abbrev IsToldBeside : (names : List (List ℕ)) → TracedState → Type 0
IsToldBeside names s = All (IsPartOf names) s.told.parts × All IsTraceLine s.further

module _ (names : List (List ℕ)) (are : AreNames names) where
  states_one : (states : List TracedState) → All (IsToldBeside names) states → All IsOneLine (flat_map (all_words names) states)
  states_one [] h = All-nil IsOneLine
  states_one (s ∷ states) h =
      let here = All-head (IsToldBeside names) s states h in
      All-append IsOneLine (all_words names s) (flat_map (all_words names) states)
      (All-append IsOneLine (told_words names s.told) s.further (All-cons IsOneLine (state_words names s.told) (map show_words s.told.shows) (state_one names are s.told here.0) (shows_one names are s.told.shows)) (further_one names are s.further here.1))
      (states_one states (All-tail (IsToldBeside names) s states h))

  states_no_end : (states : List TracedState) → All (IsToldBeside names) states → All IsNoEnd (flat_map (all_words names) states)
  states_no_end [] h = All-nil IsNoEnd
  states_no_end (s ∷ states) h =
      All-append IsNoEnd (all_words names s) (flat_map (all_words names) states)
      (All-append IsNoEnd (told_words names s.told) s.further (told_no_end names s.told) (further_no_end s.further (All-head (IsToldBeside names) s states h).1))
      (states_no_end states (All-tail (IsToldBeside names) s states h))

  told_beside : (states : List PrintedState) → All (λ (p : Picture). AreFactsOf names p.facts) (map picture_of states) → All HasTraceLines states → All (IsToldBeside names) (map traced_of states)
  told_beside [] h k = All-nil (IsToldBeside names)
  told_beside (s ∷ states) h k =
      let Facts : Picture → Type 0 = λ (p : Picture). AreFactsOf names p.facts in
      let more = map picture_of states in
      All-cons (IsToldBeside names) (traced_of s) (map traced_of states) (parts_of_variables names s.picture.facts (All-head Facts s.picture more h).of_variables, All-head HasTraceLines s states k)
      (told_beside states (All-tail Facts s.picture more h) (All-tail HasTraceLines s states k))

  state_lines : (text : List ℕ) (states : List PrintedState) → text ≡ printed_states_text names states → All (λ (p : Picture). AreFactsOf names p.facts) (map picture_of states) → All HasTraceLines states → StateLines text
  state_lines text states is h k =
      let traced = map traced_of states in
      let beside = told_beside states h k in
      record { lines = flat_map (all_words names) traced; one = states_one traced beside; no_end = states_no_end traced beside; fed = is ∙ (traced_is names states ∙ traced_fed names traced) }

traced_beside : (names : List (List ℕ)) (states : List TracedState) → All (IsTraced names) states → All (IsToldBeside names) states
traced_beside names [] h = All-nil (IsToldBeside names)
traced_beside names (s ∷ states) h =
    let here = All-head (IsTraced names) s states h in
    All-cons (IsToldBeside names) s states (here.told.variables, here.further) (traced_beside names states (All-tail (IsTraced names) s states h))

-- ---- the line of a refusal

words_one : (which : Which) → IsOneLine (which_text which)
words_one Source = written_out (codes "source") refl
words_one Inputs = written_out (codes "inputs") refl
words_one Other = written_out (codes "other") refl

kind_one : (k : SourceKind) → IsOneLine (kind_text k)
kind_one cause.BadByte = written_out (codes "bad byte") refl
kind_one cause.OpenComment = written_out (codes "open comment") refl
kind_one cause.NumberTooLarge = written_out (codes "number too large") refl
kind_one cause.NameTooLong = written_out (codes "name too long") refl
kind_one cause.Unexpected = written_out (codes "unexpected") refl
kind_one cause.Unfinished = written_out (codes "unfinished") refl
kind_one cause.TooDeep = written_out (codes "too deep") refl
kind_one cause.DefinedTwice = written_out (codes "defined twice") refl
kind_one cause.UnknownName = written_out (codes "unknown name") refl
kind_one cause.WrongCount = written_out (codes "wrong count") refl
kind_one cause.NotExpression = written_out (codes "not an expression") refl
kind_one cause.NotPlace = written_out (codes "not a place") refl
kind_one cause.NotPort = written_out (codes "not a port") refl
kind_one cause.NotExecutable = written_out (codes "not executable") refl

place_one : (line column : ℕ) → IsOneLine (place_text line column)
place_one line column =
    let opening = codes "source refused: line " in
    let to_line = joined opening (decimal line) (written_out (codes "source refused: line ") refl) (decimal_one line) in
    joined (opening ++ decimal line ++ codes " column ") (decimal column) (joined (opening ++ decimal line) (codes " column ") to_line (written_out (codes " column ") refl)) (decimal_one column)

-- it is one line, and begins as no end line of a run
module _ (words : List (List ℕ)) (held : Option Held) where
  one_refusal : (status : Status) → IsOneLine (refusal_words status) → IsNoEnd (refusal_words status) → (text : List ℕ) → text ≡ refusal_line status → StateLines text
  one_refusal status one none text is =
      let line = refusal_words status in
      record { lines = line ∷ []; one = All-cons IsOneLine line [] one (All-nil IsOneLine); no_end = All-cons IsNoEnd line [] none (All-nil IsNoEnd); fed = is ∙ sym (append-nil (fed_line line)) }

  refusal_lines : (status : Status) → Refuses words held status → (text : List ℕ) → text ≡ refusal_line status → StateLines text
  refusal_lines (SourceRefused line column k) r =
      one_refusal (SourceRefused line column k) (joined (place_text line column ++ codes ": ") (kind_text k) (joined (place_text line column) (codes ": ") (place_one line column) (written_out (codes ": ") refl)) (kind_one k)) refl
  refusal_lines (InputsRefused line) r = one_refusal (InputsRefused line) (joined (codes "inputs refused: line ") (decimal line) (written_out (codes "inputs refused: line ") refl) (decimal_one line)) refl
  refusal_lines (OtherRefused line) r = one_refusal (OtherRefused line) (joined (codes "other refused: line ") (decimal line) (written_out (codes "other refused: line ") refl) (decimal_one line)) refl
  refusal_lines (TraceTooLong states) r =
      let opening = codes "trace too long: " in
      one_refusal (TraceTooLong states) (joined (opening ++ decimal states) (codes " states") (joined opening (decimal states) (written_out (codes "trace too long: ") refl) (decimal_one states)) (written_out (codes " states") refl)) refl
  refusal_lines WordsRefused r = one_refusal WordsRefused (written_out (codes "words refused") refl) refl
  refusal_lines (TooLong which) r = one_refusal (TooLong which) (joined (codes "too long: ") (which_text which) (written_out (codes "too long: ") refl) (words_one which)) refl
  refusal_lines (ReadFault which) r = one_refusal (ReadFault which) (joined (codes "read fault: ") (which_text which) (written_out (codes "read fault: ") refl) (words_one which)) refl
  refusal_lines status r = absurd r

-- ---- whatever the status

module _ (words : List (List ℕ)) (held : Option Held) (old new : Option (List ℕ)) (files : Held) (told : held ≡ Some files) where
  -- the states of a run without an end line
  module _ (whole : List ℕ) (on : RunsOn words held whole) where
    abbrev on_names : List (List ℕ)
    on_names = on.plan.program.globals

    abbrev on_beside : Beside
    on_beside = on.asked.wanted.beside

    abbrev HasFacts : Picture → Type 0
    HasFacts p = AreFactsOf on_names p.facts

    is_program : IsProgram (bytes_of files on.asked.wanted.file) on.plan.program
    is_program = (on.asked.source files told).1

    are : AreNames on_names
    are = names_are (bytes_of files on.asked.wanted.file) on.plan.program is_program

    program : ProgramIsPrintable on.plan.program
    program = program_printable (bytes_of files on.asked.wanted.file) on.plan is_program

    inputs : InputsArePrintable on.plan.inputs
    inputs = inputs_printable held files told on.asked.wanted.inputs on.plan.inputs on.asked.inputs

    lines_by : (run : Settles on.plan on.pictures) → whole ≡ settled_text on_beside on.plan on.pictures run → StateLines whole
    lines_by (inl goes) is =
        state_lines on_names are whole (lead_printed on_beside on.plan on.pictures goes.0 goes.1) (is ∙ lead_is on_beside on.plan on.pictures goes.0 goes.1)
        (subst (All HasFacts) (sym (lead_pictures on_beside on.plan on.pictures goes.0 goes.1)) (leads_facts on.plan on.pictures goes.0 on.fits goes.1))
        (lead_further on_beside on.plan program inputs on.pictures goes.0 goes.1)
    lines_by (inr end) is =
        let answer = end.1.answer in
        let run = end.1.run in
        state_lines on_names are whole (run_printed on_beside on.plan on.pictures answer run) (is ∙ run_is on_beside on.plan on.pictures answer run)
        (subst (All HasFacts) (sym (run_pictures on_beside on.plan on.pictures answer run)) (run_facts on.plan on.pictures answer on.fits run))
        (run_further on_beside on.plan program inputs on.pictures answer run)

    on_lines : StateLines whole
    on_lines = lines_by on.run on.written

  module _ (asks : AsksForRun words) (before text line : List ℕ) (from : old ≡ Some before) (to : new ≡ Some (before ++ text)) (ends : EndsInLine text line) (opens : opens_with_one last_openings line ≡ true) where
    abbrev Told : Type 0
    Told = TracedTextTells words held old new LineSays

    wrote : Wrote old new text
    wrote = to ∙ ap (option_map (λ (b : List ℕ). b ++ text)) (sym from)

    text_is : (other : List ℕ) → Wrote old new other → text ≡ other
    text_is other w =
        let both : Some (before ++ text) ≡ Some (before ++ other) = sym to ∙ (w ∙ ap (option_map (λ (b : List ℕ). b ++ other)) from) in
        append_cancel_left before text other (cc both)

    not_states : {X : Type 0} (whole rest : List ℕ) → StateLines whole → text ++ rest ≡ whole → X
    not_states whole rest s begins =
        let found = stands_there s.lines text line whole rest s.one s.fed begins ends in
        no_end_there s.lines ends.before found.0 line s.no_end found.1 opens

    of_run : (status : Status) (whole rest : List ℕ) → RunsTo words held status whole → text ++ rest ≡ whole → Told
    of_run status whole rest run begins =
        let names = run.plan.program.globals in
        let states = told_all run.pictures in
        let end = last_line words held old new files told status whole run in
        let reading = own words held old new files told status whole run in
        let lines = flat_map (all_words names) reading.states in
        let last = (end_words names end reading.last).words in
        let found = stands_there (lines ++ last ∷ []) text line whole rest (lines_one names run.names whole states end reading) (lines_fed names run.names whole states end reading) begins ends in
        let alone = nothing_behind lines ends.before found.0 last line (states_no_end names run.names reading.states (traced_beside names reading.states reading.are)) found.1 opens in
        let none : rest ≡ [] = found.2 ∙ ap (flat_map fed_line) alone in
        let same : text ≡ whole = sym (append-nil text) ∙ (ap (λ l. text ++ l) (sym none) ∙ begins) in
        tells words held old new files told status whole run (subst (Wrote old new) same wrote) LineSays
        (line_says run.plan run.pictures (facts words held old new files told status whole run) (known_at_end run.run) run.run.answer run.states run.run.run run.says)

    of_end : (status : Status) (whole rest : List ℕ) → CallEnds words held status whole → text ++ rest ≡ whole → Told
    of_end status whole rest (inl run) begins = of_run status whole rest run begins
    of_end status whole rest (inr (inl spelled)) begins =
        let bad : Run ≡ Print = sym (asks spelled.asked.wanted spelled.asked.accepted) ∙ spelled.asked.mode in
        absurd (cc bad)
    of_end status whole rest (inr (inr (inl made))) begins =
        let bad : Run ≡ Convert = sym (asks made.asked.wanted made.asked.accepted) ∙ made.asked.mode in
        absurd (cc bad)
    of_end status whole rest (inr (inr (inr (inl judges)))) begins =
        let asked = judges.judged.asked in
        let bad : Run ≡ Check = sym (asks asked.wanted asked.accepted) ∙ asked.mode in
        absurd (cc bad)
    of_end status whole rest (inr (inr (inr (inr refused)))) begins = not_states whole rest (refusal_lines words held status refused.0 whole refused.1) begins

    unfinished : {X : Type 0} (whole rest : List ℕ) → IsUnfinishedText words held whole → text ++ rest ≡ whole → X
    unfinished whole rest (inl none) begins = not_states whole rest (record { lines = []; one = All-nil IsOneLine; no_end = All-nil IsNoEnd; fed = none }) begins
    unfinished whole rest (inr on) begins = not_states whole rest (on_lines whole on) begins

    -- the text is a whole one, or begins one
    all_of : (whole : List ℕ) → Wrote old new whole → text ++ [] ≡ whole
    all_of whole w = append-nil text ∙ text_is whole w

    part_of : (whole : List ℕ) (kept : ℕ) → Wrote old new (take kept whole) → text ++ drop kept whole ≡ whole
    part_of whole kept w = ap (λ t. t ++ drop kept whole) (text_is (take kept whole) w) ∙ take-append-drop kept whole

    answers : (result : Status) → Answers words held old new result → Told
    answers WriteFault (whole, inl part, (kept, w)) = unfinished whole (drop kept whole) part (part_of whole kept w)
    answers WriteFault (whole, inr (status, end), (kept, w)) = of_end status whole (drop kept whole) end (part_of whole kept w)
    answers NoMemory (whole, part, w) = unfinished whole [] part (all_of whole w)
    answers result (whole, end, w) = of_end result whole [] end (all_of whole w)

pub last_line_says : (words : List (List ℕ)) (held : Option Held) (old new : Option (List ℕ)) (result : Status) → Answers words held old new result → LastLineSays words held old new
last_line_says words held old new result a = λ files told asks before text line from to ends opens. answers words held old new files told asks before text line from to ends opens result a
