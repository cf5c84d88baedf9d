-- The states of a run as they are printed: each with what is asked for beside it.
use Rattle.std.proofs.Common.{◌≡◌, ℕ, suc, List, [], ◌∷◌, ◌++◌, map, length, All, Option, None, Some, nat_eq, codes, refl, sym, ap, ap₂, ◌∙◌, append-nil}
use Rattle.std.specs.List.{starts_with}
use Rattle.std.specs.Fmt.{decimal}
use Rattle.std.proofs.lemmas.Bool.{or_right}
use Rattle.std.proofs.lemmas.Grind.{flat_map-append}
use Rattle.std.proofs.lemmas.List.Elements.{All-nil, All-cons, All-append, All-head, All-tail}
use Rattle.tp_meaning.specs.Interval.{ProgramTree}
use Rattle.tp_scene.specs.Pick.{Moment}
use Rattle.tp_scene.specs.Beginning.{first_moment}
use Rattle.tp_show.specs.declared.turn.Picture.{Picture}
use Rattle.tp_show.specs.declared.turn.Turn.{Turn}
use Rattle.tp_show.specs.declared.turn.Turn.TheVariants as turn
use Rattle.tp_show.specs.declared.named_fact.NamedFact.{NamedFact}
use Rattle.tp_show.specs.Line.{picture_lines, fed_line}
use Rattle.tp_show.specs.TraceOfRun.{IsReadable, PrintedState, printed_state_lines, printed_states_text, IsFurtherLine, IsPrinted}
use Rattle.tp_show.specs.Trace.{named_facts, opens_with_one}
use Rattle.tp_run.specs.History.{Plan, StatesLead, LeadsTo, RunEndsWith}
use Rattle.tp_run_laws.specs.Printable.{ProgramIsPrintable, InputsArePrintable}
use Rattle.tp_run_laws.proofs.Moments.{MomentIsPrintable}
use Rattle.tp_run_laws.proofs.Phrases.{written_out, joined, decimal_one, entries_one}
use Rattle.tp_run_laws.proofs.Runs.{next_printable, begins_printable}
use Rattle.tp_call.specs.Text.{trace_openings, IsTraceLine}
use Rattle.tp_call.specs.Run.{phrase_left, written_state, states_text, lead_text, ended_text}
use Rattle.tp_words.specs.declared.beside.Beside.{Beside}
use Rattle.tp_words.specs.declared.beside.Beside.TheVariants.{Nothing, TraceLines}

-- ---- the lines behind those of a state

abbrev pub reductions_words : ℕ → List ℕ
reductions_words n = codes "reductions " ++ decimal n

abbrev pub residual_words : List ℕ → List ℕ
residual_words phrase = codes "residual: " ++ phrase

abbrev pub further_lines : (beside : Beside) → ProgramTree → Picture → Option Moment → List (List ℕ)
further_lines Nothing program picture next = []
further_lines TraceLines program picture None = reductions_words picture.reductions ∷ []
further_lines TraceLines program picture (Some next) = reductions_words picture.reductions ∷ residual_words (phrase_left program next) ∷ []

abbrev pub printed_state : (beside : Beside) → ProgramTree → Picture → Option Moment → PrintedState
printed_state beside program picture next = record { picture = picture; further = further_lines beside program picture next }

state_printed : (beside : Beside) (program : ProgramTree) (picture : Picture) (next : Option Moment) → written_state beside program picture next ≡ printed_state_lines program.globals (printed_state beside program picture next)
state_printed Nothing program picture next = sym (append-nil (picture_lines program.globals picture))
state_printed TraceLines program picture None = ap (λ l. picture_lines program.globals picture ++ l) (sym (append-nil (fed_line (reductions_words picture.reductions))))
state_printed TraceLines program picture (Some next) =
    let residual = fed_line (residual_words (phrase_left program next)) in
    ap (λ l. picture_lines program.globals picture ++ (fed_line (reductions_words picture.reductions) ++ l)) (sym (append-nil residual))

-- ---- the states

abbrev pub states_printed : (beside : Beside) (plan : Plan) (n : ℕ) (m : Moment) (pictures : List Picture) (last : Moment) → StatesLead plan n m pictures last → List PrintedState
states_printed beside plan n m [] last leads = []
states_printed beside plan n m (p ∷ ps) last leads = printed_state beside plan.program p (Some leads.0) ∷ states_printed beside plan (suc n) leads.0 ps last leads.2

abbrev pub lead_printed : (beside : Beside) (plan : Plan) (pictures : List Picture) (m : Moment) → LeadsTo plan pictures m → List PrintedState
lead_printed beside plan pictures m leads = states_printed beside plan 0 (first_moment plan.program.globals plan.program.main) pictures m leads

abbrev pub run_printed : (beside : Beside) (plan : Plan) (pictures : List Picture) (answer : Turn) → RunEndsWith plan pictures answer → List PrintedState
run_printed beside plan pictures turn.Went end = []
run_printed beside plan pictures (turn.Finished length) end = lead_printed beside plan end.before end.moment end.leads ++ printed_state beside plan.program end.final None ∷ []
run_printed beside plan pictures (turn.Contradictory state clash) end = lead_printed beside plan pictures end.0 end.1
run_printed beside plan pictures (turn.Undetermined state cell) end = lead_printed beside plan pictures end.0 end.1
run_printed beside plan pictures (turn.StateLimit states) end = lead_printed beside plan pictures end.0 end.1
run_printed beside plan pictures (turn.InputMissing state port) end = lead_printed beside plan pictures end.0 end.1
run_printed beside plan pictures (turn.Over state limit) end = lead_printed beside plan pictures end.0 end.1

abbrev pub picture_of : PrintedState → Picture
picture_of s = s.picture

abbrev pub HasTraceLines : PrintedState → Type 0
HasTraceLines s = All IsTraceLine s.further

module _ (beside : Beside) (plan : Plan) where
  abbrev names : List (List ℕ)
  names = plan.program.globals

  -- their text
  states_are : (n : ℕ) (m : Moment) (ps : List Picture) (last : Moment) (leads : StatesLead plan n m ps last) → states_text beside plan n m ps last leads ≡ printed_states_text names (states_printed beside plan n m ps last leads)
  states_are n m [] last leads = refl
  states_are n m (p ∷ ps) last leads = ap₂ (λ a b. a ++ b) (state_printed beside plan.program p (Some leads.0)) (states_are (suc n) leads.0 ps last leads.2)

  pub lead_is : (ps : List Picture) (m : Moment) (leads : LeadsTo plan ps m) → lead_text beside plan ps m leads ≡ printed_states_text names (lead_printed beside plan ps m leads)
  lead_is ps m leads = states_are 0 (first_moment names plan.program.main) ps m leads

  pub run_is : (ps : List Picture) (answer : Turn) (end : RunEndsWith plan ps answer) → ended_text beside plan ps answer end ≡ printed_states_text names (run_printed beside plan ps answer end)
  run_is ps turn.Went end = refl
  run_is ps (turn.Finished n) end =
      let before = lead_printed beside plan end.before end.moment end.leads in
      let final = printed_state beside plan.program end.final None in
      ap₂ (λ a b. a ++ b) (lead_is end.before end.moment end.leads) (state_printed beside plan.program end.final None ∙ sym (append-nil (printed_state_lines names final)))
      ∙ sym (flat_map-append (printed_state_lines names) before (final ∷ []))
  run_is ps (turn.Contradictory state clash) end = lead_is ps end.0 end.1
  run_is ps (turn.Undetermined state cell) end = lead_is ps end.0 end.1
  run_is ps (turn.StateLimit states) end = lead_is ps end.0 end.1
  run_is ps (turn.InputMissing state port) end = lead_is ps end.0 end.1
  run_is ps (turn.Over state limit) end = lead_is ps end.0 end.1

  -- their pictures
  states_pictures : (n : ℕ) (m : Moment) (ps : List Picture) (last : Moment) (leads : StatesLead plan n m ps last) → map picture_of (states_printed beside plan n m ps last leads) ≡ ps
  states_pictures n m [] last leads = refl
  states_pictures n m (p ∷ ps) last leads = ap (λ l. p ∷ l) (states_pictures (suc n) leads.0 ps last leads.2)

  pub lead_pictures : (ps : List Picture) (m : Moment) (leads : LeadsTo plan ps m) → map picture_of (lead_printed beside plan ps m leads) ≡ ps
  lead_pictures ps m leads = states_pictures 0 (first_moment names plan.program.main) ps m leads

  pictures_one_more : (xs : List PrintedState) (s : PrintedState) → map picture_of (xs ++ s ∷ []) ≡ map picture_of xs ++ s.picture ∷ []
  pictures_one_more [] s = refl
  pictures_one_more (x ∷ xs) s = ap (λ l. x.picture ∷ l) (pictures_one_more xs s)

  pub run_pictures : (ps : List Picture) (answer : Turn) (end : RunEndsWith plan ps answer) → map picture_of (run_printed beside plan ps answer end) ≡ ps
  run_pictures ps turn.Went end = absurd end
  run_pictures ps (turn.Finished n) end =
      pictures_one_more (lead_printed beside plan end.before end.moment end.leads) (printed_state beside plan.program end.final None)
      ∙ (ap (λ l. l ++ end.final ∷ []) (lead_pictures end.before end.moment end.leads) ∙ sym end.pictures)
  run_pictures ps (turn.Contradictory state clash) end = lead_pictures ps end.0 end.1
  run_pictures ps (turn.Undetermined state cell) end = lead_pictures ps end.0 end.1
  run_pictures ps (turn.StateLimit states) end = lead_pictures ps end.0 end.1
  run_pictures ps (turn.InputMissing state port) end = lead_pictures ps end.0 end.1
  run_pictures ps (turn.Over state limit) end = lead_pictures ps end.0 end.1

  -- the further lines are trace lines
  module _ (program : ProgramIsPrintable plan.program) (inputs : InputsArePrintable plan.inputs) where
    reductions_further : (n : ℕ) → IsTraceLine (reductions_words n)
    reductions_further n = (joined (codes "reductions ") (decimal n) (written_out (codes "reductions ") refl) (decimal_one n), refl)

    residual_further : (next : Moment) → MomentIsPrintable next → IsTraceLine (residual_words (phrase_left plan.program next))
    residual_further next h =
        let phrase = entries_one next.store.variables plan.program.defs h.variables program.definitions next.scene.root.entries h.entries in
        (joined (codes "residual: ") (phrase_left plan.program next) (written_out (codes "residual: ") refl) phrase, refl)

    last_further : (b : Beside) (p : Picture) → All IsTraceLine (further_lines b plan.program p None)
    last_further Nothing p = All-nil IsTraceLine
    last_further TraceLines p = All-cons IsTraceLine (reductions_words p.reductions) [] (reductions_further p.reductions) (All-nil IsTraceLine)

    next_further : (b : Beside) (p : Picture) (next : Moment) → MomentIsPrintable next → All IsTraceLine (further_lines b plan.program p (Some next))
    next_further Nothing p next h = All-nil IsTraceLine
    next_further TraceLines p next h =
        let residual = residual_words (phrase_left plan.program next) in
        All-cons IsTraceLine (reductions_words p.reductions) (residual ∷ []) (reductions_further p.reductions) (All-cons IsTraceLine residual [] (residual_further next h) (All-nil IsTraceLine))

    states_further : (n : ℕ) (m : Moment) (ps : List Picture) (last : Moment) (leads : StatesLead plan n m ps last) → MomentIsPrintable m → All HasTraceLines (states_printed beside plan n m ps last leads)
    states_further n m [] last leads h = All-nil HasTraceLines
    states_further n m (p ∷ ps) last leads h =
        let next = next_printable plan program inputs n m leads.0 p h leads.1 in
        All-cons HasTraceLines (printed_state beside plan.program p (Some leads.0)) (states_printed beside plan (suc n) leads.0 ps last leads.2) (next_further beside p leads.0 next) (states_further (suc n) leads.0 ps last leads.2 next)

    pub lead_further : (ps : List Picture) (m : Moment) (leads : LeadsTo plan ps m) → All HasTraceLines (lead_printed beside plan ps m leads)
    lead_further ps m leads = states_further 0 (first_moment names plan.program.main) ps m leads (begins_printable plan program inputs)

    pub run_further : (ps : List Picture) (answer : Turn) (end : RunEndsWith plan ps answer) → All HasTraceLines (run_printed beside plan ps answer end)
    run_further ps turn.Went end = absurd end
    run_further ps (turn.Finished n) end =
        let final = printed_state beside plan.program end.final None in
        All-append HasTraceLines (lead_printed beside plan end.before end.moment end.leads) (final ∷ []) (lead_further end.before end.moment end.leads) (All-cons HasTraceLines final [] (last_further beside end.final) (All-nil HasTraceLines))
    run_further ps (turn.Contradictory state clash) end = lead_further ps end.0 end.1
    run_further ps (turn.Undetermined state cell) end = lead_further ps end.0 end.1
    run_further ps (turn.StateLimit states) end = lead_further ps end.0 end.1
    run_further ps (turn.InputMissing state port) end = lead_further ps end.0 end.1
    run_further ps (turn.Over state limit) end = lead_further ps end.0 end.1

-- such states are printed as a trace has them, where their pictures can be read
pub all_printed : (names : List (List ℕ)) (states : List PrintedState) → All (IsReadable names) (map picture_of states) → All HasTraceLines states → All (IsPrinted names) states
all_printed names [] h k = All-nil (IsPrinted names)
all_printed names (s ∷ states) h k =
    All-cons (IsPrinted names) s states (record { picture = All-head (IsReadable names) s.picture (map picture_of states) h; further = passed s.further (All-head HasTraceLines s states k) })
    (all_printed names states (All-tail (IsReadable names) s.picture (map picture_of states) h) (All-tail HasTraceLines s states k))
  where
    -- a trace passes over trace lines
    passed : (lines : List (List ℕ)) → All IsTraceLine lines → All IsFurtherLine lines
    passed [] h = All-nil IsFurtherLine
    passed (l ∷ ls) h =
        let one = All-head IsTraceLine l ls h in
        All-cons IsFurtherLine l ls (one.0, or_right (starts_with nat_eq l (codes "show")) (opens_with_one trace_openings l) one.1) (passed ls (All-tail IsTraceLine l ls h))

pub facts_printed : (names : List (List ℕ)) (states : List PrintedState) → map (λ (s : PrintedState). named_facts names s.picture) states ≡ map (named_facts names) (map picture_of states)
facts_printed names [] = refl
facts_printed names (s ∷ states) = ap (λ (l : List (List NamedFact)). named_facts names s.picture ∷ l) (facts_printed names states)
