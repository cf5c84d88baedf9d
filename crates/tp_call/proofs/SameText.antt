-- Runs that are alike have one text.
use Rattle.std.proofs.Common.{◌≡◌, ℕ, suc, List, [], ◌∷◌, ◌++◌, Option, Some, None, refl, ap, sym, ◌∙◌, subst, append-nil}
use Rattle.std.proofs.lemmas.List.{length-map}
use Rattle.std.proofs.lemmas.List.Concat.{flat_map-append}
use Rattle.std.specs.List.{flat_map}
use Rattle.std.specs.Prelude.{codes}
use Rattle.tp_value.specs.Globals.{is_lower}
use Rattle.tp_meaning.specs.Interval.{kinds_of}
use Rattle.tp_store.specs.Known.{Variable}
use Rattle.tp_scene.specs.Pick.{Moment}
use Rattle.tp_show.specs.declared.turn.Picture.{Picture}
use Rattle.tp_show.specs.declared.turn.Turn.{Turn}
use Rattle.tp_show.specs.declared.turn.Turn.TheVariants as turn
use Rattle.tp_show.specs.Line.{line_parts, told_lines, picture_lines}
use Rattle.tp_show.specs.Texts.{state_text, end_line}
use Rattle.tp_residual.specs.Residual.{trace_lines}
use Rattle.tp_residual.proofs.OnePhrase.{alike_moments_have_one_phrase}
use Rattle.tp_run.specs.History.{RunEndsWith, beginning_of, Plan, globals_of, StatesLead}
use Rattle.tp_run.specs.SettledStates.{SettledState, led_states, settled_states}
use Rattle.tp_run.specs.Same.{SamePicture, SameCell, SameEnd, FailsNowhere}
use Rattle.tp_run_laws.specs.AlikeRuns.{SameNext, SameStates}
use Rattle.tp_run_laws.proofs.SameName.{named_cell_text}
use Rattle.tp_call.specs.Run.{written_state, states_text, ended_text}
use Rattle.tp_words.specs.declared.beside.Beside.{Beside}
use Rattle.tp_words.specs.declared.beside.Beside.TheVariants.{Nothing, TraceLines}

module _ (trace : Beside) (plan : Plan) where
  abbrev text_of_state : SettledState → List ℕ
  text_of_state s = written_state trace plan.program s.picture s.next

  led_text : (n : ℕ) (m : Moment) (ps : List Picture) (last : Moment) (leads : StatesLead plan n m ps last)
      → states_text trace plan n m ps last leads ≡ flat_map text_of_state (led_states plan n m ps last leads)
  led_text n m [] last leads = refl
  led_text n m (p ∷ ps) last leads = ap (λ xs. written_state trace plan.program p (Some leads.0) ++ xs) (led_text (suc n) leads.0 ps last leads.2)

  -- the text of a run's states is that of its settled states, one by one
  text_by_states : (ps : List Picture) (turn : Turn) (run : RunEndsWith plan ps turn)
      → ended_text trace plan ps turn run ≡ flat_map text_of_state (settled_states plan ps turn run)
  text_by_states ps turn.Went run = refl
  text_by_states ps (turn.Finished n) run =
      let led = led_states plan 0 (beginning_of plan) run.before run.moment run.leads in
      let last : SettledState = record { picture = run.final; next = None } in
      ap (λ xs. xs ++ text_of_state last) (led_text 0 (beginning_of plan) run.before run.moment run.leads)
      ∙ ap (λ xs. flat_map text_of_state led ++ xs) (sym (append-nil (text_of_state last)))
      ∙ sym (flat_map-append text_of_state led (last ∷ []))
  text_by_states ps (turn.Contradictory state clash) run = led_text 0 (beginning_of plan) ps run.0 run.1
  text_by_states ps (turn.Undetermined state cell) run = led_text 0 (beginning_of plan) ps run.0 run.1
  text_by_states ps (turn.StateLimit states) run = led_text 0 (beginning_of plan) ps run.0 run.1
  text_by_states ps (turn.InputMissing state port) run = led_text 0 (beginning_of plan) ps run.0 run.1
  text_by_states ps (turn.Over state kind) run = led_text 0 (beginning_of plan) ps run.0 run.1

-- the text of one state
picture_same : (names : List (List ℕ)) (p q : Picture) → SamePicture p q → picture_lines names q ≡ picture_lines names p
picture_same names p q h = λ j. told_lines names (record { state = h.state j; parts = line_parts (h.facts j); shows = h.shows j })

state_same : (trace : Beside) (plan : Plan) (p q : Picture) (m n : Option Moment) → SamePicture p q → SameNext plan m n
    → written_state trace plan.program q n ≡ written_state trace plan.program p m
state_same Nothing plan p q m n h k = picture_same plan.program.globals p q h
state_same TraceLines plan p q None None h k = λ j. picture_same plan.program.globals p q h j ++ trace_lines (h.reductions j) None
state_same TraceLines plan p q None (Some n) h k = absurd k
state_same TraceLines plan p q (Some m) None h k = absurd k
state_same TraceLines plan p q (Some m) (Some n) h k =
    λ j. picture_same plan.program.globals p q h j
    ++ trace_lines (h.reductions j) (Some (alike_moments_have_one_phrase plan.program.defs (kinds_of plan.program.globals) m n k.0 k.1 j))

states_same : (trace : Beside) (plan : Plan) (ss ts : List SettledState) → SameStates plan ss ts
    → flat_map (text_of_state trace plan) ts ≡ flat_map (text_of_state trace plan) ss
states_same trace plan [] [] h = refl
states_same trace plan [] (t ∷ ts) h = absurd h
states_same trace plan (s ∷ ss) [] h = absurd h
states_same trace plan (s ∷ ss) (t ∷ ts) h = λ j. state_same trace plan s.picture t.picture s.next t.next h.0.0 h.0.1 j
    ++ states_same trace plan ss ts h.1 j

-- The text of the states of runs whose states are the same.
pub one_text : (trace : Beside) (plan : Plan) (ps : List Picture) (answer : Turn) (run : RunEndsWith plan ps answer) (qs : List Picture) (other : Turn)
    (another : RunEndsWith plan qs other)
    → SameStates plan (settled_states plan ps answer run) (settled_states plan qs other another)
    → ended_text trace plan qs other another ≡ ended_text trace plan ps answer run
one_text trace plan ps answer run qs other another h =
    text_by_states trace plan qs other another ∙ states_same trace plan (settled_states plan ps answer run) (settled_states plan qs other another) h
    ∙ sym (text_by_states trace plan ps answer run)

-- The end line of ends that aren't failures.
pub one_end_line : (plan : Plan) (xs ys : List Variable) (reductions : ℕ) (answer other : Turn) → FailsNowhere answer
    → SameEnd (globals_of plan) xs ys answer other
    → end_line plan.program.globals ys reductions other ≡ end_line plan.program.globals xs reductions answer
one_end_line plan xs ys reductions turn.Went other safe same = absurd safe
one_end_line plan xs ys reductions (turn.Finished n) other safe same = ap (end_line plan.program.globals ys reductions) same
one_end_line plan xs ys reductions (turn.Contradictory state clash) other safe same = absurd safe
one_end_line plan xs ys reductions (turn.Undetermined state cell) other safe same =
    let named = subst (λ (k : ℕ). SameCell k xs ys cell same.0) (length-map plan.program.globals is_lower) same.2 in
    ap (end_line plan.program.globals ys reductions) same.1
    ∙ ap (λ text. (state_text (codes "undetermined") state ++ codes ": " ++ text) ++ codes "\n")
    (named_cell_text plan.program.globals xs ys cell same.0 named)
one_end_line plan xs ys reductions (turn.StateLimit states) other safe same = ap (end_line plan.program.globals ys reductions) same
one_end_line plan xs ys reductions (turn.InputMissing state port) other safe same = absurd safe
one_end_line plan xs ys reductions (turn.Over state kind) other safe same = absurd safe
