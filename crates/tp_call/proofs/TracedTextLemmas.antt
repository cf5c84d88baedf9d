-- What the text of a run says to whoever has it alone, where there may be trace lines in it.
use Rattle.std.proofs.Common.{◌≡◌, ◌<◌, ◌^◌, ℕ, List, [], ◌∷◌, ◌++◌, map, All, Option, Some, codes, refl, sym, ap, ◌∙◌, subst, append_assoc, arith}
use Rattle.std.specs.Fmt.{decimal}
use Rattle.std.proofs.lemmas.List.Elements.{All-nil, All-cons, All-head, All-tail}
use Rattle.tp_io.specs.Held.{Held}
use Rattle.tp_show.specs.declared.turn.Picture.{Picture}
use Rattle.tp_show.specs.declared.turn.Turn.{Turn}
use Rattle.tp_show.specs.declared.turn.Turn.TheVariants as turn
use Rattle.tp_show.specs.FactsOf.{AreFactsOf}
use Rattle.tp_show.specs.Line.{ToldState, told_of}
use Rattle.tp_show.specs.Texts.{end_line}
use Rattle.tp_show.specs.Told.{IsToldOf, IsLastTurn, FitsIn64Bits}
use Rattle.tp_show.specs.TraceOfRun.{PrintedState, printed_state_lines, printed_states_text}
use Rattle.tp_show.proofs.ReadBackLemmas.{are_told}
use Rattle.tp_run.specs.History.{Plan, RunEndsWith, ContinuesEach}
use Rattle.tp_call.specs.declared.status.Status.{Status}
use Rattle.tp_call.specs.declared.status.Status.TheVariants.{Finished, Undetermined, StateLimit, ReductionLimit, NumberLimit, ListLimit, CallLimit, NestLimit}
use Rattle.tp_call.specs.Run.{status_of, known_at_end, EndSays}
use Rattle.tp_call.specs.Files.{Wrote}
use Rattle.tp_call.specs.Text.{finished_line, SatisfiedAsTold, ContinuesTold, TracedState, traced_text, IsTraced, IsOneEndLine, ReadsTracedAs, TracedTextTells, FinishedTracedSays, OpenTracedSays}
use Rattle.tp_call.specs.Answer.{RunsTo, Answers}
use Rattle.tp_call.proofs.TurnLemmas.{answer_of, answer_is, open_seen}
use Rattle.tp_call.proofs.FactLemmas.{run_facts}
use Rattle.tp_call.proofs.TextLemmas.{told_all, all_states_of, exactly_told, continues_told, finished_length}
use Rattle.tp_call.proofs.TracedLemmas.{picture_of, HasTraceLines}
use Rattle.tp_call.proofs.TracedOnce.{told_of_traced, traced_once}
use Rattle.tp_call.proofs.TraceLemmas.{ran, last_line, last_one, printed, pictures_are, text_is, have_trace_lines}
use Rattle.tp_call.proofs.EndKinds.{StaysOpen}

-- ---- what is told of printed states

abbrev pub traced_of : PrintedState → TracedState
traced_of s = record { told = told_of s.picture; further = s.further }

traced_told : (states : List PrintedState) → map told_of_traced (map traced_of states) ≡ told_all (map picture_of states)
traced_told [] = refl
traced_told (s ∷ states) = ap (λ l. told_of s.picture ∷ l) (traced_told states)

pub traced_is : (names : List (List ℕ)) (states : List PrintedState) → printed_states_text names states ≡ traced_text names (map traced_of states)
traced_is names [] = refl
traced_is names (s ∷ states) = ap (λ l. printed_state_lines names s ++ l) (traced_is names states)

all_traced : (names : List (List ℕ)) (states : List PrintedState) → All (IsToldOf names) (told_all (map picture_of states)) → All HasTraceLines states → All (IsTraced names) (map traced_of states)
all_traced names [] h k = All-nil (IsTraced names)
all_traced names (s ∷ states) h k =
    let more = told_all (map picture_of states) in
    All-cons (IsTraced names) (traced_of s) (map traced_of states) (record { told = All-head (IsToldOf names) (told_of s.picture) more h; further = All-head HasTraceLines s states k })
    (all_traced names states (All-tail (IsToldOf names) (told_of s.picture) more h) (All-tail HasTraceLines s states k))

-- an answer with a status is a last one
last_turn : (answer : Turn) (status : Status) → status_of answer ≡ Some status → IsLastTurn answer
last_turn turn.Went status e = absurd (cc e)
last_turn _ status e = tt

-- ---- the text of a run

module _ (words : List (List ℕ)) (held : Option Held) (old new : Option (List ℕ)) (files : Held) (told : held ≡ Some files) (status : Status) (text : List ℕ) (run : RunsTo words held status text) where
  abbrev names : List (List ℕ)
  names = run.plan.program.globals

  abbrev own_end : List ℕ
  own_end = last_line words held old new files told status text run

  abbrev states : List PrintedState
  states = printed words held old new files told status text run

  pub facts : All (λ (p : Picture). AreFactsOf names p.facts) run.pictures
  facts = run_facts run.plan run.pictures run.run.answer run.fits run.run.run

  told_are : All (IsToldOf names) (told_all run.pictures)
  told_are = are_told names run.pictures (all_states_of names run.pictures facts run.range)

  is_end : IsOneEndLine names own_end
  is_end = (known_at_end run.run, run.plan.reductions, run.run.answer, last_turn run.run.answer status run.run.status_is, last_one words held old new files told status text run, refl)

  pub own : ReadsTracedAs names text (told_all run.pictures) own_end
  own =
      let pictures = pictures_are words held old new files told status text run in
      record {
        states = map traced_of states;
        are = all_traced names states (subst (λ (ps : List Picture). All (IsToldOf names) (told_all ps)) (sym pictures) told_are) (have_trace_lines words held old new files told status text run);
        told_is = sym (traced_told states ∙ ap told_all pictures);
        last = is_end;
        whole = text_is words held old new files told status text run ∙ ap (λ l. l ++ own_end) (traced_is names states);
      }

  pub tells : Wrote old new text → (Q : Plan → List ToldState → List ℕ → Type 0) → Q run.plan (told_all run.pictures) own_end → TracedTextTells words held old new Q
  tells wrote Q h = record {
    plan = run.plan;
    asked = run.asked;
    text = text;
    appended = wrote;
    told = told_all run.pictures;
    end = own_end;
    reads = own;
    means = λ other end r. let e = traced_once names run.names text (told_all run.pictures) other own_end end own r in subst (λ t. Q run.plan t end) e.0 (subst (λ l. Q run.plan (told_all run.pictures) l) e.1 h);
  }

  tells_open : Wrote old new text → ContinuesEach run.plan run.pictures → TracedTextTells words held old new (λ plan told end. ContinuesTold plan told)
  tells_open wrote h = tells wrote (λ plan told end. ContinuesTold plan told) (continues_told run.plan names run.pictures facts h)

  -- what the end says, by the status
  says : EndSays run.plan run.pictures (answer_of status)
  says = subst (EndSays run.plan run.pictures) (answer_is run.run.answer status run.run.status_is) run.says

module _ (words : List (List ℕ)) (held : Option Held) (old new : Option (List ℕ)) where
  pub finished_traced : (result : Status) → Answers words held old new result → FinishedTracedSays words held old new result
  finished_traced result a = λ files told n is.
      let r = ran words held old new (Finished n) tt (subst (Answers words held old new) is a) in
      let run = r.1 in
      let answer = answer_is run.run.answer (Finished n) run.run.status_is in
      let ends = subst (RunEndsWith run.plan run.pictures) answer run.run.run in
      let within = ends.ends.within in
      let states = run.states in
      let count = ends.count in
      let small : n < 2 ^ 64 = omega (arith, count, within, states) in
      let exactly = (says words held old new files told (Finished n) r.0 run).0 in
      let as_told = exactly_told run.plan run.plan.program.globals run.pictures (facts words held old new files told (Finished n) r.0 run) n exactly in
      let line : last_line words held old new files told (Finished n) r.0 run ≡ finished_line n =
      ap (end_line run.plan.program.globals (known_at_end run.run) run.plan.reductions) answer ∙ append_assoc (codes "finished: length ") (decimal n) (codes "\n") in
      tells words held old new files told (Finished n) r.0 run r.2 (λ plan told end. (m : ℕ) → FitsIn64Bits m → end ≡ finished_line m → SatisfiedAsTold plan told m)
      (λ m fit e. subst (SatisfiedAsTold run.plan (told_all run.pictures)) (finished_length n m small fit (sym line ∙ e)) as_told)

  open_by : (files : Held) → held ≡ Some files → (status : Status) → ((plan : Plan) (printed : List Picture) → EndSays plan printed (answer_of status) → ContinuesEach plan printed) → (text : List ℕ) × RunsTo words held status text × Wrote old new text
      → TracedTextTells words held old new (λ plan told last. ContinuesTold plan told)
  open_by files told status means r = tells_open words held old new files told status r.0 r.1 r.2 (means r.1.plan r.1.pictures (says words held old new files told status r.0 r.1))

  left_open : (result : Status) → Answers words held old new result → (files : Held) → held ≡ Some files → StaysOpen result → TracedTextTells words held old new (λ plan told last. ContinuesTold plan told)
  left_open (Undetermined state cell) a = λ files told o. open_by files told (Undetermined state cell) (λ plan printed h. h) (ran words held old new (Undetermined state cell) tt a)
  left_open (StateLimit states) a = λ files told o. open_by files told (StateLimit states) (λ plan printed h. h) (ran words held old new (StateLimit states) tt a)
  left_open (ReductionLimit state) a = λ files told o. open_by files told (ReductionLimit state) (λ plan printed h. h) (ran words held old new (ReductionLimit state) tt a)
  left_open (NumberLimit state) a = λ files told o. open_by files told (NumberLimit state) (λ plan printed h. h) (ran words held old new (NumberLimit state) tt a)
  left_open (ListLimit state) a = λ files told o. open_by files told (ListLimit state) (λ plan printed h. h) (ran words held old new (ListLimit state) tt a)
  left_open (CallLimit state) a = λ files told o. open_by files told (CallLimit state) (λ plan printed h. h) (ran words held old new (CallLimit state) tt a)
  left_open (NestLimit state) a = λ files told o. open_by files told (NestLimit state) (λ plan printed h. h) (ran words held old new (NestLimit state) tt a)
  left_open result a = λ files told o. absurd o

  pub open_traced : (result : Status) → Answers words held old new result → OpenTracedSays words held old new result
  open_traced result a = λ files told end. left_open result a files told (open_seen result end)
