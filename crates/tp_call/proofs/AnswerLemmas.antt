-- The parts of a call, put together: what it answers, and what it has written.
use Rattle.std.proofs.Common.{◌≡◌, ◌+◌, ◌<◌, ◌^◌, inl, inr, ℕ, List, [], ◌∷◌, ◌++◌, length, take, true, All, Option, Some, None, Ok, Err, IsTrue, refl, sym, ap, ◌∙◌, subst}
use Rattle.std.proofs.Math.Seq.{take-append-add}
use Rattle.std.proofs.lemmas.List.{append-nil}
use Rattle.tp_io.specs.Held.{Held}
use Rattle.tp_meaning.specs.Fits.{ProgramFits}
use Rattle.tp_io.specs.declared.refusal.WriteRefusal.TheVariants as sink
use Rattle.tp_show.specs.declared.turn.Picture.{Picture}
use Rattle.tp_show.specs.declared.turn.Turn.{Turn}
use Rattle.tp_show.specs.declared.turn.Turn.TheVariants as turn
use Rattle.tp_scene.specs.Beginning.{first_moment}
use Rattle.tp_run.specs.Runs.{program_of, store_of}
use Rattle.tp_run.specs.History.{RunEndsWith, end_store, Plan}
use Rattle.tp_run.proofs.HistoryLemmas.{index_first}
use Rattle.tp_store.specs.Known.{Contents}
use Rattle.std.proofs.lemmas.List.Elements.{All-push}
use Rattle.tp_call.specs.declared.run.Ended.{Ended}
use Rattle.tp_call.specs.declared.status.Status.{Status}
use Rattle.tp_call.specs.declared.status.Status.TheVariants.{Done, ReadFault, WriteFault, NoMemory}
use Rattle.tp_call.specs.declared.status.Which.{Which}
use Rattle.tp_show.specs.Texts.{end_line}
use Rattle.tp_show.specs.Told.{AreNames, IsPictureInRange, IsLastTurn}
use Rattle.tp_call.specs.EndLine.{refusal_line, verdict_line}
use Rattle.tp_call.specs.Run.{written_state, lead_text, ended_text, settled_text, status_of, RunEnds, Settles}
use Rattle.tp_call.specs.Progress.{next_moment, Turned, is_settled, printed_lines, PartMade, HasWritten, ProgramMade, ClosesRun}
use Rattle.tp_call.specs.Files.{Wrote}
use Rattle.tp_meaning.specs.Interval.{ProgramTree}
use Rattle.tp_run.specs.Standing.{RunPlace}
use Rattle.tp_tree.specs.Tree.{SourceTree}
use Rattle.tp_tree.specs.Spelling.{source_spelling}
use Rattle.tp_meaning.specs.Inputs.{InputTable}
use Rattle.tp_inputs.specs.Table.{IsInputsText}
use Rattle.tp_inputs.specs.Converted.{converted}
use Rattle.tp_verdict.specs.Verdict.{Verdict}
use Rattle.tp_call.specs.Source.{IsReadFromSpelling}
use Rattle.tp_call.specs.Answer.{IsAskedFor, IsAskedToPrint, IsAskedToConvert, IsJudged, Spells, Converts, Judges, Refuses, RunsTo, run_text, CallEnds, Answers}
use Rattle.tp_call.specs.Parts.{IsProgramRefusal, ClosesText}
use Rattle.tp_call.proofs.TurnLemmas.{last_is_given, is_last, ends_run}
use Rattle.tp_call.proofs.HeadlineLemmas.{end_says}
use Rattle.tp_call.proofs.RunLemmas.{Wrote-both, Wrote-nothing, text_more, next_there, no_next, answered_there, advances}
use Rattle.tp_words.specs.declared.beside.Beside.{Beside}

-- a part of what is written second, after all of what is written first
pub Wrote-part : (old mid new : Option (List ℕ)) (a b : List ℕ) (kept : ℕ) → Wrote old mid a → Wrote mid new (take kept b) → Wrote old new (take (length a + kept) (a ++ b))
Wrote-part old mid new a b kept p q = subst (Wrote old new) (sym (take-append-add a b kept)) (Wrote-both old mid new a (take kept b) p q)

-- The program's run ended with this answer, its states were written, and its store holds what was known at that end.
pub record HasEnded (plan : Plan) (beside : Beside) (before after : Option (List ℕ)) (answer : Turn) (store : Contents) : Type 0 where
  pub pictures : List Picture
  pub run : RunEndsWith plan pictures answer
  pub holds : store ≡ end_store plan pictures answer run
  pub wrote : Wrote before after (ended_text beside plan pictures answer run)
  pub range : All IsPictureInRange pictures

-- a state that isn't settled ends the run: nothing more is written
stopped_by : (plan : Plan) (beside : Beside) (from to : RunPlace) (before now after : Option (List ℕ)) (answer : Turn) → (h : HasWritten plan beside from before now) → Wrote now after []
    → (end : RunEndsWith plan h.pictures answer) → ended_text beside plan h.pictures answer end ≡ lead_text beside plan h.pictures h.next h.leads → to.store ≡ end_store plan h.pictures answer end → HasEnded plan beside before after answer to.store
stopped_by plan beside from to before now after answer h wrote end same holds =
    let text = lead_text beside plan h.pictures h.next h.leads in
    let whole = subst (Wrote before after) (append-nil text) (Wrote-both before now after text [] h.wrote wrote) in
    record { pictures = h.pictures; run = end; holds = holds; wrote = subst (Wrote before after) (sym same) whole; range = h.range }

-- the last state, which nothing comes after
finished_by : (plan : Plan) (beside : Beside) (from to : RunPlace) (before now after : Option (List ℕ)) (n : ℕ) (picture : Picture) → (h : HasWritten plan beside from before now) → (t : Turned plan from to (turn.Finished n) picture)
    → Wrote now after (written_state beside plan.program picture (next_moment to)) → IsPictureInRange picture → HasEnded plan beside before after (turn.Finished n) to.store
finished_by plan beside from to before now after n picture h t wrote range =
    let w = answered_there plan beside from to before now (turn.Finished n) picture h t in
    let end = advances plan beside from to before now (turn.Finished n) picture h t in
    let none : next_moment to ≡ None = no_next to (turn.Finished n) w.0.0.last w.0.2 in
    record {
      pictures = h.pictures ++ picture ∷ [];
      run = end.0;
      holds = end.2.1;
      wrote = Wrote-both before now after _ _ h.wrote (subst (λ m. Wrote now after (written_state beside plan.program picture m)) none wrote);
      range = All-push IsPictureInRange h.pictures picture h.range range;
    }

-- an answer with which the run ends, and what it has written
ended_by : (plan : Plan) (beside : Beside) (from to : RunPlace) (before now after : Option (List ℕ)) (answer : Turn) (picture : Picture) → IsLastTurn answer → HasWritten plan beside from before now → Turned plan from to answer picture
    → Wrote now after (printed_lines beside plan.program answer picture (next_moment to)) → (is_settled answer ≡ true → IsPictureInRange picture) → HasEnded plan beside before after answer to.store
ended_by plan beside from to before now after turn.Went picture l h t wrote range = absurd l
ended_by plan beside from to before now after (turn.Finished n) picture l h t wrote range = finished_by plan beside from to before now after n picture h t wrote (range refl)
ended_by plan beside from to before now after (turn.Contradictory state clash) picture l h t wrote range =
    let end = advances plan beside from to before now (turn.Contradictory state clash) picture h t in stopped_by plan beside from to before now after (turn.Contradictory state clash) h wrote end.0 refl end.2.1
ended_by plan beside from to before now after (turn.Undetermined state cell) picture l h t wrote range =
    let end = advances plan beside from to before now (turn.Undetermined state cell) picture h t in stopped_by plan beside from to before now after (turn.Undetermined state cell) h wrote end.0 refl end.2.1
ended_by plan beside from to before now after (turn.StateLimit states) picture l h t wrote range =
    let end = advances plan beside from to before now (turn.StateLimit states) picture h t in stopped_by plan beside from to before now after (turn.StateLimit states) h wrote end.0 refl end.2.1
ended_by plan beside from to before now after (turn.InputMissing state port) picture l h t wrote range =
    let end = advances plan beside from to before now (turn.InputMissing state port) picture h t in stopped_by plan beside from to before now after (turn.InputMissing state port) h wrote end.0 refl end.2.1
ended_by plan beside from to before now after (turn.Over state limit) picture l h t wrote range =
    let end = advances plan beside from to before now (turn.Over state limit) picture h t in stopped_by plan beside from to before now after (turn.Over state limit) h wrote end.0 refl end.2.1

-- The last state of these was settled, whether the run goes on or not; and this is the text of them.
settles_with : (plan : Plan) (beside : Beside) (from to : RunPlace) (before now : Option (List ℕ)) (answer : Turn) (picture : Picture) → (h : HasWritten plan beside from before now) → Turned plan from to answer picture
    → IsTrue (is_settled answer)
    → (run : Settles plan (h.pictures ++ picture ∷ [])) × (settled_text beside plan (h.pictures ++ picture ∷ []) run ≡ lead_text beside plan h.pictures h.next h.leads ++ written_state beside plan.program picture (next_moment to))
settles_with plan beside from to before now turn.Went picture h t settled =
    let w = answered_there plan beside from to before now turn.Went picture h t in
    let a = advances plan beside from to before now turn.Went picture h t in
    let next = w.0.0 in
    let there : next_moment to ≡ Some next = next_there to (length h.pictures) next w.0.2 w.1 w.0.3 in
    let text = text_more beside plan 0 (first_moment plan.program.globals plan.program.main) h.pictures h.next (length h.pictures) picture next (index_first h.pictures) h.leads w.0.1 in
    let before_it = lead_text beside plan h.pictures h.next h.leads in
    (inl (a.0, a.2), text ∙ ap (λ m. before_it ++ written_state beside plan.program picture m) (sym there))
settles_with plan beside from to before now (turn.Finished n) picture h t settled =
    let w = answered_there plan beside from to before now (turn.Finished n) picture h t in
    let none : next_moment to ≡ None = no_next to (turn.Finished n) w.0.0.last w.0.2 in
    let before_it = lead_text beside plan h.pictures h.next h.leads in (
      inr (n, record { answer = turn.Finished n; status_is = refl; run = (advances plan beside from to before now (turn.Finished n) picture h t).0 }),
      ap (λ m. before_it ++ written_state beside plan.program picture m) (sym none),
    )
settles_with plan beside from to before now (turn.Contradictory state clash) picture h t settled = cc
settles_with plan beside from to before now _ picture h t settled = cc

pub ended : (plan : Plan) (beside : Beside) (before after : Option (List ℕ)) (end : Ended) → ProgramMade plan beside before after (Ok end) → HasEnded plan beside before after end.turn (store_of end.run) × (program_of end.run ≡ plan.program) × IsLastTurn end.turn
ended plan beside before after end (inl none) = let bad : Ok end ≡ Err sink.NoMemory = none.0 in cc
ended plan beside before after end (inr made) =
    let stop = made.stopped in
    let last = is_last stop.answer end.turn stop.last_is in
    let given = last_is_given stop.answer end.turn stop.last_is in
    let whole = ended_by plan beside made.from made.to before made.middle after stop.answer stop.picture (subst IsLastTurn (sym given) last) made.settled stop.turned stop.wrote stop.range in (
      subst (HasEnded plan beside before after end.turn) (sym made.ended.store) (subst (λ t. HasEnded plan beside before after t made.to.store) given whole),
      made.ended.program_is,
      last,
    )

-- what an end settled, and the text of that
settles_by : (plan : Plan) (beside : Beside) (pictures : List Picture) (answer : Turn) → (end : RunEndsWith plan pictures answer) → (run : Settles plan pictures) × (settled_text beside plan pictures run ≡ ended_text beside plan pictures answer end)
settles_by plan beside pictures turn.Went e = absurd e
settles_by plan beside pictures (turn.Finished n) e = (inr (n, record { answer = turn.Finished n; status_is = refl; run = e }), refl)
settles_by plan beside pictures (turn.Contradictory state clash) e = (inl (e.0, e.1), refl)
settles_by plan beside pictures (turn.Undetermined state cell) e = (inl (e.0, e.1), refl)
settles_by plan beside pictures (turn.StateLimit states) e = (inl (e.0, e.1), refl)
settles_by plan beside pictures (turn.InputMissing state port) e = (inl (e.0, e.1), refl)
settles_by plan beside pictures (turn.Over state limit) e = (inl (e.0, e.1), refl)

module _ (words : List (List ℕ)) (held : Option Held) (plan : Plan) (fits : ProgramFits plan.program) (names : AreNames plan.program.globals) (states : plan.states < 2 ^ 64) (asked : IsAskedFor words held plan) (beside : Beside) (traced : asked.wanted.beside ≡ beside) (old : Option (List ℕ)) where
  settled_as : {pictures : List Picture} (run : Settles plan pictures) (text : List ℕ) → text ≡ settled_text beside plan pictures run → text ≡ settled_text asked.wanted.beside plan pictures run
  settled_as {pictures} run text e = e ∙ ap (λ t. settled_text t plan pictures run) (sym traced)

  -- the run ended so, and has this status
  abbrev ends_so : (mid : Option (List ℕ)) (answer : Turn) (store : Contents) (status : Status) → (e : HasEnded plan beside old mid answer store) → status_of answer ≡ Some status → RunEnds plan e.pictures status
  ends_so mid answer store status e is = record { answer = answer; status_is = is; run = e.run }

  runs_to : (mid : Option (List ℕ)) (answer : Turn) (store : Contents) (status : Status) → (e : HasEnded plan beside old mid answer store) → (is : status_of answer ≡ Some status) → RunsTo words held status (run_text beside (ends_so mid answer store status e is))
  runs_to mid answer store status e is =
      record { plan = plan; pictures = e.pictures; asked = asked; run = ends_so mid answer store status e is; says = end_says plan e.pictures answer fits e.run; written = ap (λ t. run_text t (ends_so mid answer store status e is)) (sym traced); fits = fits; names = names; states = states; range = e.range }

  -- the line with which it ends
  abbrev last_line : Turn → Contents → List ℕ
  last_line answer store = end_line plan.program.globals store.variables plan.reductions answer

  line_is : (mid : Option (List ℕ)) (answer : Turn) (store : Contents) (status : Status) → (e : HasEnded plan beside old mid answer store) → (is : status_of answer ≡ Some status)
      → ended_text beside plan e.pictures answer e.run ++ last_line answer store ≡ run_text beside (ends_so mid answer store status e is)
  line_is mid answer store status e is = ap (λ (k : Contents). ended_text beside plan e.pictures answer e.run ++ last_line answer k) e.holds

  closed_whole : (mid new : Option (List ℕ)) (answer : Turn) (store : Contents) (status result : Status) → (e : HasEnded plan beside old mid answer store) → status_of answer ≡ Some status → result ≡ status → Wrote mid new (last_line answer store)
      → (text : List ℕ) × CallEnds words held result text × Wrote old new text
  closed_whole mid new answer store status result e has is wrote =
      let text = run_text beside (ends_so mid answer store status e has) in (
        text,
        inl (subst (λ r. RunsTo words held r text) (sym is) (runs_to mid answer store status e has)),
        subst (Wrote old new) (line_is mid answer store status e has) (Wrote-both old mid new _ _ e.wrote wrote),
      )

  -- a run that ended, and its end line or a part of it
  closed_by : (mid new : Option (List ℕ)) (answer : Turn) (store : Contents) (status result : Status) → (e : HasEnded plan beside old mid answer store) → status_of answer ≡ Some status → ClosesText (last_line answer store) status mid new result
      → Answers words held old new result
  closed_by mid new answer store status WriteFault e has c =
      let text = run_text beside (ends_so mid answer store status e has) in
      let whole = ended_text beside plan e.pictures answer e.run ++ last_line answer store in
      let count = length (ended_text beside plan e.pictures answer e.run) + c.0 in (
        text,
        inr (status, inl (runs_to mid answer store status e has)),
        (count, subst (λ t. Wrote old new (take count t)) (line_is mid answer store status e has) (Wrote-part old mid new _ _ c.0 e.wrote c.1)),
      )
  closed_by mid new answer store status NoMemory e has c = (
    ended_text beside plan e.pictures answer e.run,
    inr (record { plan = plan; pictures = e.pictures; asked = asked; run = (settles_by plan beside e.pictures answer e.run).0; fits = fits; written = settled_as (settles_by plan beside e.pictures answer e.run).0 _ (sym (settles_by plan beside e.pictures answer e.run).1) }),
    rw c e.wrote,
  )
  closed_by mid new answer store status result e has c = closed_whole mid new answer store status result e has c.0 c.1

  -- with the names of the globals that the run has
  pub closed : (mid new : Option (List ℕ)) (end : Ended) (result : Status) → HasEnded plan beside old mid end.turn (store_of end.run) × (program_of end.run ≡ plan.program) × IsLastTurn end.turn → ClosesRun plan.reductions end mid new result
      → Answers words held old new result
  closed mid new end result e c =
      let named : (program_of end.run).globals ≡ plan.program.globals = ap (λ (p : ProgramTree). p.globals) e.1 in
      closed_by mid new end.turn (store_of end.run) c.0 result e.0 c.1
      (subst (λ gs. ClosesText (end_line gs (store_of end.run).variables plan.reductions end.turn) c.0 mid new result) named c.2)

  -- a write of a state that failed
  part_written : (from to : RunPlace) (now new : Option (List ℕ)) → HasWritten plan beside from old now → PartMade plan beside from to now new → Answers words held old new WriteFault
  part_written from to now new h part =
      let before_it = lead_text beside plan h.pictures h.next h.leads in
      let state = written_state beside plan.program part.picture (next_moment to) in
      let settles = settles_with plan beside from to old now part.answer part.picture h part.turned part.settled in (
        before_it ++ state,
        inl (inr (record { plan = plan; pictures = h.pictures ++ part.picture ∷ []; asked = asked; run = settles.0; fits = fits; written = settled_as settles.0 _ (sym settles.1) })),
        (length before_it + part.kept, Wrote-part old now new _ _ part.kept h.wrote part.wrote),
      )

  pub write_failed : (new : Option (List ℕ)) → ProgramMade plan beside old new (Err sink.Failed) → Answers words held old new WriteFault
  write_failed new (inl none) = let bad : sink.Failed ≡ sink.NoMemory = cc (none.0) in cc
  write_failed new (inr made) = part_written made.from made.to made.middle new made.settled made.stopped

  pub memory_wanted : (new : Option (List ℕ)) → ProgramMade plan beside old new (Err sink.NoMemory) → Answers words held old new NoMemory
  memory_wanted new (inl none) = ([], inl refl, rw none.1 (Wrote-nothing old))
  memory_wanted new (inr made) = (
    lead_text beside plan made.settled.pictures made.settled.next made.settled.leads,
    inr (record {
      plan = plan;
      pictures = made.settled.pictures;
      asked = asked;
      run = inl (made.settled.next, made.settled.leads);
      fits = fits;
      written = settled_as (inl (made.settled.next, made.settled.leads)) _ refl;
    }),
    rw made.stopped made.settled.wrote,
  )

-- a refusal, and its end line or a part of it
module _ (words : List (List ℕ)) (held : Option Held) (old new : Option (List ℕ)) (status : Status) where
  refused_whole : (result : Status) → Refuses words held status → result ≡ status → Wrote old new (refusal_line status) → (text : List ℕ) × CallEnds words held result text × Wrote old new text
  refused_whole result r is wrote = (refusal_line status, inr (inr (inr (inr (subst (Refuses words held) (sym is) r, ap refusal_line (sym is))))), wrote)

  pub refused : (result : Status) → IsProgramRefusal words held status → (status ≡ NoMemory → result ≡ NoMemory) → ClosesText (refusal_line status) status old new result → Answers words held old new result
  refused NoMemory r memory c = ([], inl refl, rw c (Wrote-nothing old))
  refused WriteFault (inl none) memory c = let bad : WriteFault ≡ NoMemory = memory none in cc
  refused WriteFault (inr r) memory c = (refusal_line status, inr (status, inr (inr (inr (inr (r, refl))))), c)
  refused result (inl none) memory c = let bad : result ≡ NoMemory = memory none in cc
  refused result (inr r) memory c = refused_whole result r c.0 c.1

-- a source that is printed, and its spelling or a part of it
module _ (words : List (List ℕ)) (held : Option Held) (tree : SourceTree) (asked : IsAskedToPrint words held tree) (back : IsReadFromSpelling tree) (old new : Option (List ℕ)) where
  spells : (status : Status) → status ≡ Done → Spells words held status (source_spelling tree)
  spells status is = record { tree = tree; asked = asked; status_is = is; written = refl; read_back = back }

  spelled_whole : (result : Status) → result ≡ Done → Wrote old new (source_spelling tree) → (text : List ℕ) × CallEnds words held result text × Wrote old new text
  spelled_whole result is wrote = (source_spelling tree, inr (inl (spells result is)), wrote)

  pub spelled : (result : Status) → ClosesText (source_spelling tree) Done old new result → Answers words held old new result
  spelled WriteFault c = (source_spelling tree, inr (Done, inr (inl (spells Done refl))), c)
  spelled NoMemory c = ([], inl refl, rw c (Wrote-nothing old))
  spelled result c = spelled_whole result c.0 c.1

-- inputs that are converted, and their text or a part of it
module _ (words : List (List ℕ)) (held : Option Held) (table : InputTable) (asked : IsAskedToConvert words held table) (back : IsInputsText (converted table) table) (old new : Option (List ℕ)) where
  converts : (status : Status) → status ≡ Done → Converts words held status (converted table)
  converts status is = record { table = table; asked = asked; status_is = is; written = refl; read_back = back }

  converted_whole : (result : Status) → result ≡ Done → Wrote old new (converted table) → (text : List ℕ) × CallEnds words held result text × Wrote old new text
  converted_whole result is wrote = (converted table, inr (inr (inl (converts result is))), wrote)

  pub table_written : (result : Status) → ClosesText (converted table) Done old new result → Answers words held old new result
  table_written WriteFault c = (converted table, inr (Done, inr (inr (inl (converts Done refl)))), c)
  table_written NoMemory c = ([], inl refl, rw c (Wrote-nothing old))
  table_written result c = converted_whole result c.0 c.1

-- a verdict, and its line or a part of it
module _ (words : List (List ℕ)) (held : Option Held) (verdict : Verdict) (is_judged : IsJudged words held verdict) (old new : Option (List ℕ)) where
  judges : (status : Status) → status ≡ Done → Judges words held status (verdict_line verdict)
  judges status is = record { verdict = verdict; judged = is_judged; status_is = is; written = refl }

  judged_whole : (result : Status) → result ≡ Done → Wrote old new (verdict_line verdict) → (text : List ℕ) × CallEnds words held result text × Wrote old new text
  judged_whole result is wrote = (verdict_line verdict, inr (inr (inr (inl (judges result is)))), wrote)

  pub verdict_written : (result : Status) → ClosesText (verdict_line verdict) Done old new result → Answers words held old new result
  verdict_written WriteFault c = (verdict_line verdict, inr (Done, inr (inr (inr (inl (judges Done refl))))), c)
  verdict_written NoMemory c = ([], inl refl, rw c (Wrote-nothing old))
  verdict_written result c = judged_whole result c.0 c.1

-- an end line is written of no failed read, unless the status is that
pub closes_no_fault : (text : List ℕ) (status : Status) (old new : Option (List ℕ)) (result : Status) → ClosesText text status old new result → (which : Which) → result ≡ ReadFault which → status ≡ ReadFault which
closes_no_fault text status old new result c which e = sym (subst (ClosesText text status old new) e c).0

-- and a run doesn't end so
pub run_no_fault : (reductions : ℕ) (end : Ended) (old new : Option (List ℕ)) (result : Status) → ClosesRun reductions end old new result → (which : Which) → result ≡ ReadFault which → ⊥
run_no_fault reductions end old new result c which e = ends_run end.turn (ReadFault which) (c.1 ∙ ap Some (closes_no_fault _ c.0 old new result c.2 which e))
