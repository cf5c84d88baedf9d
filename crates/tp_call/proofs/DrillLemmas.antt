-- The run of a drill, one state more at a time, and what it comes to.
use Rattle.std.proofs.Common.{◌≡◌, ◌≢◌, ◌+◌, ◌<◌, inl, inr, ℕ, suc, true, List, [], ◌∷◌, ◌++◌, length, Option, Some, None, refl, sym, ap, ◌∙◌, subst, arith}
use Rattle.std.proofs.lemmas.List.Sums.{sum_by-append}
use Rattle.tp_gen.specs.Source.{source_text}
use Rattle.tp_kernel.specs.declared.fault.LimitKind.{LimitKind}
use Rattle.tp_kernel.specs.declared.fault.LimitKind.TheVariants as limits
use Rattle.tp_meaning.specs.Fits.{ProgramFits}
use Rattle.tp_meaning.specs.Interval.{ProgramTree}
use Rattle.tp_store.specs.Known.{Contents}
use Rattle.tp_scene.specs.Pick.{Moment}
use Rattle.tp_scene.specs.Beginning.{first_moment}
use Rattle.tp_show.specs.declared.turn.Picture.{Picture}
use Rattle.tp_show.specs.declared.turn.Turn.{Turn}
use Rattle.tp_show.specs.declared.turn.Turn.TheVariants as turn
use Rattle.tp_show.specs.Texts.{end_line}
use Rattle.tp_show.specs.Told.{IsLastTurn}
use Rattle.tp_step.specs.declared.tally.Tally.{Tally}
use Rattle.tp_step.specs.declared.order.Order.{Order}
use Rattle.tp_run.specs.History.{Plan, beginning_of, RunEndsWith, end_store}
use Rattle.tp_run.specs.Standing.{Standing, RunPlace, open_at, AnswersState, StateBecomes}
use Rattle.tp_run.specs.Runs.{store_of}
use Rattle.tp_run.specs.Ordered.{recorded_tries, TriesBeyond}
use Rattle.tp_run.specs.StateTries.{CountsStateTries}
use Rattle.tp_run.proofs.HistoryLemmas.{lead_more, count_more, index_first}
use Rattle.tp_words.specs.declared.mode.Mode.TheVariants.{Run}
use Rattle.tp_call.specs.declared.drill.Totals.{Totals}
use Rattle.tp_call.specs.declared.drill.Drilled.{Drilled}
use Rattle.tp_call.specs.declared.status.Status.{Status}
use Rattle.tp_call.specs.declared.status.Status.TheVariants.{Finished, Done, Contradictory, Undetermined, StateLimit, ReductionLimit, NumberLimit, ListLimit, CallLimit, NestLimit, InputMissing, WriteFault, NoMemory}
use Rattle.tp_call.specs.declared.status.Refused.{Refused}
use Rattle.tp_call.specs.EndLine.{refusal_line}
use Rattle.tp_call.specs.Files.{Wrote}
use Rattle.tp_call.specs.Progress.{last_answer, is_settled, line_of_end}
use Rattle.tp_call.specs.Run.{status_of}
use Rattle.tp_call.specs.Source.{IsRefusedAt}
use Rattle.tp_call.specs.Answer.{refused_status}
use Rattle.tp_call.specs.Parts.{IsReadRefusal, ClosesText}
use Rattle.tp_call.specs.InOrder.{all_tries, RunTried}
use Rattle.tp_call.specs.Worked.{StateTried}
use Rattle.tp_call.specs.Drill.{AsksForDrill, IsAskedToDrill, reductions_in, drill_line, DrillFinished, DrillStopped, DrillRefused, DrillAnswers}
use Rattle.tp_call.specs.Drilled.{CountsState, StateDrilled, AreTotalsOf, HasDrilled, RunDrilled, finished_length, ClosesAtLength, ClosesDrill}
use Rattle.tp_call.proofs.EndKinds.{EndsRun}
use Rattle.tp_call.proofs.TurnLemmas.{goes_with, last_is_given, is_last, ends_run}
use Rattle.tp_call.proofs.HeadlineLemmas.{end_says}
use Rattle.tp_call.proofs.OrderLemmas.{tried_names}
use Rattle.tp_call.proofs.WorkLemmas.{answers_from, HasTried-none, pictures_after, tried_there, number_there, TriedOn, tried_on, tried_last}

-- a run that passes a limit doesn't finish
pub over_never : (state n : ℕ) (kind : LimitKind) → status_of (turn.Over state kind) ≡ Some (Finished n) → ⊥
over_never state n limits.Reductions p = cc (p)
over_never state n limits.Number p = cc (p)
over_never state n limits.List p = cc (p)
over_never state n limits.Calls p = cc (p)
over_never state n limits.Nest p = cc (p)

-- where a state was settled, all of its tries are recorded
pub settled_tries : (old new : ℕ) (tally : Tally) (answer : Turn) → is_settled answer ≡ true → CountsStateTries old new tally answer → new ≡ old + recorded_tries tally
settled_tries old new tally turn.Went settled c = let none = c.beyond in let counted = c.counted in omega (arith, none, counted)
settled_tries old new tally (turn.Finished n) settled c = let none = c.beyond in let counted = c.counted in omega (arith, none, counted)
settled_tries old new tally _ settled c = cc

-- and it was begun within the limit of states
settled_within : (plan : Plan) (n : ℕ) (m : Moment) (old new : Picture) (standing : Standing) (store : Contents) (answer : Turn) → is_settled answer ≡ true → StateBecomes plan n m old new standing store answer → n < plan.states
settled_within plan n m old new standing store turn.Went settled b = b.1.within
settled_within plan n m old new standing store (turn.Finished k) settled b = b.0.within
settled_within plan n m old new standing store _ settled b = cc

-- the state that was made, with what it took
pub state_drilled : (plan : Plan) (order : Order) (from to : RunPlace) (m : Moment) → from.standing ≡ open_at m → (earlier picture : Picture) (answer : Turn) → AnswersState plan from earlier picture to answer → (before after : ℕ) (tally : Tally)
    → StateTried plan order from.state m earlier picture to.standing to.store answer before after → (from.state < plan.states → CountsStateTries before after tally answer)
    → (old new : Totals) → (is_settled answer ≡ true → new.reductions ≡ old.reductions + picture.reductions) → (is_settled answer ≡ true → new.tries ≡ old.tries + recorded_tries tally)
    → (last : Option Turn) → last ≡ last_answer answer → StateDrilled plan order m from to old new before after last
state_drilled plan order from to m stands earlier picture answer made before after tally tried counts old new reductions tries last is =
    let becomes = answers_from plan from to m earlier picture answer stands made in
    record {
      answer = answer;
      last_is = is;
      earlier = earlier;
      picture = picture;
      tried = tried;
      number = becomes.1;
      counts = λ settled. record {
        tries = recorded_tries tally;
        reductions_are = reductions settled;
        tries_are = tries settled;
        rose = settled_tries before after tally answer settled (counts (settled_within plan from.state m earlier picture to.standing to.store answer settled becomes.0));
      };
    }

-- told of another name of the order
pub drilled_in : (plan : Plan) (own order : Order) (m : Moment) (from to : RunPlace) (old new : Totals) (before after : ℕ) (last : Option Turn) → own ≡ order
    → StateDrilled plan own m from to old new before after last → StateDrilled plan order m from to old new before after last
drilled_in plan own order m from to old new before after last same s = subst (λ o. StateDrilled plan o m from to old new before after last) same s

-- no state was settled yet
pub HasDrilled-none : (plan : Plan) (order : Order) (from : RunPlace) (now : ℕ) (totals : Totals) → from.standing ≡ open_at (first_moment plan.program.globals plan.program.main) → from.state ≡ 0 → totals.reductions ≡ 0 → totals.tries ≡ 0
    → HasDrilled plan order from now now totals
HasDrilled-none plan order from now totals stands count reductions tries = record {
  pictures = [];
  next = first_moment plan.program.globals plan.program.main;
  stands = stands;
  count = count;
  leads = refl;
  tried = HasTried-none plan order now;
  totals_are = record { reductions_are = reductions; rose = omega (arith, tries) };
}

-- the totals of one state more
totals_more : (pictures : List Picture) (picture : Picture) (before now after : ℕ) (old new : Totals) → AreTotalsOf pictures before now old → CountsState old new now after picture.reductions → AreTotalsOf (pictures ++ picture ∷ []) before after new
totals_more pictures picture before now after old new are c =
    let sum : reductions_in (pictures ++ picture ∷ []) ≡ reductions_in pictures + reductions_in (picture ∷ []) = sum_by-append (λ (p : Picture). p.reductions) pictures (picture ∷ []) in
    let last : reductions_in (picture ∷ []) ≡ picture.reductions = omega arith in
    let a = are.reductions_are in
    let b = are.rose in
    let d = c.reductions_are in
    let e = c.tries_are in
    let f = c.rose in
    record { reductions_are = omega (arith, sum, last, a, d); rose = omega (arith, b, e, f) }

-- of the states with the one that was made, where it was settled
totals_after : (pictures : List Picture) (picture : Picture) (before now after : ℕ) (old new : Totals) (answer : Turn) → is_settled answer ≡ true → AreTotalsOf pictures before now old → CountsState old new now after picture.reductions
    → AreTotalsOf (pictures_after pictures picture answer) before after new
totals_after pictures picture before now after old new turn.Went settled are c = totals_more pictures picture before now after old new are c
totals_after pictures picture before now after old new (turn.Finished n) settled are c = totals_more pictures picture before now after old new are c
totals_after pictures picture before now after old new _ settled are c = cc

-- a run goes on to the next number, as long as there may be more states
pub record DrillsNext (plan : Plan) (from to : RunPlace) : Type 0 where
  pub within : from.state < plan.states
  pub next : to.state ≡ from.state + 1

-- The run ended with this answer, its states were tried, and its store holds what was known at that end; where it finished, these are the totals of its states.
pub record DrillEnded (plan : Plan) (order : Order) (before after : ℕ) (totals : Totals) (store : Contents) (answer : Turn) : Type 0 where
  pub pictures : List Picture
  pub run : RunEndsWith plan pictures answer
  pub holds : store ≡ end_store plan pictures answer run
  pub tried : RunTried plan order pictures answer run before after
  pub totals_are : (n : ℕ) → answer ≡ turn.Finished n → AreTotalsOf pictures before after totals

module _ (plan : Plan) (order : Order) (from to : RunPlace) (before now after : ℕ) (old new : Totals) (h : HasDrilled plan order from before now old) where
  -- the state that was made goes on
  goes_on : (s : StateDrilled plan order h.next from to old new now after None) → TriedOn plan order to before now after h.pictures h.next h.leads h.tried s.earlier s.picture
  goes_on s =
      let here = tried_there plan order to before now after h.pictures h.next h.leads h.tried from.state h.count s.earlier s.picture s.answer turn.Went s.tried (goes_with s.answer s.last_is) in
      tried_on plan order to before now after h.pictures h.next h.leads h.tried s.earlier s.picture here

  number_next : StateDrilled plan order h.next from to old new now after None → to.state ≡ suc (length h.pictures)
  number_next s = number_there plan order to before now after h.pictures h.next h.leads h.tried from.state h.count s.answer turn.Went s.number (goes_with s.answer s.last_is)

  pub HasDrilled-more : StateDrilled plan order h.next from to old new now after None → HasDrilled plan order to before after new
  HasDrilled-more s =
      let on = goes_on s in
      let w = on.becomes in
      record {
        pictures = h.pictures ++ s.picture ∷ [];
        next = w.0;
        stands = w.2;
        count = count_more h.pictures s.picture to.state (number_next s);
        leads = lead_more plan 0 (beginning_of plan) h.pictures h.next (length h.pictures) s.picture w.0 (index_first h.pictures) h.leads w.1;
        tried = on.tried;
        totals_are = totals_more h.pictures s.picture before now after old new h.totals_are (s.counts (ap is_settled (goes_with s.answer s.last_is)));
      }

  pub drills_next : StateDrilled plan order h.next from to old new now after None → DrillsNext plan from to
  drills_next s =
      let within = (goes_on s).becomes.1.within in
      let next = number_next s in
      record { within = omega (arith, within, h.count); next = omega (arith, next, h.count) }

  -- the last answer ends the run
  pub drill_ends : (last : Turn) → StateDrilled plan order h.next from to old new now after (Some last) → DrillEnded plan order before after new to.store last
  drill_ends last s =
      let given : s.answer ≡ last = last_is_given s.answer last s.last_is in
      let here = tried_there plan order to before now after h.pictures h.next h.leads h.tried from.state h.count s.earlier s.picture s.answer last s.tried given in
      let end = tried_last plan order to before now after h.pictures h.next h.leads h.tried s.earlier s.picture last (is_last s.answer last s.last_is) here in
      record {
        pictures = pictures_after h.pictures s.picture last;
        run = end.run;
        holds = end.holds;
        tried = end.tried;
        totals_are = λ n e.
            let settled : is_settled last ≡ true = ap is_settled e in
            totals_after h.pictures s.picture before now after old new last settled h.totals_are (s.counts (ap is_settled given ∙ settled));
      }

-- no run ends with `Went`
last_turn : (plan : Plan) (pictures : List Picture) (answer : Turn) → RunEndsWith plan pictures answer → IsLastTurn answer
last_turn plan pictures turn.Went e = e
last_turn plan pictures (turn.Finished n) e = tt
last_turn plan pictures (turn.Contradictory state clash) e = tt
last_turn plan pictures (turn.Undetermined state cell) e = tt
last_turn plan pictures (turn.StateLimit states) e = tt
last_turn plan pictures (turn.InputMissing state port) e = tt
last_turn plan pictures (turn.Over state limit) e = tt

pub drilled_last : (plan : Plan) (order : Order) (before after : ℕ) (drilled : Drilled) → RunDrilled plan order before after drilled → IsLastTurn drilled.ended.turn
drilled_last plan order before after drilled r = last_turn plan r.pictures drilled.ended.turn r.run

module _ (words : List (List ℕ)) (size : ℕ) (old new : Option (List ℕ)) (before after : ℕ) where
  -- the line of a drill that finished, or a part of it
  line_closed : (line : List ℕ) (result : Status) → DrillFinished words size before after line → ClosesText line Done old new result → DrillAnswers words size old new before after result
  line_closed line WriteFault f c = (line, (Done, inl (refl, f)), c)
  line_closed line NoMemory f c = c
  line_closed line result f c = subst (DrillAnswers words size old new before after) (sym c.0) (line, inl (refl, f), c.1)

  -- the end line of one that ended otherwise
  stopped_whole : (line : List ℕ) (status : Status) → EndsRun status → DrillStopped words size before after status line → Wrote old new line → DrillAnswers words size old new before after status
  stopped_whole line WriteFault end s w = absurd end
  stopped_whole line NoMemory end s w = absurd end
  stopped_whole line status end s w = (line, inr (inl s), w)

  end_closed : (line : List ℕ) (status result : Status) → EndsRun status → DrillStopped words size before after status line → ClosesText line status old new result → DrillAnswers words size old new before after result
  end_closed line status WriteFault end s c = (line, (status, inr (inl s)), c)
  end_closed line status NoMemory end s c = c
  end_closed line status result end s c = subst (DrillAnswers words size old new before after) (sym c.0) (stopped_whole line status end s c.1)

  -- an answer that isn't of a run that finished has another status
  not_finished : (answer : Turn) (status : Status) → finished_length answer ≡ None → status_of answer ≡ Some status → (n : ℕ) → status ≢ Finished n
  not_finished turn.Went status none is n e = absurd (cc (is))
  not_finished (turn.Finished m) status none is n e = absurd (cc (none))
  not_finished (turn.Contradictory state clash) status none is n e = absurd (cc (is, e))
  not_finished (turn.Undetermined state cell) status none is n e = absurd (cc (is, e))
  not_finished (turn.StateLimit states) status none is n e = absurd (cc (is, e))
  not_finished (turn.InputMissing state port) status none is n e = absurd (cc (is, e))
  not_finished (turn.Over state limit) status none is n e = over_never state n limit (is ∙ ap Some e)

  finishes_with : (answer : Turn) (n : ℕ) → finished_length answer ≡ Some n → answer ≡ turn.Finished n
  finishes_with (turn.Finished m) n e = let same : m ≡ n = cc in ap turn.Finished same
  finishes_with turn.Went n e = absurd (cc (e))
  finishes_with (turn.Contradictory state clash) n e = absurd (cc (e))
  finishes_with (turn.Undetermined state cell) n e = absurd (cc (e))
  finishes_with (turn.StateLimit states) n e = absurd (cc (e))
  finishes_with (turn.InputMissing state port) n e = absurd (cc (e))
  finishes_with (turn.Over state limit) n e = absurd (cc (e))

  module _ (plan : Plan) (asked : IsAskedToDrill words size plan) (fits : ProgramFits plan.program) (order : Order) (same : asked.asks.wanted.order ≡ order) (drilled : Drilled) (r : RunDrilled plan order before after drilled) where
    -- its states were tried in the order that the words ask for
    tried_so : RunTried plan asked.asks.wanted.order r.pictures drilled.ended.turn r.run before after
    tried_so = subst (λ o. RunTried plan o r.pictures drilled.ended.turn r.run before after) (sym same) r.tried

    finished_so : (n : ℕ) → finished_length drilled.ended.turn ≡ Some n → DrillFinished words size before after (drill_line size n drilled.totals.reductions drilled.totals.tries)
    finished_so n e =
        let is : drilled.ended.turn ≡ turn.Finished n = finishes_with drilled.ended.turn n e in
        let run : RunEndsWith plan r.pictures (turn.Finished n) = subst (RunEndsWith plan r.pictures) is r.run in
        let totals = r.totals_are n is in
        let tried = tried_so in
        let none : tried.more ≡ 0 = subst (λ t. TriesBeyond t tried.more) is tried.beyond in
        let rose : after ≡ before + all_tries tried.tallies = omega (arith, tried.counted, none) in
        let tries : drilled.totals.tries ≡ all_tries tried.tallies = omega (arith, totals.rose, rose) in
        record {
          plan = plan;
          pictures = r.pictures;
          asked = asked;
          length = n;
          run = record { answer = drilled.ended.turn; status_is = ap status_of is; run = r.run };
          says = end_says plan r.pictures (turn.Finished n) fits run;
          fits = fits;
          tried = tried;
          tries = all_tries tried.tallies;
          rose = rose;
          written = ap (λ k. drill_line size n k drilled.totals.tries) totals.reductions_are ∙ ap (drill_line size n (reductions_in r.pictures)) tries;
        }

    stopped_so : (status : Status) → status_of drilled.ended.turn ≡ Some status → finished_length drilled.ended.turn ≡ None → DrillStopped words size before after status (line_of_end plan.reductions drilled.ended)
    stopped_so status is none = record {
      plan = plan;
      pictures = r.pictures;
      asked = asked;
      run = record { answer = drilled.ended.turn; status_is = is; run = r.run };
      unfinished = not_finished drilled.ended.turn status none is;
      says = end_says plan r.pictures drilled.ended.turn fits r.run;
      fits = fits;
      tried = tried_so;
      named = tried_names plan asked.asks.wanted.order r.pictures drilled.ended.turn r.run tried_so.tallies tried_so.tried;
      written = ap (λ (p : ProgramTree). end_line p.globals (store_of drilled.ended.run).variables plan.reductions drilled.ended.turn) r.program_is
          ∙ ap (λ (k : Contents). end_line plan.program.globals k.variables plan.reductions drilled.ended.turn) r.store;
    }

    closed_at : (length : Option ℕ) (result : Status) → finished_length drilled.ended.turn ≡ length → ClosesAtLength length size plan.reductions drilled old new result → DrillAnswers words size old new before after result
    closed_at (Some n) result is c = line_closed _ result (finished_so n is) c
    closed_at None result is c = end_closed _ c.0 result (ends_run drilled.ended.turn c.0 c.1) (stopped_so c.0 c.1 is) c.2

    -- what a drill's run came to, and its line or a part of it
    pub drill_closed : (result : Status) → ClosesDrill size plan.reductions drilled old new result → DrillAnswers words size old new before after result
    drill_closed result c = closed_at (finished_length drilled.ended.turn) result refl c

  -- a large source that is refused, and its end line or a part of it
  refused_closed : (asks : AsksForDrill words size) (refused : Refused) → IsRefusedAt Run (source_text size) refused → (result : Status) → ClosesText (refusal_line (refused_status refused)) (refused_status refused) old new result
      → DrillAnswers words size old new before after result
  refused_closed asks refused cause result c = by result c
    where
      line : List ℕ
      line = refusal_line (refused_status refused)

      is : DrillRefused words size (refused_status refused) line
      is = record { asks = asks; refused = refused; status_is = refl; cause = cause; written = refl }

      by : (result : Status) → ClosesText line (refused_status refused) old new result → DrillAnswers words size old new before after result
      by WriteFault c = (line, (refused_status refused, inr (inr is)), c)
      by NoMemory c = c
      by other c = subst (DrillAnswers words size old new before after) (sym c.0) (line, inr (inr is), c.1)

  pub drill_refused : (asks : AsksForDrill words size) (status result : Status) → IsReadRefusal Run (source_text size) status → (status ≡ NoMemory → result ≡ NoMemory) → ClosesText (refusal_line status) status old new result
      → DrillAnswers words size old new before after result
  drill_refused asks status result (inl memory) same c =
      let none : result ≡ NoMemory = same memory in
      subst (DrillAnswers words size old new before after) (sym none) (subst (ClosesText (refusal_line status) status old new) none c)
  drill_refused asks status result (inr (refused, is, cause)) same c = refused_closed asks refused cause result (subst (λ s. ClosesText (refusal_line s) s old new result) is c)
