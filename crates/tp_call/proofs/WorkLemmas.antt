-- What a run tried, state by state.
use Rattle.std.proofs.Common.{◌≡◌, ◌+◌, ◌≤◌, ◌<◌, inl, inr, ℕ, true, suc, List, [], ◌∷◌, ◌++◌, length, Option, Some, None, refl, ap, sym, ◌∙◌, subst, arith, if◌then◌else◌}
use Rattle.std.proofs.Math.Path.{path_j, subst_refl}
use Rattle.std.proofs.Math.Nat.{eq-or-lt_of_le}
use Rattle.std.proofs.lemmas.List.{append-nil}
use Rattle.std.proofs.lemmas.List.Sums.{sum_by_push}
use Rattle.tp_io.specs.Held.{Held}
use Rattle.tp_kernel.specs.declared.fault.LimitKind.{LimitKind}
use Rattle.tp_store.specs.Known.{Contents}
use Rattle.tp_scene.specs.declared.answer.Cell.{Cell}
use Rattle.tp_scene.specs.declared.answer.Clash.{Clash}
use Rattle.tp_scene.specs.Pick.{Moment}
use Rattle.tp_scene.specs.Beginning.{first_moment}
use Rattle.tp_scene.specs.Replay as replay
use Rattle.tp_step.specs.declared.tally.Tally.{Tally}
use Rattle.tp_step.specs.declared.order.Order.{Order}
use Rattle.tp_step.specs.declared.ending.Ending.{Ending}
use Rattle.tp_step.specs.declared.ending.Ending.TheVariants as ending
use Rattle.tp_meaning.specs.Interval.{ProgramTree}
use Rattle.tp_show.specs.declared.turn.Picture.{Picture}
use Rattle.tp_show.specs.declared.turn.Turn.{Turn}
use Rattle.tp_show.specs.declared.turn.Turn.TheVariants as turn
use Rattle.tp_show.specs.Texts.{end_line}
use Rattle.tp_show.specs.Told.{IsPictureInRange, IsLastTurn}
use Rattle.tp_run.specs.History.{Plan, setting, StateGoesOn, StatesLead, LeadsTo, ReachesLimit, limit_moment, limit_picks, beginning_of, RunEndsWith, end_store}
use Rattle.tp_run.specs.Runs.{program_of, store_of}
use Rattle.tp_run.specs.Standing.{RunPlace, Standing, open_at, AnswersState, StateBecomes, state_after}
use Rattle.tp_run.specs.Ordered.{recorded_tries, ClosesThriftily}
use Rattle.tp_run.specs.StateTries.{IsTallyOf, CountsStateTries, BeginsNoState}
use Rattle.tp_run.proofs.HistoryLemmas.{goes_there, lead_more, index_there, index_next, index_first}
use Rattle.tp_call.specs.declared.run.Ended.{Ended}
use Rattle.tp_call.specs.declared.run.Task.{Task}
use Rattle.tp_call.specs.declared.status.Status.{Status}
use Rattle.tp_call.specs.declared.status.Status.TheVariants.{WriteFault, NoMemory}
use Rattle.tp_call.specs.Progress.{last_answer, next_moment, is_settled, printed_lines, ClosesRun}
use Rattle.tp_call.specs.Run.{RunEnds, written_state, lead_text, ended_text, IsEndOfRun}
use Rattle.tp_call.specs.Task.{plan_of, IsTaskFor}
use Rattle.tp_call.specs.Answer.{run_text}
use Rattle.tp_call.specs.Parts.{ClosesText}
use Rattle.tp_call.specs.InOrder.{AreTalliesOf, AreTalliesTo, AreTalliesOfRun, all_tries, RunTried, WorksThriftily}
use Rattle.tp_call.specs.Worked.{HasTried, StateTried, StateWorked, HasWorked, WorkEnded}
use Rattle.tp_call.specs.Files.{Wrote}
use Rattle.tp_call.proofs.EndKinds.{EndsRun}
use Rattle.tp_call.proofs.TurnLemmas.{last_is_given, is_last, goes_with, end_seen}
use Rattle.tp_call.proofs.RunLemmas.{Wrote-both, HasWritten-none, written_more, no_next}
use Rattle.tp_call.proofs.OrderLemmas.{closes_with}
use Rattle.tp_words.specs.declared.beside.Beside.{Beside}

-- what holds of a value holds of it told of another name
kept_along : {A : Type 0} (P : A → Type 0) (Q : (x : A) → P x → Type 0) {x y : A} (e : x ≡ y) (u : P x) → Q x u → Q y (subst P e u)
kept_along P Q {x} e u q = path_j (λ y e. Q y (subst P e u)) (subst (Q x) (sym (subst_refl P u)) q) e

module _ (plan : Plan) (order : Order) where
  -- a state that goes on was closed so
  abbrev pub Closed : (n : ℕ) (r : Moment) (p : Picture) (next : Moment) → Tally → StateGoesOn plan n r p next → Type 0
  Closed n r p next t g = ClosesThriftily (setting plan n) order plan.reductions r g.last g.picks ending.Rest t

  closed_there : (n k : ℕ) (r m : Moment) (p : Picture) (next : Moment) (e : k ≡ n) (h : m ≡ r) (g : StateGoesOn plan k m p next) (t : Tally) → Closed k m p next t g → Closed n r p next t (goes_there plan n k r m p next e h g)
  closed_there n k r m p next e h g t c =
      let here = kept_along (λ z. StateGoesOn plan k z p next) (λ z. Closed k z p next t) h g c in
      kept_along (λ i. StateGoesOn plan i r p next) (λ i. Closed i r p next t) e (subst (λ (z : Moment). StateGoesOn plan k z p next) h g) here

  -- one more state, with its tally
  pub tallies_more : (n : ℕ) (r : Moment) (ps : List Picture) (m : Moment) (k : ℕ) (p : Picture) (next : Moment) (e : k ≡ length ps + n) (h : StatesLead plan n r ps m) (g : StateGoesOn plan k m p next) (ts : List Tally) (t : Tally)
      → AreTalliesOf plan order n r ps m h ts → Closed k m p next t g → AreTalliesOf plan order n r (ps ++ p ∷ []) next (lead_more plan n r ps m k p next e h g) (ts ++ t ∷ [])
  tallies_more n r [] m k p next e h g [] t led c = (closed_there n k r m p next (index_there k n e) h g t c, refl)
  tallies_more n r [] m k p next e h g (x ∷ ts) t led c = absurd (cc)
  tallies_more n r (q ∷ ps) m k p next e h g [] t led c = absurd led
  tallies_more n r (q ∷ ps) m k p next e h g (x ∷ ts) t led c = (led.0, tallies_more (suc n) h.0 ps m k p next (index_next k (length ps) n e) h.2 g ts t led.1 c)

-- what a call answers where the run stands before this moment
pub answers_from : (plan : Plan) (from to : RunPlace) (m : Moment) (earlier picture : Picture) (answer : Turn) → from.standing ≡ open_at m → AnswersState plan from earlier picture to answer
    → StateBecomes plan from.state m earlier picture to.standing to.store answer × (to.state ≡ state_after from.state answer)
answers_from plan from to m earlier picture answer stands a =
    let place : RunPlace = record { standing = open_at m; state = from.state; store = from.store } in
    let there : RunPlace → Type 0 = λ p. AnswersState plan p earlier picture to answer in
    let make : Standing → RunPlace = λ z. record { standing = z; state = from.state; store = from.store } in
    let same : from ≡ place = ap make stands in
    let answers : there place = subst there same a in
    answers

-- where the run stands before this moment, its state is begun and tried, or there is none left
module _ (plan : Plan) (order : Order) (from to : RunPlace) (m : Moment) (stands : from.standing ≡ open_at m) (earlier picture : Picture) (answer : Turn) (answers : AnswersState plan from earlier picture to answer) (old new : ℕ) where
  abbrev Tries : Type 0
  Tries = StateTried plan order from.state m earlier picture to.standing to.store answer old new

  pub state_tried : (tally : Tally) → from.state ≤ plan.states → (from.state < plan.states → IsTallyOf plan order from.state m earlier picture to.standing to.store answer tally) → (from.state < plan.states → CountsStateTries old new tally answer)
      → (BeginsNoState plan from.state from.standing → new ≡ old) → Tries
  state_tried tally within tried counts none =
      elim (eq-or-lt_of_le within) [
        | inl e ↦ (let most : plan.states ≤ from.state = omega (arith, e) in inr ((answers_from plan from to m earlier picture answer stands answers).0, most, none (subst (BeginsNoState plan from.state) (sym stands) most)))
        | inr l ↦ inl (tally, tried l, counts l)
      ]

  pub state_worked : Tries → (beside : Beside) (before after : Option (List ℕ)) (program : ProgramTree) (last : Option Turn) → program ≡ plan.program → last ≡ last_answer answer
      → Wrote before after (printed_lines beside program answer picture (next_moment to)) → (is_settled answer ≡ true → IsPictureInRange picture) → StateWorked plan beside order m from to before after old new last
  state_worked tried beside before after program last own is wrote range = record {
    answer = answer;
    last_is = is;
    earlier = earlier;
    picture = picture;
    tried = tried;
    number = (answers_from plan from to m earlier picture answer stands answers).1;
    wrote = subst (λ p. Wrote before after (printed_lines beside p answer picture (next_moment to))) own wrote;
    range = range;
  }

-- told of another name of the order
pub worked_in : (plan : Plan) (beside : Beside) (own order : Order) (m : Moment) (from to : RunPlace) (before after : Option (List ℕ)) (old new : ℕ) (last : Option Turn) → own ≡ order
    → StateWorked plan beside own m from to before after old new last → StateWorked plan beside order m from to before after old new last
worked_in plan beside own order m from to before after old new last same w = subst (λ o. StateWorked plan beside o m from to before after old new last) same w

-- no state was tried yet
pub HasTried-none : (plan : Plan) (order : Order) (k : ℕ) → HasTried plan order [] (beginning_of plan) refl k k
HasTried-none plan order k = record { tallies = []; tried = refl; counted = omega arith }

pub HasWorked-none : (plan : Plan) (beside : Beside) (order : Order) (from : RunPlace) (now : Option (List ℕ)) (k : ℕ) → from.standing ≡ open_at (first_moment plan.program.globals plan.program.main) → from.state ≡ 0
    → HasWorked plan beside order from now now k k
HasWorked-none plan beside order from now k stands count = record { written = HasWritten-none plan beside from now stands count; tried = HasTried-none plan order k }

-- the tries of one state more
counts_more : (old mid new more : ℕ) (ts : List Tally) (t : Tally) → mid ≡ old + all_tries ts → new ≡ mid + (recorded_tries t + more) → new ≡ old + (all_tries (ts ++ t ∷ []) + more)
counts_more old mid new more ts t h g =
    let one : all_tries (ts ++ t ∷ []) ≡ all_tries ts + recorded_tries t = sum_by_push recorded_tries ts t in
    omega (arith, h, g, one)

-- the settled states with the one that was made, where it was settled
abbrev pub pictures_after : List Picture → Picture → Turn → List Picture
pictures_after ps picture answer = if is_settled answer then ps ++ picture ∷ [] else ps

-- the state after some that were settled and tried
module _ (plan : Plan) (order : Order) (to : RunPlace) (old mid new : ℕ) (ps : List Picture) (m : Moment) (leads : LeadsTo plan ps m) (h : HasTried plan order ps m leads old mid) where
  abbrev Tried : (earlier picture : Picture) → Turn → Type 0
  Tried earlier picture answer = StateTried plan order (length ps) m earlier picture to.standing to.store answer mid new

  -- the state that was made is that one
  pub tried_there : (n : ℕ) → n ≡ length ps → (earlier picture : Picture) (answer given : Turn) → StateTried plan order n m earlier picture to.standing to.store answer mid new → answer ≡ given → Tried earlier picture given
  tried_there n count earlier picture answer given t e =
      let here = subst (λ i. StateTried plan order i m earlier picture to.standing to.store answer mid new) count t in
      subst (Tried earlier picture) e here

  pub number_there : (n : ℕ) → n ≡ length ps → (answer given : Turn) → to.state ≡ state_after n answer → answer ≡ given → to.state ≡ state_after (length ps) given
  number_there n count answer given number e = number ∙ ap (λ i. state_after i answer) count ∙ ap (state_after (length ps)) e

  -- It goes on, and was tried, too.
  pub record TriedOn (earlier picture : Picture) : Type 0 where
    pub becomes : StateBecomes plan (length ps) m earlier picture to.standing to.store turn.Went
    pub tried : HasTried plan order (ps ++ picture ∷ []) becomes.0 (lead_more plan 0 (beginning_of plan) ps m (length ps) picture becomes.0 (index_first ps) leads becomes.1) old new

  pub tried_on : (earlier picture : Picture) → Tried earlier picture turn.Went → TriedOn earlier picture
  tried_on earlier picture (inl t) =
      let w = t.1.becomes in
      let closed = subst (λ (x : Ending). ClosesThriftily (setting plan (length ps)) order plan.reductions m w.1.last w.1.picks x t.0) t.1.ends t.1.closes in
      let rose : new ≡ old + (all_tries (h.tallies ++ t.0 ∷ []) + t.2.more) = counts_more old mid new t.2.more h.tallies t.0 h.counted t.2.counted in
      record {
        becomes = w;
        tried = record {
          tallies = h.tallies ++ t.0 ∷ [];
          tried = tallies_more plan order 0 (beginning_of plan) ps m (length ps) picture w.0 (index_first ps) leads w.1 h.tallies t.0 h.tried closed;
          counted = omega (arith, rose, t.2.beyond);
        };
      }
  tried_on earlier picture (inr t) = let within = t.0.1.within in absurd (omega (arith, within, t.1))

  -- The run ended with this answer, its states were tried, and its store holds what was known at that end; its text is that of the states before, and what is written of this one.
  pub record TriedLast (picture : Picture) (answer : Turn) : Type 0 where
    pub run : RunEndsWith plan (pictures_after ps picture answer) answer
    pub holds : to.store ≡ end_store plan (pictures_after ps picture answer) answer run
    pub tried : RunTried plan order (pictures_after ps picture answer) answer run old new
    pub text_is : (beside : Beside) → ended_text beside plan (pictures_after ps picture answer) answer run ≡ lead_text beside plan ps m leads ++ printed_lines beside plan.program answer picture (next_moment to)

  -- nothing is written of one that isn't settled
  text_before : (beside : Beside) → lead_text beside plan ps m leads ≡ lead_text beside plan ps m leads ++ []
  text_before beside = sym (append-nil (lead_text beside plan ps m leads))

  -- a tally more, of the state with which the run ends
  module _ (t : Tally) (n : ℕ) (last : Moment) (picks : List ℕ) (end : Ending) (closes : ClosesThriftily (setting plan n) order plan.reductions m last picks end t) where
    tallies_to : AreTalliesTo plan order ps m leads n last picks end (h.tallies ++ t ∷ [])
    tallies_to = record { earlier = h.tallies; own = t; tallies_are = refl; led = h.tried; closes = closes }

  run_tried : (answer : Turn) (pictures : List Picture) (run : RunEndsWith plan pictures answer) (t : Tally) → AreTalliesOfRun plan order pictures answer run (h.tallies ++ t ∷ []) → CountsStateTries mid new t answer
      → RunTried plan order pictures answer run old new
  run_tried answer pictures run t tried counts =
      record { tallies = h.tallies ++ t ∷ []; tried = tried; more = counts.more; beyond = counts.beyond; counted = counts_more old mid new counts.more h.tallies t h.counted counts.counted }

  -- the last state, which nothing comes after
  finishes : (earlier picture : Picture) (k : ℕ) → Tried earlier picture (turn.Finished k) → TriedLast picture (turn.Finished k)
  finishes earlier picture k (inl t) =
      let w = t.1.becomes in
      let closed = subst (λ (x : Ending). ClosesThriftily (setting plan (length ps)) order plan.reductions m w.0.last w.0.picks x t.0) t.1.ends t.1.closes in
      let run : RunEndsWith plan (ps ++ picture ∷ []) (turn.Finished k) = record { before = ps; final = picture; moment = m; pictures = refl; leads = leads; ends = w.0; count = w.1 } in
      let none : next_moment to ≡ None = no_next to (turn.Finished k) w.0.last w.2 in
      record {
        run = run;
        holds = w.3;
        tried = run_tried (turn.Finished k) (ps ++ picture ∷ []) run t.0 (tallies_to t.0 (length ps) w.0.last w.0.picks ending.Rest closed) t.2;
        text_is = λ beside. ap (λ z. lead_text beside plan ps m leads ++ written_state beside plan.program picture z) (sym none);
      }
  finishes earlier picture k (inr t) = let within = t.0.0.within in absurd (omega (arith, within, t.1))

  -- a state stops the run, which this says of the states with any number, and what it says of this one
  pub record StopsAt (Stops : ℕ → Type 0) (last : (i : ℕ) → Stops i → Moment) (picks : (i : ℕ) → Stops i → List ℕ) (end : Ending) (t : Tally) (state : ℕ) : Type 0 where
    pub there : Stops state
    pub number : state ≡ length ps
    pub within : state < plan.states
    pub holds : to.store ≡ (last state there).store
    pub closes : ClosesThriftily (setting plan state) order plan.reductions m (last state there) (picks state there) end t

  stops_at : (Stops : ℕ → Type 0) (last : (i : ℕ) → Stops i → Moment) (picks : (i : ℕ) → Stops i → List ℕ) (end : Ending) (t : Tally) (state : ℕ) → state ≡ length ps → (stop : Stops (length ps)) → length ps < plan.states → to.store ≡ (last (length ps) stop).store
      → (found : Ending) → found ≡ end → ClosesThriftily (setting plan (length ps)) order plan.reductions m (last (length ps) stop) (picks (length ps) stop) found t → StopsAt Stops last picks end t state
  stops_at Stops last picks end t state e stop within holds found is closes =
      let closed = subst (λ (x : Ending). ClosesThriftily (setting plan (length ps)) order plan.reductions m (last (length ps) stop) (picks (length ps) stop) x t) is closes in
      let here : StopsAt Stops last picks end t (length ps) = record { there = stop; number = refl; within = within; holds = holds; closes = closed } in
      subst (StopsAt Stops last picks end t) (sym e) here

  -- a run that ends so
  ends_so : (picture : Picture) (answer : Turn) (t : Tally) → CountsStateTries mid new t answer → (run : RunEndsWith plan (pictures_after ps picture answer) answer) → to.store ≡ end_store plan (pictures_after ps picture answer) answer run
      → AreTalliesOfRun plan order (pictures_after ps picture answer) answer run (h.tallies ++ t ∷ [])
      → ((beside : Beside) → ended_text beside plan (pictures_after ps picture answer) answer run ≡ lead_text beside plan ps m leads ++ printed_lines beside plan.program answer picture (next_moment to)) → TriedLast picture answer
  ends_so picture answer t counts run holds tallies text =
      record { run = run; holds = holds; tried = run_tried answer (pictures_after ps picture answer) run t tallies counts; text_is = text }

  -- the state after the last one that there may be isn't begun
  none_begun : (earlier picture : Picture) (states : ℕ) → Tried earlier picture (turn.StateLimit states) → TriedLast picture (turn.StateLimit states)
  none_begun earlier picture states (inl t) = absurd t.1.ends
  none_begun earlier picture states (inr t) =
      let w = t.0 in
      let run : RunEndsWith plan ps (turn.StateLimit states) = (m, leads, w.1, w.1 ∙ w.0) in
      record {
        run = run;
        holds = w.4;
        tried = record { tallies = h.tallies; tried = h.tried; more = 0; beyond = refl; counted = omega (arith, h.counted, t.2) };
        text_is = text_before;
      }

  pub tried_last : (earlier picture : Picture) (last : Turn) → IsLastTurn last → Tried earlier picture last → TriedLast picture last
  tried_last earlier picture turn.Went ends t = absurd ends
  tried_last earlier picture (turn.Finished k) ends t = finishes earlier picture k t
  tried_last earlier picture (turn.StateLimit states) ends t = none_begun earlier picture states t
  tried_last earlier picture (turn.Contradictory state clash) ends (inl t) =
      let s = stops_at (λ i. replay.MeetsClash (setting plan i) plan.reductions m clash) (λ i g. g.last) (λ i g. g.picks) (ending.Clash clash) t.0 state t.1.becomes.1 t.1.becomes.0 t.1.becomes.2 t.1.becomes.5 _ t.1.ends t.1.closes in
      ends_so picture (turn.Contradictory state clash) t.0 t.2 (m, leads, s.there, s.number, s.within) s.holds (tallies_to t.0 state s.there.last s.there.picks (ending.Clash clash) s.closes) text_before
  tried_last earlier picture (turn.Undetermined state cell) ends (inl t) =
      let s = stops_at (λ i. replay.IsOpen (setting plan i) plan.reductions m cell) (λ i g. g.last) (λ i g. g.picks) ending.Rest t.0 state t.1.becomes.1 t.1.becomes.0 t.1.becomes.2 t.1.becomes.5 _ t.1.ends t.1.closes in
      ends_so picture (turn.Undetermined state cell) t.0 t.2 (m, leads, s.there, s.number, s.within) s.holds (tallies_to t.0 state s.there.last s.there.picks ending.Rest s.closes) text_before
  tried_last earlier picture (turn.InputMissing state port) ends (inl t) =
      let s = stops_at (λ i. replay.MissesInput (setting plan i) plan.reductions m port) (λ i g. g.last) (λ i g. g.picks) (ending.Missing port) t.0 state t.1.becomes.1 t.1.becomes.0 t.1.becomes.2 t.1.becomes.5 _ t.1.ends t.1.closes in
      ends_so picture (turn.InputMissing state port) t.0 t.2 (m, leads, s.there, s.number, s.within) s.holds (tallies_to t.0 state s.there.last s.there.picks (ending.Missing port) s.closes) text_before
  tried_last earlier picture (turn.Over state kind) ends (inl t) =
      let last : (i : ℕ) → ReachesLimit (setting plan i) plan.reductions m kind → Moment = λ i g. limit_moment (setting plan i) plan.reductions m kind g in
      let picks : (i : ℕ) → ReachesLimit (setting plan i) plan.reductions m kind → List ℕ = λ i g. limit_picks (setting plan i) plan.reductions m kind g in
      let s = stops_at (λ i. ReachesLimit (setting plan i) plan.reductions m kind) last picks (ending.Over kind) t.0 state t.1.becomes.1 t.1.becomes.0 t.1.becomes.2 t.1.becomes.5 _ t.1.ends t.1.closes in
      ends_so picture (turn.Over state kind) t.0 t.2 (m, leads, s.there, s.number, s.within) s.holds (tallies_to t.0 state (last state s.there) (picks state s.there) (ending.Over kind) s.closes) text_before
  tried_last earlier picture _ ends (inr t) = absurd (omega (arith, t.0.2, t.1))

-- the run's states were written, too
module _ (plan : Plan) (beside : Beside) (order : Order) (from to : RunPlace) (before now after : Option (List ℕ)) (old mid new : ℕ) (h : HasWorked plan beside order from before now old mid) where
  abbrev ps : List Picture
  ps = h.written.pictures

  abbrev m : Moment
  m = h.written.next

  pub HasWorked-more : StateWorked plan beside order m from to now after mid new None → HasWorked plan beside order to before after old new
  HasWorked-more w =
      let leads = h.written.leads in
      let went : w.answer ≡ turn.Went = goes_with w.answer w.last_is in
      let here = tried_there plan order to old mid new ps m leads h.tried from.state h.written.count w.earlier w.picture w.answer turn.Went w.tried went in
      let on = tried_on plan order to old mid new ps m leads h.tried w.earlier w.picture here in
      let number = number_there plan order to old mid new ps m leads h.tried from.state h.written.count w.answer turn.Went w.number went in
      let wrote : Wrote now after (written_state beside plan.program w.picture (next_moment to)) = subst (λ t. Wrote now after (printed_lines beside plan.program t w.picture (next_moment to))) went w.wrote in
      record { written = written_more plan beside from to before now after w.earlier w.picture h.written on.becomes number wrote (w.range (ap is_settled went)); tried = on.tried }

  pub work_ended : (ended : Ended) → program_of ended.run ≡ plan.program → store_of ended.run ≡ to.store → StateWorked plan beside order m from to now after mid new (Some ended.turn)
      → WorkEnded plan beside order before after old new ended
  work_ended ended program store w =
      let leads = h.written.leads in
      let given : w.answer ≡ ended.turn = last_is_given w.answer ended.turn w.last_is in
      let ends = is_last w.answer ended.turn w.last_is in
      let here = tried_there plan order to old mid new ps m leads h.tried from.state h.written.count w.earlier w.picture w.answer ended.turn w.tried given in
      let end = tried_last plan order to old mid new ps m leads h.tried w.earlier w.picture ended.turn ends here in
      let wrote = subst (λ t. Wrote now after (printed_lines beside plan.program t w.picture (next_moment to))) given w.wrote in
      let whole = Wrote-both before now after _ _ h.written.wrote wrote in
      record {
        pictures = pictures_after ps w.picture ended.turn;
        run = end.run;
        program_is = program;
        store_is = store ∙ end.holds;
        wrote = subst (Wrote before after) (sym (end.text_is beside)) whole;
        tried = end.tried;
      }

-- a call that ends as a run does has written its line
closes_wrote : (line : List ℕ) (status : Status) (old new : Option (List ℕ)) (result : Status) → ClosesText line status old new result → EndsRun result → Wrote old new line
closes_wrote line status old new WriteFault c end = absurd end
closes_wrote line status old new NoMemory c end = absurd end
closes_wrote line status old new result c end = c.1

-- the task of these words was run, and its end line written
pub task_works : (words : List (List ℕ)) (held : Option Held) (task : Task) (old new : ℕ) (before mid after : Option (List ℕ)) (ended : Ended) (result : Status) → IsTaskFor words held task
    → WorkEnded (plan_of task) task.beside task.order before mid old new ended → ClosesRun task.limits.reductions ended mid after result → IsEndOfRun result → WorksThriftily words held before after result old new
task_works words held task old new before mid after ended result is w c end =
    let plan : Plan = plan_of task in
    let asked = is.asked_for in
    let beside : asked.wanted.beside ≡ task.beside = is.beside asked.wanted asked.accepted in
    let order : asked.wanted.order ≡ task.order = is.order asked.wanted asked.accepted in
    let same : result ≡ c.0 = closes_with _ c.0 mid after result c.2 (end_seen result end) in
    let run : RunEnds plan w.pictures result = record { answer = ended.turn; status_is = c.1 ∙ ap Some (sym same); run = w.run } in
    let line : ProgramTree → Contents → List ℕ = λ p k. end_line p.globals k.variables task.limits.reductions ended.turn in
    let wrote = closes_wrote (line (program_of ended.run) (store_of ended.run)) c.0 mid after result c.2 (end_seen result end) in
    let named = subst (λ p. Wrote mid after (line p (store_of ended.run))) w.program_is wrote in
    let known = subst (λ k. Wrote mid after (line plan.program k)) w.store_is named in
    let text = Wrote-both before mid after _ _ w.wrote known in
    record {
      plan = plan;
      pictures = w.pictures;
      asked = asked;
      run = run;
      appended = subst (λ t. Wrote before after (run_text t run)) (sym beside) text;
      tried = subst (λ (o : Order). RunTried plan o w.pictures ended.turn w.run old new) (sym order) w.tried;
    }
