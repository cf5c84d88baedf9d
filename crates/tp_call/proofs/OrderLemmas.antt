-- Which failure a run names.
use Rattle.std.proofs.Common.{◌≡◌, ℕ, List, length, Option, Some, IfSome, sym, ap, ◌∙◌, subst}
use Rattle.tp_scene.specs.Pick.{Moment}
use Rattle.tp_store.specs.Known.{Contents}
use Rattle.tp_step.specs.declared.tally.Tally.{Tally}
use Rattle.tp_step.specs.declared.order.Order.{Order}
use Rattle.tp_show.specs.declared.turn.Picture.{Picture}
use Rattle.tp_show.specs.declared.turn.Turn.{Turn}
use Rattle.tp_show.specs.declared.turn.Turn.TheVariants as turn
use Rattle.tp_run.specs.History.{Plan, setting, limit_moment, RunEndsWith}
use Rattle.tp_run.specs.Standing.{RunPlace, Standing, open_at, StateBecomes}
use Rattle.tp_run.specs.Ordered.{IsNamedInOrder, waits_in}
use Rattle.tp_run.specs.Same.{FailsIn}
use Rattle.tp_call.specs.declared.run.Ended.{Ended}
use Rattle.tp_call.specs.declared.status.Status.{Status}
use Rattle.tp_call.specs.declared.status.Status.TheVariants.{WriteFault, NoMemory}
use Rattle.tp_call.specs.Progress.{last_answer, AnswerMade, HasWritten, ClosesRun}
use Rattle.tp_call.specs.Parts.{ClosesText}
use Rattle.tp_call.specs.InOrder.{MeetsInOrder, NamesInOrder, StatusInOrder, AreTalliesOfRun}
use Rattle.tp_call.specs.Worked.{LastInOrder}
use Rattle.tp_call.proofs.EndKinds.{EndsRun}
use Rattle.tp_call.proofs.TurnLemmas.{last_is_given, answer_of, answer_is, ends_run}
use Rattle.tp_call.proofs.RunLemmas.{answered_there}
use Rattle.tp_words.specs.declared.beside.Beside.{Beside}

-- what holds of an answer holds of it as the last one
of_last : (P : Turn → Type 0) (answer : Turn) → P answer → IfSome (last_answer answer) P
of_last P turn.Went p = tt
of_last P _ p = p

-- the answer of a state names what this meets in the order, so the last answer does
pub names_last : (plan : Plan) (order : Order) (from : RunPlace) (answer : Turn) (last : Option Turn) → last ≡ last_answer answer
    → ((m : Moment) → from.standing ≡ open_at m → IsNamedInOrder (setting plan from.state) order plan.reductions m answer) → LastInOrder plan order from last
names_last plan order from answer last is named = λ m stands.
    let P : Turn → Type 0 = IsNamedInOrder (setting plan from.state) order plan.reductions m in
    subst (λ l. IfSome l P) (sym is) (of_last P answer (named m stands))

-- the state that fails is the one that was made
fails_there : (plan : Plan) (n : ℕ) (m : Moment) (old new : Picture) (standing : Standing) (store : Contents) (answer : Turn) (state : ℕ)
    → FailsIn state answer → StateBecomes plan n m old new standing store answer → state ≡ n
fails_there plan n m old new standing store turn.Went state fails b = absurd fails
fails_there plan n m old new standing store (turn.Finished length) state fails b = absurd fails
fails_there plan n m old new standing store (turn.Contradictory at clash) state fails b = sym fails ∙ b.1
fails_there plan n m old new standing store (turn.Undetermined at cell) state fails b = absurd fails
fails_there plan n m old new standing store (turn.StateLimit states) state fails b = absurd fails
fails_there plan n m old new standing store (turn.InputMissing at port) state fails b = sym fails ∙ b.1
fails_there plan n m old new standing store (turn.Over at limit) state fails b = sym fails ∙ b.1

-- the last answer of a run in this order, after the states that it settled
pub run_names : (plan : Plan) (own order : Order) (trace : Beside) (from to : RunPlace) (before now after : Option (List ℕ)) (last : Turn) → own ≡ order
    → HasWritten plan trace from before now → AnswerMade plan trace from to now after (Some last) → LastInOrder plan own from (Some last)
    → NamesInOrder plan order last
run_names plan own order trace from to before now after last same h made named = λ state fails.
    let given : made.answer ≡ last = last_is_given made.answer last made.last_is in
    let w = answered_there plan trace from to before now made.answer made.picture h made.turned in
    let there : state ≡ length h.pictures = fails_there plan (length h.pictures) h.next made.turned.earlier made.picture to.standing to.store made.answer state
    (subst (FailsIn state) (sym given) fails) w.0 in
    let here : IsNamedInOrder (setting plan from.state) order plan.reductions h.next last =
    subst (λ o. IsNamedInOrder (setting plan from.state) o plan.reductions h.next last) same (named h.next h.stands) in
    record {
      pictures = h.pictures;
      next = h.next;
      leads = h.leads;
      count = there;
      named = subst (λ n. IsNamedInOrder (setting plan n) order plan.reductions h.next last) (h.count ∙ sym there) here;
    }

-- a run whose states were closed in this order names what the last of them met
pub tried_names : (plan : Plan) (order : Order) (ps : List Picture) (answer : Turn) (run : RunEndsWith plan ps answer) (tallies : List Tally) → AreTalliesOfRun plan order ps answer run tallies → NamesInOrder plan order answer
tried_names plan order ps turn.Went run tallies t = λ state fails. absurd fails
tried_names plan order ps (turn.Finished n) run tallies t = λ state fails. absurd fails
tried_names plan order ps (turn.Contradictory at clash) run tallies t = λ state fails.
    subst (λ n. MeetsInOrder plan order n (turn.Contradictory at clash)) fails
    (record { pictures = ps; next = run.0; leads = run.1; count = run.3; named = (run.2.last, t.own.picks, waits_in t.own, t.own.rests, t.closes.agenda) })
tried_names plan order ps (turn.Undetermined at cell) run tallies t = λ state fails. absurd fails
tried_names plan order ps (turn.StateLimit states) run tallies t = λ state fails. absurd fails
tried_names plan order ps (turn.InputMissing at port) run tallies t = λ state fails.
    subst (λ n. MeetsInOrder plan order n (turn.InputMissing at port)) fails
    (record { pictures = ps; next = run.0; leads = run.1; count = run.3; named = (run.2.last, t.own.picks, waits_in t.own, t.own.rests, t.closes.agenda) })
tried_names plan order ps (turn.Over at kind) run tallies t = λ state fails.
    let last = limit_moment (setting plan at) plan.reductions run.0 kind run.2 in
    subst (λ n. MeetsInOrder plan order n (turn.Over at kind)) fails
    (record { pictures = ps; next = run.0; leads = run.1; count = run.3; named = (last, t.own.picks, waits_in t.own, t.own.rests, t.closes.agenda) })

-- a status that no run ends with is no answer's
pub no_end_in_order : (plan : Plan) (order : Order) (result : Status) → (EndsRun result → ⊥) → StatusInOrder plan order result
no_end_in_order plan order result never = λ answer is. absurd (never (ends_run answer result is))

-- a call that ends as a run does has the status whose text it wrote
pub closes_with : (line : List ℕ) (status : Status) (old new : Option (List ℕ)) (result : Status) → ClosesText line status old new result → EndsRun result → result ≡ status
closes_with line status old new WriteFault c end = absurd end
closes_with line status old new NoMemory c end = absurd end
closes_with line status old new result c end = c.0

-- a run that ended, with its end line
pub closed_in_order : (plan : Plan) (order : Order) (reductions : ℕ) (end : Ended) (old new : Option (List ℕ)) (result : Status) → ClosesRun reductions end old new result
    → NamesInOrder plan order end.turn → StatusInOrder plan order result
closed_in_order plan order reductions end old new result c names = λ answer is.
    let same : result ≡ c.0 = closes_with _ c.0 old new result c.2 (ends_run answer result is) in
    let one : end.turn ≡ answer = answer_is end.turn c.0 c.1 ∙ ap answer_of (sym same) ∙ sym (answer_is answer result is) in
    subst (NamesInOrder plan order) one names
