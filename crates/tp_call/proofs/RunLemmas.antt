-- A run's states, one more at a time.
use Rattle.std.proofs.Common.{◌≡◌, ◌+◌, ◌<◌, ℕ, suc, List, [], ◌∷◌, ◌++◌, length, Option, Some, None, refl, ap, sym, ◌∙◌, subst, append_assoc, arith}
use Rattle.std.proofs.lemmas.List.{append-nil}
use Rattle.std.proofs.lemmas.List.Elements.{All-nil, All-push}
use Rattle.tp_scene.specs.Pick.{Moment}
use Rattle.tp_scene.specs.Beginning.{first_moment}
use Rattle.tp_show.specs.declared.turn.Picture.{Picture}
use Rattle.tp_show.specs.declared.turn.Turn.{Turn}
use Rattle.tp_show.specs.declared.turn.Turn.TheVariants as turn
use Rattle.tp_show.specs.Told.{IsPictureInRange}
use Rattle.tp_run.specs.History.{Plan, StateGoesOn, StatesLead}
use Rattle.tp_run.specs.Standing.{Standing, open_at, answered, RunPlace, AnswersState, StateBecomes, state_after}
use Rattle.tp_run.specs.Advances.{Advances}
use Rattle.tp_run.proofs.HistoryLemmas.{lead_more, advance_by, count_more, index_next, index_first}
use Rattle.tp_call.specs.Run.{written_state, states_text, lead_text}
use Rattle.tp_call.specs.Progress.{moment_with, next_moment, Turned, HasWritten}
use Rattle.tp_call.specs.Files.{Wrote}
use Rattle.tp_call.proofs.TurnLemmas.{carries_next, carries_nothing}
use Rattle.tp_words.specs.declared.beside.Beside.{Beside}

-- two writes, one after the other
pub Wrote-both : (old mid new : Option (List ℕ)) (a b : List ℕ) → Wrote old mid a → Wrote mid new b → Wrote old new (a ++ b)
Wrote-both None mid new a b p q = rw p at q
Wrote-both (Some x) mid new a b p q = (rw p at q) ∙ ap Some (append_assoc x a b)

-- nothing was written
pub Wrote-nothing : (old : Option (List ℕ)) → Wrote old old []
Wrote-nothing None = refl
Wrote-nothing (Some x) = ap Some (sym (append-nil x))

-- the text of one state more
pub text_more : (beside : Beside) (plan : Plan) (n : ℕ) (r : Moment) (ps : List Picture) (m : Moment) (k : ℕ) (p : Picture) (next : Moment) (e : k ≡ length ps + n) (h : StatesLead plan n r ps m) (g : StateGoesOn plan k m p next)
    → states_text beside plan n r (ps ++ p ∷ []) next (lead_more plan n r ps m k p next e h g) ≡ states_text beside plan n r ps m h ++ written_state beside plan.program p (Some next)
text_more beside plan n r [] m k p next e h g = append-nil (written_state beside plan.program p (Some next))
text_more beside plan n r (q ∷ ps) m k p next e h g =
    let first = written_state beside plan.program q (Some h.0) in
    let more = states_text beside plan (suc n) h.0 ps m h.2 in
    let last = written_state beside plan.program p (Some next) in
    ap (λ l. first ++ l) (text_more beside plan (suc n) h.0 ps m k p next (index_next k (length ps) n e) h.2 g) ∙ sym (append_assoc first more last)

-- what the next state begins with, where the run goes on
pub next_there : (to : RunPlace) (n : ℕ) (m : Moment) → to.standing ≡ open_at m → to.state ≡ suc n → to.store ≡ m.store → next_moment to ≡ Some m
next_there to n m stands state store =
    ap (λ z. moment_with to.store z) (carries_next to n m stands state) ∙ ap (λ z. moment_with z (Some m.scene)) store

-- after its last answer there is none
pub no_next : (to : RunPlace) (turn : Turn) (m : Moment) → to.standing ≡ answered turn m → next_moment to ≡ None
no_next to turn m stands = ap (λ z. moment_with to.store z) (carries_nothing to turn m stands)

-- what a call answers where the run stands before the state after some that it settled
pub answered_there : (plan : Plan) (beside : Beside) (from to : RunPlace) (before now : Option (List ℕ)) (answer : Turn) (picture : Picture) → (h : HasWritten plan beside from before now) → (t : Turned plan from to answer picture)
    → StateBecomes plan (length h.pictures) h.next t.earlier picture to.standing to.store answer × (to.state ≡ state_after (length h.pictures) answer)
answered_there plan beside from to before now answer picture h t =
    let place : RunPlace = record { standing = open_at h.next; state = length h.pictures; store = from.store } in
    let there : RunPlace → Type 0 = λ p. AnswersState plan p t.earlier picture to answer in
    let make : Standing → ℕ → RunPlace = λ z n. record { standing = z; state = n; store = from.store } in
    let same : from ≡ place = ap (λ z. make z from.state) h.stands ∙ ap (make (open_at h.next)) h.count in
    let answers : there place = subst there same t.answers in
    answers

-- such an answer adds a settled state or is the run's end
abbrev pub advances : (plan : Plan) (beside : Beside) (from to : RunPlace) (before now : Option (List ℕ)) (answer : Turn) (picture : Picture) → (h : HasWritten plan beside from before now) → (t : Turned plan from to answer picture)
    → Advances plan h.pictures t.earlier picture to answer
advances plan beside from to before now answer picture h t =
    let w = answered_there plan beside from to before now answer picture h t in
    advance_by plan h.pictures h.next h.leads t.earlier picture to answer w.0 w.1

-- no state was settled yet
abbrev pub HasWritten-none : (plan : Plan) (beside : Beside) (from : RunPlace) (now : Option (List ℕ)) → from.standing ≡ open_at (first_moment plan.program.globals plan.program.main) → from.state ≡ 0 → HasWritten plan beside from now now
HasWritten-none plan beside from now stands count =
    record { pictures = []; next = first_moment plan.program.globals plan.program.main; stands = stands; count = count; leads = refl; wrote = Wrote-nothing now; range = All-nil IsPictureInRange }

-- a state that goes on adds its text
module _ (plan : Plan) (beside : Beside) (from to : RunPlace) (before now after : Option (List ℕ)) (earlier picture : Picture) (h : HasWritten plan beside from before now)
    (w : StateBecomes plan (length h.pictures) h.next earlier picture to.standing to.store turn.Went) (number : to.state ≡ suc (length h.pictures))
    (wrote : Wrote now after (written_state beside plan.program picture (next_moment to))) where
  abbrev leads_more : StatesLead plan 0 (first_moment plan.program.globals plan.program.main) (h.pictures ++ picture ∷ []) w.0
  leads_more = lead_more plan 0 (first_moment plan.program.globals plan.program.main) h.pictures h.next (length h.pictures) picture w.0 (index_first h.pictures) h.leads w.1

  pub more_written : Wrote before after (lead_text beside plan (h.pictures ++ picture ∷ []) w.0 leads_more)
  more_written =
      let there : next_moment to ≡ Some w.0 = next_there to (length h.pictures) w.0 w.2 number w.3 in
      let text = text_more beside plan 0 (first_moment plan.program.globals plan.program.main) h.pictures h.next (length h.pictures) picture w.0 (index_first h.pictures) h.leads w.1 in
      let both = Wrote-both before now after _ _ h.wrote (subst (λ m. Wrote now after (written_state beside plan.program picture m)) there wrote) in
      subst (Wrote before after) (sym text) both

  abbrev pub written_more : IsPictureInRange picture → HasWritten plan beside to before after
  written_more range = record {
    pictures = h.pictures ++ picture ∷ [];
    next = w.0;
    stands = w.2;
    count = count_more h.pictures picture to.state number;
    leads = leads_more;
    wrote = more_written;
    range = All-push IsPictureInRange h.pictures picture h.range range;
  }

-- a run goes on to the next number, as long as there may be more states
pub record NextState (plan : Plan) (from to : RunPlace) : Type 0 where
  pub within : from.state < plan.states
  pub next : to.state ≡ from.state + 1

pub next_state : (plan : Plan) (beside : Beside) (from to : RunPlace) (before now : Option (List ℕ)) (picture : Picture) → HasWritten plan beside from before now → Turned plan from to turn.Went picture → NextState plan from to
next_state plan beside from to before now picture h t =
    let a = answered_there plan beside from to before now turn.Went picture h t in
    let within = a.0.1.within in
    record { within = omega (arith, within, h.count); next = omega (arith, a.1, h.count) }
