-- Picks one after the other.
use Rattle.std.proofs.Common.{◌≡◌, ℕ, suc, List, [], ◌∷◌, ◌++◌, refl, ap, sym, ◌∙◌, subst, arith, append_assoc, length-append, Result, Ok, Err, OnErr}
use Rattle.std.proofs.lemmas.List.{append-nil}
use Rattle.tp_scene.specs.Step.{Reduction}
use Rattle.tp_scene.specs.Pick.{Setting, Moment, Reduces, Leads}
use Rattle.tp_step.specs.Closes.{LedByPicks}

-- what holds, holds where it is refused
pub on_refusal : {T E : Type 0} (r : Result T E) {P : Type 0} → P → OnErr r P
on_refusal (Ok x) h = tt
on_refusal (Err e) h = h

-- one more pick
pub leads_more : (w : Setting) (m mid next : Moment) (ts : List ℕ) (t : ℕ) (r : Reduction) → Leads w m ts mid → Reduces w mid t r next → Leads w m (ts ++ t ∷ []) next
leads_more w m mid next [] t r h g = (r, next, subst (λ (z : Moment). Reduces w z t r next) h g, refl)
leads_more w m mid next (u ∷ ts) t r h g = (h.0, h.1, h.2, leads_more w h.1 mid next ts t r h.3 g)

-- picks after picks
pub leads_on : (w : Setting) (m mid next : Moment) (ts us : List ℕ) → Leads w m ts mid → Leads w mid us next → Leads w m (ts ++ us) next
leads_on w m mid next [] us h g = subst (λ (z : Moment). Leads w z us next) h g
leads_on w m mid next (t ∷ ts) us h g = (h.0, h.1, h.2, leads_on w h.1 mid next ts us h.3 g)

pub made_none : (w : Setting) (m : Moment) (left : ℕ) (before : List ℕ) → LedByPicks w m m left left before before
made_none w m left before = record { picks = []; leads = refl; appended = sym (append-nil before); spent = omega arith }

pub made_more : (w : Setting) (m mid next : Moment) (l0 l1 l2 : ℕ) (b0 b1 b2 : List ℕ) (t : ℕ) (r : Reduction) → LedByPicks w m mid l0 l1 b0 b1 → Reduces w mid t r next → l1 ≡ suc l2 → b2 ≡ b1 ++ t ∷ [] → LedByPicks w m next l0 l2 b0 b2
made_more w m mid next l0 l1 l2 b0 b1 b2 t r h g e a = record {
  picks = h.picks ++ t ∷ [];
  leads = leads_more w m mid next h.picks t r h.leads g;
  appended = a ∙ ap (λ xs. xs ++ t ∷ []) h.appended ∙ append_assoc b0 h.picks (t ∷ []);
  spent = omega (arith, h.spent, e, length-append h.picks (t ∷ []));
}

pub made_on : (w : Setting) (m mid next : Moment) (l0 l1 l2 : ℕ) (b0 b1 b2 : List ℕ) → LedByPicks w m mid l0 l1 b0 b1 → LedByPicks w mid next l1 l2 b1 b2 → LedByPicks w m next l0 l2 b0 b2
made_on w m mid next l0 l1 l2 b0 b1 b2 h g = record {
  picks = h.picks ++ g.picks;
  leads = leads_on w m mid next h.picks g.picks h.leads g.leads;
  appended = g.appended ∙ ap (λ xs. xs ++ g.picks) h.appended ∙ append_assoc b0 h.picks g.picks;
  spent = omega (arith, h.spent, g.spent, length-append h.picks g.picks);
}
