-- One rest for the picks of a state.
use Rattle.std.proofs.Common.{◌≡◌, inl, inr, ℕ, zero, suc, Bool, List, [], ◌∷◌, length, refl, ap, sym, subst, arith}
use Rattle.tp_scene.specs.Step.{Reduction, PickOutcome, reduces, clashes, misses, passes}
use Rattle.tp_scene.specs.Pick.{Setting, Moment, Leads, outcome_of, IsIdle}
use Rattle.tp_scene.specs.Rest.{AtRest}
use Rattle.tp_step_laws.specs.OneRest.{Rules, Path, Rest}
use Rattle.tp_step_laws.specs.Rows.{IsFailure}
use Rattle.tp_step_laws.specs.Alike.{Alike}
use Rattle.tp_step_laws.specs.Orders.{IsOrderly, StepsTo, MeetsFailure, AlikeIsEquivalence, OneRestOf}
use Rattle.tp_step_laws.proofs.Orderly.{steps_stay_orderly}
use Rattle.tp_step_laws.proofs.OneRest.{one_rest}
use Rattle.tp_step_laws.proofs.Again.{failures_stay}
use Rattle.tp_step_laws.proofs.MutualFailures.{failures_are_mutual}
use Rattle.tp_step_laws.proofs.Commute.{commute}
use Rattle.tp_step_laws.proofs.Equivalence.{alike_is_equivalence}
use Rattle.tp_step_laws.proofs.AlikeStep.{alike_moments_step}

no_step : (o : PickOutcome) (r : Reduction) → o ≡ reduces r → IsFailure o → ⊥
no_step o r e b = subst (λ (x : PickOutcome). IsFailure x) e b

idle_bad : (o : PickOutcome) → IsIdle o → IsFailure o → ⊥
idle_bad (clashes c) i b = i
idle_bad (misses port) i b = i
idle_bad (passes k) i b = i
idle_bad o i b = b

module _ (w : Setting) (kinds : List Bool) where
  abbrev alike : AlikeIsEquivalence w kinds
  alike = alike_is_equivalence w kinds

  abbrev State : Type 0
  State = (m : Moment) × IsOrderly w kinds m

  keep : (s : State) (t : ℕ) (next : Moment) → StepsTo w s.0 t next → IsOrderly w kinds next
  keep s t next st = steps_stay_orderly w kinds s.0 t st.0 next s.1 st.1

  abbrev rules : Rules
  rules = record {
    State = State;
    Step = λ t s u. StepsTo w s.0 t u.0;
    Bad = λ t s. MeetsFailure w s.0 t;
    Alike = λ s u. Alike (length kinds) s.0 u.0;
    alike_refl = λ s. alike.itself s.0 s.1.sound;
    alike_sym = λ s t a. alike.back s.0 t.0 s.1.sound t.1.sound a;
    alike_trans = λ s t r a b. alike.on s.0 t.0 r.0 s.1.sound t.1.sound r.1.sound a b;
    step_alike = λ t s s' u a st.
        (let g = (alike_moments_step w kinds s.0 s'.0 a.0 s.1 s'.1 a.1).steps t u.0 st in
        (a.0.item.to t, (g.0, keep s' (a.0.item.to t) g.0 g.1), g.1, (a.0, g.2)));
    bad_alike = λ t s s' a b. (a.0.item.to t, (alike_moments_step w kinds s.0 s'.0 a.0 s.1 s'.1 a.1).fails t b);
    one_result = λ t s u v a b. alike.one s.0 u.0 v.0 t s.1.sound a b;
    not_both = λ t s u st b. no_step (outcome_of w s.0.store s.0.scene t) st.0 st.1.outcome b.1;
    bad_stays = λ t u s s' ne st b. failures_stay w kinds s.0 s'.0 t u ne s.1 st b;
    diamond = λ t u s a b ne st su. elim (commute failures_are_mutual w kinds s.0 a.0 b.0 t u ne s.1 st su) [
      | inl x ↦ inl ((x.first, keep a u x.first x.then_other), (x.second, keep b t x.second x.other_then), x.then_other, x.other_then, x.alike)
      | inr x ↦ inr x.0
    ];
  }

  to_path : (ps : List ℕ) (s : State) (e : Moment) → Leads w s.0 ps e → (o : IsOrderly w kinds e) × Path rules (length ps) s (e, o)
  to_path [] s e h = (subst (λ (m : Moment). IsOrderly w kinds m) (sym h) s.1, subst (λ (m : Moment). Alike (length kinds) s.0 m) (sym h) (alike.itself s.0 s.1.sound))
  to_path (t ∷ ts) s e h =
      let st : StepsTo w s.0 t h.1 = (h.0, h.2) in
      let next : State = (h.1, keep s t h.1 st) in
      let r = to_path ts next e h.3 in
      (r.0, (t, next, st, r.1))

  from_path : (n : ℕ) (s e : State) → Path rules n s e → (ps : List ℕ) × (last : Moment) × Leads w s.0 ps last × (length ps ≡ n) × IsOrderly w kinds last × Alike (length kinds) last e.0
  from_path zero s e p = ([], s.0, refl, refl, s.1, p)
  from_path (suc n) s e p = let r = from_path n p.1 e p.3 in (p.0 ∷ r.0, r.1, (p.2.0, p.1.0, p.2.1, r.2), ap suc r.3, r.4, r.5)

  at_rest : (s : State) → AtRest w s.0 → Rest rules s
  at_rest s h = (
    (λ t u st. subst (λ (o : PickOutcome). IsIdle o) st.1.outcome (h t st.1.lives)),
    (λ t b. idle_bad (outcome_of w s.0.store s.0.scene t) (h t b.0) b.1),
  )

  rest_of : OneRestOf w kinds
  rest_of m end there ps qs o lead rest other =
      let s : State = (m, o) in
      let a = to_path ps s end lead in
      let b = to_path qs s there other in
      let e : State = (end, a.0) in
      let v : State = (there, b.0) in
      let x = one_rest rules (length ps) (length qs) s e v a.1 (at_rest e rest) b.1 in
      let y = from_path x.0.0 v e x.0.2 in
      let z = alike.back y.1 end y.4.sound a.0.sound y.5 in
      let c = x.0.1 in
      let l = y.3 in
      record {
        more = y.0;
        last = y.1;
        leads = y.2;
        count = omega (arith, c, l);
        alike = z;
        rest = (alike_moments_step w kinds end y.1 z.0 a.0 y.4 z.1).rest rest;
        safe = x.1;
      }

pub one_rest_of : (w : Setting) (kinds : List Bool) → OneRestOf w kinds
one_rest_of w kinds = rest_of w kinds
