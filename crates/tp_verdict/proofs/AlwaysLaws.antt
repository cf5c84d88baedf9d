-- Laws of always, sometimes and not.
use Rattle.std.proofs.Common.{◌≡◌, ℕ, zero, suc, ◌+◌, ◌-◌, ◌≤◌, ◌<◌, inl, inr, [], ◌∷◌, refl, sym, subst, ◌∙◌, arith}
use Rattle.tp_meaning.specs.Course.{Course, Shows, blank}
use Rattle.tp_meaning.proofs.Shows.{total-of-blank}
use Rattle.tp_verdict.specs.Wide.{WideTree, Somehow, WideHolds, always, conjunction, negation, sometimes, wide_formulas_of}
use Rattle.tp_verdict.specs.Logic.{AlwaysByInduction, NotNot, SometimesAndAlways, implication, in_next}
use Rattle.tp_verdict.proofs.Silent.{silent}
use Rattle.tp_verdict.proofs.Decided.{wide_formulas_are_decided}

module _ (w : WideTree) (s : Course) where
  showing : (a b : ℕ) (S T : Shows) → S ≡ blank → T ≡ blank → WideHolds w s a b T → WideHolds w s a b S
  showing a b S T e q h = subst (λ (X : Shows). WideHolds w s a b X) (q ∙ sym e) h

  -- on each suffix
  on_each : (a b : ℕ) (S : Shows) → a ≤ b → S ≡ blank → ((i : ℕ) → a ≤ i → i ≤ b → WideHolds w s i b blank) → WideHolds (always w) s a b S
  on_each a b S le e h = (suc b - a, (λ _. blank), omega (arith, le), h, e ∙ sym (total-of-blank (suc b - a) a))

  quiet : (a b : ℕ) → Somehow (WideHolds w s) a b → WideHolds w s a b blank
  quiet a b (T, h) = showing a b blank T refl (silent s w a b T h) h

  double : (a b : ℕ) → a ≤ b → ((Somehow (WideHolds w s) a b → ⊥) → ⊥) → WideHolds w s a b blank
  double a b le h = elim (wide_formulas_are_decided w s a b le) [ inl x ↦ x | inr f ↦ absurd (h (λ (T, x). f T x)) ]

  -- a step from a suffix to the next one
  onward : (i b : ℕ) → i < b → Somehow (WideHolds (implication w (in_next w)) s) i b → WideHolds w s i b blank → WideHolds w s (suc i) b blank
  onward i b l (T, (one, none)) h = elim one [
    | inl (U, (f, e)) ↦ absurd (f (blank, h))
    | inr (U, g) ↦ elim g [
      | inl z ↦ (let m = z.0 in absurd (omega (arith, l, m)))
      | inr z ↦ quiet (suc i) b (U, z.1.1)
    ]
  ]

  by_steps : (a b : ℕ) → WideHolds w s a b blank → ((i : ℕ) → a ≤ i → i < b → Somehow (WideHolds (implication w (in_next w)) s) i b) → (n : ℕ) → n + a ≤ b → WideHolds w s (n + a) b blank
  by_steps a b h step zero l = let z : a ≡ 0 + a = omega arith in subst (λ (k : ℕ). WideHolds w s k b blank) z h
  by_steps a b h step (suc n) l = let z : suc (n + a) ≡ suc n + a = omega arith in
      subst (λ (k : ℕ). WideHolds w s k b blank) z (onward (n + a) b (omega (arith, l)) (step (n + a) (omega arith) (omega (arith, l))) (by_steps a b h step n (omega (arith, l))))

pub always_by_induction : AlwaysByInduction
always_by_induction w s a b S le h =
    let none = silent s (conjunction (wide_formulas_of (w ∷ always (implication w (in_next w)) ∷ []))) a b S h in
    let each = h.3.2 in
    let m = each.2 in
    let steps : (i : ℕ) → a ≤ i → i < b → Somehow (WideHolds (implication w (in_next w)) s) i b = λ i l u. (each.1 i, each.3 i l (omega (arith, u))) in
    let first = quiet w s a b (h.0, h.2) in
    on_each w s a b S le none (λ i l u. let z : (i - a) + a ≡ i = omega (arith, l) in
    subst (λ (k : ℕ). WideHolds w s k b blank) z (by_steps w s a b first steps (i - a) (omega (arith, l, u))))

pub not_not : NotNot
not_not w s a b S le = (
  (λ (f, e). showing w s a b S blank e refl (double w s a b le (λ g. f (blank, (g, refl))))),
  (λ h. ((λ (T, (g, e)). g (S, h)), silent s w a b S h)),
)

pub sometimes_and_always : SometimesAndAlways
sometimes_and_always = record {
  sometimes_is = λ w s a b S le. (
    (λ ((i, l, u, h), e). ((λ (T, (m, U, q, each, is)). (each i l u).0 h), e)),
    (λ (f, e). elim (wide_formulas_are_decided (sometimes w) s a b le) [
      | inl x ↦ (x.0, e)
      | inr g ↦ absurd (f (blank, on_each (negation w) s a b blank le refl (λ i l u. ((λ h. g blank ((i, l, u, h), refl)), refl))))
    ]),
  );
  always_is = λ w s a b S le. (
    (λ h. ((λ (T, ((i, l, u, (U, (g, e))), none)). g (h.1 i, h.3 i l u)), silent s (always w) a b S h)),
    (λ (f, e). on_each w s a b S le e (λ i l u. double w s i b u (λ g. f (blank, ((i, l, u, (blank, (g, refl))), refl))))),
  );
}
