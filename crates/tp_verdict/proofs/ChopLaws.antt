-- Laws of chop.
use Rattle.std.proofs.Common.{ℕ, inl, inr, refl, sym, subst, ◌∙◌, arith}
use Rattle.tp_meaning.specs.Course.{Course, Shows, blank, ◌⊕◌}
use Rattle.tp_meaning.proofs.Shows.{join-blank, join-assoc, joined-blank}
use Rattle.tp_verdict.specs.Wide.{WideTree, Somehow, WideHolds}
use Rattle.tp_verdict.specs.Logic.{WideFormulasShowNothing, ChopIsAssociative, EmptyIsUnitOfChop, OrGoesThroughChop, NextGoesOutOfChop}
use Rattle.tp_verdict.proofs.Silent.{silent}

pub wide_formulas_show_nothing : WideFormulasShowNothing
wide_formulas_show_nothing w s a b S h = silent s w a b S h

pub chop_is_associative : ChopIsAssociative
chop_is_associative u v w s a b S le = (
  (λ (i, T, U, lo, hi, (j, X, Y, l, r, x, y, is'), z, is).
      (j, X, Y ⊕ U, l, omega (arith, r, hi), x, (i, Y, U, r, hi, y, z, refl), is ∙ (λ k. is' k ⊕ U) ∙ join-assoc X Y U)),
  (λ (i, T, U, lo, hi, x, (j, X, Y, l, r, y, z, is'), is).
      (j, T ⊕ X, Y, omega (arith, lo, l), r, (i, T, X, lo, l, x, y, refl), z, is ∙ (λ k. T ⊕ is' k) ∙ sym (join-assoc T X Y))),
)

pub empty_is_unit_of_chop : EmptyIsUnitOfChop
empty_is_unit_of_chop = record {
  first = λ w s a b S le. (
    (λ (i, T, U, lo, hi, (e, none), y, is). subst (λ (X : Shows). WideHolds w s a b X) (sym (is ∙ (λ k. none k ⊕ U))) (subst (λ (k : ℕ). WideHolds w s k b U) (sym e) y)),
    (λ h. (a, blank, S, omega arith, le, (refl, refl), h, refl)),
  );
  last = λ w s a b S le. (
    (λ (i, T, U, lo, hi, x, (e, none), is). subst (λ (X : Shows). WideHolds w s a b X) (sym (is ∙ (λ k. T ⊕ none k) ∙ join-blank T)) (subst (λ (k : ℕ). WideHolds w s a k T) e x)),
    (λ h. (b, S, blank, le, omega arith, h, (refl, refl), sym (join-blank S))),
  );
}

-- a formula that holds somehow shows nothing
quiet : (s : Course) (w : WideTree) (a b : ℕ) → Somehow (WideHolds w s) a b → WideHolds w s a b blank
quiet s w a b (T, h) = subst (λ (X : Shows). WideHolds w s a b X) (silent s w a b T h) h

pub or_goes_through_chop : OrGoesThroughChop
or_goes_through_chop = record {
  first = λ u v w s a b S le. (
    (λ (i, T, U, lo, hi, (one, none), y, is). (
      elim one [
        | inl (X, x) ↦ inl (X ⊕ U, (i, X, U, lo, hi, x, y, refl))
        | inr (X, x) ↦ inr (X ⊕ U, (i, X, U, lo, hi, x, y, refl))
      ],
      joined-blank S T U is none (silent s w i b U y),
    )),
    (λ (one, none). elim one [
      | inl (X, (i, T, U, lo, hi, x, y, is)) ↦ (i, blank, U, lo, hi, (inl (T, x), refl), y, none ∙ sym (silent s w i b U y))
      | inr (X, (i, T, U, lo, hi, x, y, is)) ↦ (i, blank, U, lo, hi, (inr (T, x), refl), y, none ∙ sym (silent s w i b U y))
    ]),
  );
  last = λ u v w s a b S le. (
    (λ (i, T, U, lo, hi, x, (one, none), is). (
      elim one [
        | inl (X, y) ↦ inl (T ⊕ X, (i, T, X, lo, hi, x, y, refl))
        | inr (X, y) ↦ inr (T ⊕ X, (i, T, X, lo, hi, x, y, refl))
      ],
      joined-blank S T U is (silent s w a i T x) none,
    )),
    (λ (one, none). elim one [
      | inl (X, (i, T, U, lo, hi, x, y, is)) ↦ (i, T, blank, lo, hi, x, (inl (U, y), refl), none ∙ sym (silent s w a i T x) ∙ sym (join-blank T))
      | inr (X, (i, T, U, lo, hi, x, y, is)) ↦ (i, T, blank, lo, hi, x, (inr (U, y), refl), none ∙ sym (silent s w a i T x) ∙ sym (join-blank T))
    ]),
  );
}

pub next_goes_out_of_chop : NextGoesOutOfChop
next_goes_out_of_chop u w s a b S le = (
  (λ (i, T, U, lo, hi, (l, x), y, is). (omega (arith, l, hi), (i, T, U, l, hi, x, y, is))),
  (λ (l, (i, T, U, lo, hi, x, y, is)). (i, T, U, omega (arith, lo), hi, (lo, x), y, is)),
)
