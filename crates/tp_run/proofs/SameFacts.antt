-- Facts in order are one list where they give each path the same shape.
use Rattle.std.proofs.Common.{◌≡◌, inl, inr, true, List, [], ◌∷◌, Option, Some, None, refl, ap, ap₂, sym, ◌∙◌, subst, IsTrue}
use Rattle.std.specs.List.{AllByRecursion}
use Rattle.std.proofs.lemmas.Bool.{cases_Bool, both_ways, cond-true, cond-false}
use Rattle.std.proofs.lemmas.List.Elements.{recursion_from_All}
use Rattle.tp_value.specs.declared.value.Shape.{Shape}
use Rattle.tp_value.specs.declared.path.Fact.{Fact}
use Rattle.tp_store.specs.Facts.{same_path, kept_shape, fact}
use Rattle.tp_store.specs.Changes.{HaveSameShapes}
use Rattle.tp_store.proofs.Paths.{same_path-decides, same_path-refl}
use Rattle.tp_store.proofs.Members.{In, kept_in}
use Rattle.tp_show.specs.Line.{is_before, AreInOrder}
use Rattle.tp_show.proofs.FactOrder.{is_before-order}

before_each : (f : Fact) (fs : List Fact) → AllByRecursion (λ g. IsTrue (is_before f g)) fs → (g : Fact) → In g fs → is_before f g ≡ true
before_each f [] h g i = absurd i
before_each f (x ∷ xs) h g (inl e) = subst (λ (y : Fact). is_before f y ≡ true) e h.0
before_each f (x ∷ xs) h g (inr i) = before_each f xs h.1 g i

-- the first of a list is before the others
firsts : (f : Fact) (fs : List Fact) → AreInOrder (f ∷ fs) → (g : Fact) → In g fs → is_before f g ≡ true
firsts f fs h g i = before_each f fs (recursion_from_All (λ g. IsTrue (is_before f g)) fs h.0) g i

never_both : (f g : Fact) → is_before f g ≡ true → is_before g f ≡ true → ⊥
never_both f g a b = both_ways (is_before g f) (is_before-order.one_way f g a) b

kept_first : (f : Fact) (fs : List Fact) → kept_shape (f ∷ fs) f.path ≡ Some f.shape
kept_first f fs = cond-true (same_path f.path f.path) _ _ (same_path-refl f.path)

-- the first one's path is kept by it alone
alone : (f : Fact) (fs : List Fact) → AreInOrder (f ∷ fs) → kept_shape fs f.path ≡ None
alone f fs h = go (kept_shape fs f.path) refl
  where
    go : (o : Option Shape) → kept_shape fs f.path ≡ o → kept_shape fs f.path ≡ None
    go None e = e
    go (Some sh) e = let b = firsts f fs h (fact f.path sh) (kept_in fs f.path sh e) in absurd (never_both f f b b)

one_first : (f g : Fact) (fs gs : List Fact) → AreInOrder (f ∷ fs) → AreInOrder (g ∷ gs) → HaveSameShapes (f ∷ fs) (g ∷ gs) → f ≡ g
one_first f g fs gs hf hg same =
    let a : In f (g ∷ gs) = kept_in (g ∷ gs) f.path f.shape (sym (same f.path) ∙ kept_first f fs) in
    let b : In g (f ∷ fs) = kept_in (f ∷ fs) g.path g.shape (same g.path ∙ kept_first g gs) in
    elim a [
      | inl e ↦ sym e
      | inr i ↦ elim b [ inl e ↦ e | inr j ↦ absurd (never_both f g (firsts f fs hf g j) (firsts g gs hg f i)) ]
    ]

rest_same : (f : Fact) (fs gs : List Fact) → AreInOrder (f ∷ fs) → AreInOrder (f ∷ gs) → HaveSameShapes (f ∷ fs) (f ∷ gs) → HaveSameShapes fs gs
rest_same f fs gs hf hg same p = elim (cases_Bool (same_path f.path p)) [
  | inl e ↦ (let q : f.path ≡ p = (same_path-decides f.path p).0 e in ap (kept_shape fs) (sym q) ∙ alone f fs hf ∙ sym (alone f gs hg) ∙ ap (kept_shape gs) q)
  | inr e ↦ sym (cond-false (same_path f.path p) (Some f.shape) (kept_shape fs p) e) ∙ same p ∙ cond-false (same_path f.path p) (Some f.shape) (kept_shape gs p) e
]

pub same_facts : (fs gs : List Fact) → AreInOrder fs → AreInOrder gs → HaveSameShapes fs gs → fs ≡ gs
same_facts [] [] hf hg same = refl
same_facts [] (g ∷ gs) hf hg same = absurd (let e : None ≡ Some g.shape = same g.path ∙ kept_first g gs in cc)
same_facts (f ∷ fs) [] hf hg same = absurd (let e : Some f.shape ≡ None = sym (kept_first f fs) ∙ same f.path in cc)
same_facts (f ∷ fs) (g ∷ gs) hf hg same =
    let e = one_first f g fs gs hf hg same in
    let hg' : AreInOrder (f ∷ gs) = subst (λ (x : Fact). AreInOrder (x ∷ gs)) (sym e) hg in
    let same' : HaveSameShapes (f ∷ fs) (f ∷ gs) = subst (λ (x : Fact). HaveSameShapes (f ∷ fs) (x ∷ gs)) (sym e) same in
    ap₂ (λ x xs. x ∷ xs) e (same_facts fs gs hf.1 hg'.1 (rest_same f fs gs hf hg' same'))
