-- Pieces one after another, said by cuts; and instances together, said by their numbers.
use Rattle.std.proofs.Common.{◌≡◌, ℤ, pos, ◌+ℤ◌, ◌-ℤ◌, ℕ, zero, suc, ◌+◌, ◌≤◌, ◌<◌, Bool, true, false, not, Option, Some, None, List, refl, ap, sym, ◌∙◌, subst, arith}
use Rattle.std.specs.Option.{option_and_then}
use Rattle.std.proofs.Math.IntN.{+ℤ_assoc, +ℤ_idr, pos-+ℤ-pos}
use Rattle.tp_value.specs.Tree.{Tree, num, truth, list}
use Rattle.tp_meaning.specs.Syntax.{ExprTree, FormulaTree, negation, while, for_from, forall_from}
use Rattle.tp_meaning.specs.Course.{Part, Shows, blank, ◌⊕◌, total}
use Rattle.tp_meaning.specs.Value.{value, truth_of}
use Rattle.tp_meaning.specs.Holds.{Pieces, Together, count_to, Holds}
use Rattle.tp_meaning.specs.Derived.{repeat_of}
use Rattle.tp_meaning.specs.Direct.{Means, ValueIs, Repeat}
use Rattle.tp_meaning.specs.Cuts.{BetweenCuts, WithEach, WhileByCuts, ForByCuts, ForallByInstances}
use Rattle.tp_meaning.proofs.Shows.{total-shift}

-- the numbers of the later pieces
pub later_number : (k : ℤ) (j : ℕ) → (k +ℤ pos 1) +ℤ pos j ≡ k +ℤ pos (suc j)
later_number k j = let e : 1 + j ≡ suc j = omega arith in +ℤ_assoc k (pos 1) (pos j) ∙ ap (λ x. k +ℤ x) (pos-+ℤ-pos 1 j ∙ ap pos e)

-- a first member, and then others
abbrev first_cut : ℕ → (ℕ → ℕ) → ℕ → ℕ
first_cut a c zero = a
first_cut a c (suc j) = c j

abbrev first_shows : Shows → (ℕ → Shows) → ℕ → Shows
first_shows T U zero = T
first_shows T U (suc j) = U j

rise : (c : ℕ → ℕ) (m : ℕ) → ((j : ℕ) → j < m → c j ≤ c (suc j)) → c 0 ≤ c m
rise c zero h = omega arith
rise c (suc m) h = let q = rise c m (λ j u. h j (omega arith)) in let r = h m (omega arith) in omega (arith, q, r)

module _ (P : ℤ → Part) where
  -- the pieces that a first cut and later ones make
  piece_at : (k : ℤ) (a m : ℕ) (T0 : Shows) (c : ℕ → ℕ) (T : ℕ → Shows) → (a ≤ c 0) → P k a (c 0) T0 → ((j : ℕ) → j < m → (c j ≤ c (suc j)) × P ((k +ℤ pos 1) +ℤ pos j) (c j) (c (suc j)) (T j))
      → (j : ℕ) → j < suc m → (first_cut a c j ≤ first_cut a c (suc j)) × P (k +ℤ pos j) (first_cut a c j) (first_cut a c (suc j)) (first_shows T0 T j)
  piece_at k a m T0 c T l p h zero u = (l, subst (λ (x : ℤ). P x a (c 0) T0) (sym (+ℤ_idr k)) p)
  piece_at k a m T0 c T l p h (suc j) u = let q = h j (omega arith) in (q.0, subst (λ (x : ℤ). P x (c j) (c (suc j)) (T j)) (later_number k j) q.1)

  to_cuts : (m : ℕ) (k : ℤ) (a b : ℕ) (S : Shows) → Pieces P m k a b S → BetweenCuts P m k a b S
  to_cuts zero k a b S h = ((λ _. a), (λ _. blank), refl, h.0, (λ j u. absurd (omega arith)), h.1)
  to_cuts (suc m) k a b S h = let r = to_cuts m (k +ℤ pos 1) h.0 b h.2 h.6 in let l = h.3 in (
    first_cut a r.0,
    first_shows h.1 r.1,
    refl,
    r.3,
    piece_at k a m h.1 r.0 r.1 (let e = r.2 in omega (arith, e, l)) (subst (λ (i : ℕ). P k a i h.1) (sym r.2) h.5) r.4,
    h.7 ∙ (λ i. h.1 ⊕ (r.5 ∙ sym (total-shift m 0 (first_shows h.1 r.1))) i),
  )

  of_cuts : (m : ℕ) (k : ℤ) (a b : ℕ) (S : Shows) → BetweenCuts P m k a b S → Pieces P m k a b S
  of_cuts zero k a b S h = (sym h.2 ∙ h.3, h.5)
  of_cuts (suc m) k a b S h = let c = h.0 in let first = h.4 0 (omega arith) in let u = first.0 in (
    c 1,
    h.1 0,
    total m 0 (λ j. h.1 (suc j)),
    (let e = h.2 in omega (arith, e, u)),
    (let q = rise (λ j. c (suc j)) m (λ j v. (h.4 (suc j) (omega arith)).0) in let e = h.3 in omega (arith, q, e)),
    subst (λ (x : ℤ). P x a (c 1) (h.1 0)) (+ℤ_idr k) (subst (λ (i : ℕ). P (k +ℤ pos 0) i (c 1) (h.1 0)) h.2 first.1),
    of_cuts m (k +ℤ pos 1) (c 1) b (total m 0 (λ j. h.1 (suc j))) (
      (λ j. c (suc j)),
      (λ j. h.1 (suc j)),
      refl,
      h.3,
      (λ j v. let q = h.4 (suc j) (omega arith) in (q.0, subst (λ (x : ℤ). P x (c (suc j)) (c (suc (suc j))) (h.1 (suc j))) (sym (later_number k j)) q.1)),
      refl,
    ),
    h.5 ∙ (λ i. h.1 0 ⊕ total-shift m 0 h.1 i),
  )

  instance_at : (k : ℤ) (a b m : ℕ) (T0 : Shows) (T : ℕ → Shows) → P k a b T0 → ((j : ℕ) → j < m → P ((k +ℤ pos 1) +ℤ pos j) a b (T j))
      → (j : ℕ) → j < suc m → P (k +ℤ pos j) a b (first_shows T0 T j)
  instance_at k a b m T0 T p h zero u = subst (λ (x : ℤ). P x a b T0) (sym (+ℤ_idr k)) p
  instance_at k a b m T0 T p h (suc j) u = subst (λ (x : ℤ). P x a b (T j)) (later_number k j) (h j (omega arith))

  to_each : (m : ℕ) (k : ℤ) (a b : ℕ) (S : Shows) → Together P m k a b S → WithEach P m k a b S
  to_each zero k a b S h = ((λ _. blank), (λ j u. absurd (omega arith)), h)
  to_each (suc m) k a b S h = let r = to_each m (k +ℤ pos 1) a b h.1 h.3 in (
    first_shows h.0 r.0,
    instance_at k a b m h.0 r.0 h.2 r.1,
    h.4 ∙ (λ i. h.0 ⊕ (r.2 ∙ sym (total-shift m 0 (first_shows h.0 r.0))) i),
  )

  of_each : (m : ℕ) (k : ℤ) (a b : ℕ) (S : Shows) → WithEach P m k a b S → Together P m k a b S
  of_each zero k a b S h = h.2
  of_each (suc m) k a b S h = (
    h.0 0,
    total m 0 (λ j. h.0 (suc j)),
    subst (λ (x : ℤ). P x a b (h.0 0)) (+ℤ_idr k) (h.1 0 (omega arith)),
    of_each m (k +ℤ pos 1) a b (total m 0 (λ j. h.0 (suc j))) (
      (λ j. h.0 (suc j)),
      (λ j v. subst (λ (x : ℤ). P x a b (h.0 (suc j))) (sym (later_number k j)) (h.1 (suc j) (omega arith))),
      refl,
    ),
    h.2 ∙ (λ i. h.0 0 ⊕ total-shift m 0 h.0 i),
  )

-- strictly rising cuts, where C holds at each but the last
abbrev Strict : (ℕ → Type 0) → Part → ℕ → Part
Strict C Q m a b S = (c : ℕ → ℕ) × (T : ℕ → Shows) × (c 0 ≡ a) × (c m ≡ b) × ((j : ℕ) → j < m → (c j < c (suc j)) × C (c j) × Q (c j) (c (suc j)) (T j)) × (S ≡ total m 0 T)

module _ (C : ℕ → Type 0) (Q : Part) where
  to_strict : (m : ℕ) (k : ℤ) (a b : ℕ) (S : Shows) → Pieces (λ _ i j T. (i < j) × C i × Q i j T) m k a b S → Strict C Q m a b S
  to_strict m k a b S h = let r = to_cuts _ m k a b S h in (r.0, r.1, r.2, r.3, (λ j u. (r.4 j u).1), r.5)

  of_strict : (m : ℕ) (k : ℤ) (a b : ℕ) (S : Shows) → Strict C Q m a b S → Pieces (λ _ i j T. (i < j) × C i × Q i j T) m k a b S
  of_strict m k a b S r = of_cuts _ m k a b S (r.0, r.1, r.2, r.3, (λ j u. let q = r.4 j u in let l = q.0 in (omega (arith, l), q)), r.5)

pub while_by_cuts : (e : ExprTree) (f : FormulaTree) → Means (while e f) (WhileByCuts e f)
unfolding Means
while_by_cuts e f w d env s a b S le = (
  (λ h. let r = to_strict (λ i. ValueIs w d env s e i (truth true)) (Holds w d f env s) h.0 (pos 0) a b S h.1 in
      (r.0, h.0, r.1, r.2, r.3, r.4, h.2, r.5)),
  (λ g. (g.1, of_strict (λ i. ValueIs w d env s e i (truth true)) (Holds w d f env s) g.1 (pos 0) a b S (g.0, g.2, g.3, g.4, g.5, g.7), g.6)),
)

pub for_by_cuts : (name : List ℕ) (k : ℤ) (e : ExprTree) (f : FormulaTree) → Means (for_from name k e f) (ForByCuts k e f)
unfolding Means
for_by_cuts name k e f w d env s a b S le = (
  (λ h. (h.0, h.1, to_cuts _ (count_to (h.0 -ℤ k)) k a b S h.2)),
  (λ g. (g.0, g.1, of_cuts _ (count_to (g.0 -ℤ k)) k a b S g.2)),
)

pub forall_by_instances : (name : List ℕ) (k : ℤ) (e : ExprTree) (f : FormulaTree) → Means (forall_from name k e f) (ForallByInstances k e f)
unfolding Means
forall_by_instances name k e f w d env s a b S le = (
  (λ h. (h.0, h.1, to_each _ (count_to (h.0 -ℤ k)) k a b S h.2)),
  (λ g. (g.0, g.1, of_each _ (count_to (g.0 -ℤ k)) k a b S g.2)),
)

-- the value of a negation
negated : (t : Option Tree) (b : Bool) → option_and_then (λ u. option_and_then (λ c. Some (truth (not c))) (truth_of u)) t ≡ Some (truth b) → t ≡ Some (truth (not b))
negated None b h = absurd (cc)
negated (Some (num n)) b h = absurd (cc)
negated (Some (list ts)) b h = absurd (cc)
negated (Some (truth true)) true h = absurd (cc)
negated (Some (truth true)) false h = refl
negated (Some (truth false)) true h = refl
negated (Some (truth false)) false h = absurd (cc)

negate : (t : Option Tree) (b : Bool) → t ≡ Some (truth b) → option_and_then (λ u. option_and_then (λ c. Some (truth (not c))) (truth_of u)) t ≡ Some (truth (not b))
negate t b h = ap (λ o. option_and_then (λ u. option_and_then (λ c. Some (truth (not c))) (truth_of u)) o) h

pub repeat_means : (f : FormulaTree) (e : ExprTree) → Means (repeat_of f e) (Repeat f e)
unfolding Means
repeat_means f e w d env s a b S le = (
  (λ h.
      let loop = h.6 in
      let r = to_strict (λ k. ValueIs w d env s (negation e) k (truth true)) (Holds w d f env s) loop.0 (pos 0) h.0 b h.2 loop.1 in (
        h.0,
        h.1,
        r.0,
        loop.0,
        r.1,
        h.3,
        h.4,
        h.5,
        r.2,
        r.3,
        (λ j u. let q = r.4 j u in (q.0, negated (value w.defs d e env s (r.0 j)) true q.1, q.2)),
        negated (value w.defs d e env s b) false loop.2,
        h.7 ∙ (λ i. h.1 ⊕ r.5 i),
      )),
  (λ (i, U, c, m, T, lo, hi, first, start, end, each, last, is). (
    i,
    U,
    total m 0 T,
    lo,
    hi,
    first,
    (
      m,
      of_strict (λ k. ValueIs w d env s (negation e) k (truth true)) (Holds w d f env s) m (pos 0) i b (total m 0 T)
          (c, T, start, end, (λ j u. let q = each j u in (q.0, negate (value w.defs d e env s (c j)) false q.1, q.2)), refl),
      negate (value w.defs d e env s b) true last,
    ),
    is,
  )),
)
