-- The direct meanings of the derived operators.
use Rattle.std.proofs.Common.{◌≡◌, pos, ℕ, zero, suc, ◌+◌, ◌-◌, ◌≤◌, ◌<◌, refl, ap, sym, ◌∙◌, subst, arith, inl, inr, ◌⊎◌, true, Option, Some, None, length}
use Rattle.std.specs.Option.{option_and_then}
use Rattle.std.proofs.lemmas.Bool.{cases_lt}
use Rattle.tp_value.specs.Tree.{Tree, Trees, num, truth, list, items_of}
use Rattle.tp_meaning.specs.Syntax.{ExprTree, FormulaTree}
use Rattle.tp_meaning.specs.Course.{Course, Shows, blank, ◌⊕◌, total}
use Rattle.tp_meaning.specs.Value.{Env, value, list_of}
use Rattle.tp_meaning.specs.Holds.{Context, Holds}
use Rattle.tp_meaning.specs.Derived.{skip_of, halt_of, keep_of, fin_of, gets_of, stable_of, becomes_of, list_of_length, next_equals_of}
use Rattle.tp_meaning.specs.Direct.{Means, ValueIs, Skip, Halt, Keep, Fin, Gets, Stable, Becomes, ListOf, NextEquals}
use Rattle.tp_meaning.proofs.Shows.{joined-blank, join-blank, total_same, total-blank, total-of-blank, total-last, put_at, put_there, put_else}

one_more : (j : ℕ) → 1 + j ≡ suc j
one_more j = omega arith

last_or_before : (i b : ℕ) → i ≤ b → (i ≡ b) ⊎ (i < b)
last_or_before i b h = elim (cases_lt i b) [ inl l ↦ inr l | inr l ↦ inl (omega arith) ]

pub skip_means : Means skip_of Skip
unfolding Means
skip_means w d env s a b S le = (
  (λ h. h.1),
  (λ h. let e = h.0 in (omega arith, h)),
)

pub gets_means : (x e : ExprTree) → Means (gets_of x e) (Gets x e)
unfolding Means
gets_means x e w d env s a b S le = (
  (λ h. let m = h.2 in (
    (λ j u v. elim (h.3 j u (omega arith)) [ inl z ↦ absurd (let q = z.0 in omega arith) | inr z ↦ (z.1.0, subst (λ k. ValueIs w d env s x k z.1.0) (one_more j) z.1.2, z.1.3) ]),
    h.4 ∙ total-blank h.0 a h.1 (λ i u v. elim (h.3 i u (omega arith)) [ inl z ↦ z.1 | inr z ↦ z.1.4 ]),
  )),
  (λ g. (
    suc b - a,
    (λ _. blank),
    omega arith,
    (λ i u v. elim (last_or_before i b v) [ inl z ↦ inl (z, refl) | inr z ↦ (let q = g.0 i u z in inr (z, (q.0, omega arith, subst (λ k. ValueIs w d env s x k q.0) (sym (one_more i)) q.1, q.2, refl))) ]),
    g.1 ∙ sym (total-of-blank (suc b - a) a),
  )),
)

pub stable_means : (x : ExprTree) → Means (stable_of x) (Stable x)
stable_means x = gets_means x x

pub halt_means : (e : ExprTree) → Means (halt_of e) (Halt e)
unfolding Means
halt_means e w d env s a b S le = (
  (λ h. let m = h.2 in (
    elim (h.3 b le (omega arith)) [ inl z ↦ z.0 | inr z ↦ absurd (let q = z.1.0 in omega arith) ],
    (λ j u v. elim (h.3 j u (omega arith)) [ inl z ↦ absurd (let q = z.1.0 in omega arith) | inr z ↦ z.0 ]),
    h.4 ∙ total-blank h.0 a h.1 (λ i u v. elim (h.3 i u (omega arith)) [ inl z ↦ z.1.1 | inr z ↦ z.1.1 ]),
  )),
  (λ g. (
    suc b - a,
    (λ _. blank),
    omega arith,
    (λ i u v. elim (last_or_before i b v) [ inl z ↦ inl (subst (λ k. ValueIs w d env s e k (truth true)) (sym z) g.0, (z, refl)) | inr z ↦ inr (g.1 i u z, (z, refl)) ]),
    g.2 ∙ sym (total-of-blank (suc b - a) a),
  )),
)

module _ (f : FormulaTree) (w : Context) (d : ℕ) (env : Env) (s : Course) (a b : ℕ) (S : Shows) (le : a ≤ b) where
  keep_gives : Holds w d (keep_of f) env s a b S → Keep f w d env s a b S
  keep_gives (zero, T, m, each, is) = absurd (omega arith)
  keep_gives (suc n, T, m, each, is) =
      let last : T b ≡ blank = elim (each b le (omega arith)) [ inl z ↦ z.1 | inr z ↦ absurd (let q = z.0 in omega arith) ] in
      let e : n + a ≡ b = omega arith in (
        n,
        T,
        e,
        (λ i u v. elim (each i u (omega arith)) [ inl z ↦ absurd (let q = z.0 in omega arith) | inr z ↦ z.1 ]),
        is ∙ total-last n a T ∙ (λ i. total n a T ⊕ (ap T e ∙ last) i) ∙ join-blank (total n a T),
      )

  keep_takes : Keep f w d env s a b S → Holds w d (keep_of f) env s a b S
  keep_takes (n, T, m, each, is) = (
    suc n,
    put_at b blank T,
    omega arith,
    (λ i u v. elim (last_or_before i b v) [
      | inl z ↦ inl (z, put_there b blank T i z)
      | inr z ↦ inr (z, subst (λ (X : Shows). Holds w d f env s i b X) (sym (put_else b blank T i (λ y. omega arith))) (each i u z))
    ]),
    is ∙ total_same n a T (put_at b blank T) (λ i u v. sym (put_else b blank T i (λ y. omega arith)))
        ∙ sym (join-blank (total n a (put_at b blank T))) ∙ (λ i. total n a (put_at b blank T) ⊕ sym (put_there b blank T (n + a) m) i) ∙ sym (total-last n a (put_at b blank T)),
  )

  fin_gives : Holds w d (fin_of f) env s a b S → Fin f w d env s a b S
  fin_gives (zero, T, m, each, is) = absurd (omega arith)
  fin_gives (suc n, T, m, each, is) =
      let e : n + a ≡ b = omega arith in
      let last : Holds w d f env s b b (T b) = elim (each b le (omega arith)) [ inl z ↦ absurd (let q = z.0 in omega arith) | inr z ↦ z.1 ] in
      let none : total n a T ≡ blank = total-blank n a T (λ i u v. elim (each i u (omega arith)) [ inl z ↦ z.1 | inr z ↦ absurd (let q = z.0 in omega arith) ]) in
      subst (λ (X : Shows). Holds w d f env s b b X) (sym (is ∙ total-last n a T ∙ (λ i. none i ⊕ T (e i)))) last

  fin_takes : Fin f w d env s a b S → Holds w d (fin_of f) env s a b S
  fin_takes h =
      let n = b - a in
      let e : n + a ≡ b = omega arith in
      let T = put_at b S (λ _. blank) in (
        suc n,
        T,
        omega arith,
        (λ i u v. elim (last_or_before i b v) [
          | inl z ↦ inr (z, subst (λ (k : ℕ). Holds w d f env s k b (T i)) (sym z) (subst (λ (X : Shows). Holds w d f env s b b X) (sym (put_there b S (λ _. blank) i z)) h))
          | inr z ↦ inl (z, put_else b S (λ _. blank) i (λ y. omega arith))
        ]),
        (λ i. sym (total-blank n a T (λ k u v. put_else b S (λ _. blank) k (λ y. omega arith))) i ⊕ sym (put_there b S (λ _. blank) (n + a) e) i) ∙ sym (total-last n a T),
      )

pub keep_means : (f : FormulaTree) → Means (keep_of f) (Keep f)
unfolding Means
keep_means f w d env s a b S le = (keep_gives f w d env s a b S le, keep_takes f w d env s a b S le)

pub fin_means : (f : FormulaTree) → Means (fin_of f) (Fin f)
unfolding Means
fin_means f w d env s a b S le = (fin_gives f w d env s a b S le, fin_takes f w d env s a b S le)

pub becomes_means : (x e : ExprTree) → Means (becomes_of x e) (Becomes x e)
unfolding Means
becomes_means x e w d env s a b S le = (
  (λ h.
      let step = h.2.1.0 in
      let eq = h.3.2 in
      let here : 1 + a ≡ b = omega arith in (
        eq.0,
        step,
        subst (λ k. ValueIs w d env s x k eq.0) here eq.2,
        eq.3,
        joined-blank S h.0 h.1 h.4 h.2.1.1 (joined-blank h.1 h.3.0 h.3.1 h.3.4 eq.4 h.3.3),
      )),
  (λ g.
      let step = g.1 in
      let here : b ≡ 1 + a = omega arith in (
        blank,
        blank,
        (omega arith, (step, refl)),
        (blank, blank, (g.0, omega arith, subst (λ k. ValueIs w d env s x k g.0) here g.2, g.3, refl), refl, refl),
        g.4,
      )),
)

pub next_equals_means : (k : ℕ) (t e : ExprTree) → Means (next_equals_of k t e) (NextEquals k t e)
unfolding Means
next_equals_means k t e w d env s a b S le = (
  (λ h.
      let eq = h.3.2 in
      (eq.0, h.2.0, eq.1, eq.2, eq.3, joined-blank S h.0 h.1 h.4 h.2.1 (joined-blank h.1 h.3.0 h.3.1 h.3.4 eq.4 h.3.3))),
  (λ g. (blank, blank, (g.1, refl), (blank, blank, (g.0, g.2, g.3, g.4, refl), refl, refl), g.5)),
)

-- the value of a size
sized : (t : Option Tree) (v : Tree) → option_and_then (λ u. option_and_then (λ ts. Some (num (pos (length ts)))) (list_of u)) t ≡ Some v → (ts : Trees) × (t ≡ Some (list ts)) × (v ≡ num (pos (length (items_of ts))))
sized None v h = absurd (cc)
sized (Some (num n)) v h = absurd (cc)
sized (Some (truth b)) v h = absurd (cc)
sized (Some (list ts)) v h = (ts, refl, cc)

size_of_list : (t : Option Tree) (ts : Trees) → t ≡ Some (list ts) → option_and_then (λ u. option_and_then (λ us. Some (num (pos (length us)))) (list_of u)) t ≡ Some (num (pos (length (items_of ts))))
size_of_list t ts h = ap (λ o. option_and_then (λ u. option_and_then (λ us. Some (num (pos (length us)))) (list_of u)) o) h

pub list_means : (l e : ExprTree) → Means (list_of_length l e) (ListOf l e)
unfolding Means
list_means l e w d env s a b S le = (
  (λ h. let r = sized (value w.defs d l env s a) h.0 h.1 in (r.0, r.1, h.2 ∙ ap (λ v. Some v) r.2, h.3)),
  (λ g. (num (pos (length (items_of g.0))), size_of_list (value w.defs d l env s a) g.0 g.1, g.2, g.3)),
)
