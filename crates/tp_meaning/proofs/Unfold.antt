-- How `always` and loops unfold.
use Rattle.std.proofs.Common.{◌↔◌, ◌≡◌, ℤ, pos, negsuc, ◌+ℤ◌, ◌-ℤ◌, ℕ, zero, suc, ◌+◌, ◌≤◌, ◌<◌, true, false, List, [], ◌∷◌, ◌++◌, Some, refl, ap, sym, ◌∙◌, subst, arith, ◌⊎◌, inl, inr}
use Rattle.std.specs.Prelude.{◌≤ℤ◌, ◌<ℤ◌}
use Rattle.std.proofs.lemmas.Int.{ints}
use Rattle.std.proofs.lemmas.Bool.{cases_lt}
use Rattle.tp_value.specs.Tree.{Tree, num, truth}
use Rattle.tp_meaning.specs.Syntax.{ExprTree, known, numeral, FormulaTree, equation, empty, more, conjunction, branch, chop, while, for_from, forall_from, formulas_of}
use Rattle.tp_meaning.specs.Course.{Part, Course, Shows, blank, ◌⊕◌, total}
use Rattle.tp_meaning.specs.Value.{Env, fixed}
use Rattle.tp_meaning.specs.Holds.{Context, Pieces, Together, count_to, OnEachSuffix, Holds}
use Rattle.tp_meaning.specs.Direct.{Means, ValueIs}
use Rattle.tp_meaning.specs.Unfolding.{AlwaysUnfolds, WhileUnfolds, ForUnfolds, ForallUnfolds, LenUnfolds, NextEquationUnfolds, AssignUnfolds, InputUnfolds}
use Rattle.tp_meaning.specs.Nexts.{nexts}
use Rattle.tp_meaning.proofs.Shows.{join-blank, total_same, put_at, put_there, put_else}
use Rattle.tp_meaning.proofs.Means.{fin_means}

-- P on the later suffixes, if there are any
abbrev Onward : Part → ℕ → ℕ → Shows → Type 0
Onward P a b U = ((a ≡ b) × (U ≡ blank)) ⊎ ((a < b) × OnEachSuffix P (suc a) b U)

module _ (P : Part) where
  suffixes_part : (a b : ℕ) (S : Shows) → a ≤ b → OnEachSuffix P a b S → (V : Shows) × (U : Shows) × P a b V × Onward P a b U × (S ≡ V ⊕ U)
  suffixes_part a b S le (zero, T, e, each, is) = absurd (omega arith)
  suffixes_part a b S le (suc m, T, e, each, is) = (
    T a,
    total m (suc a) T,
    each a (omega arith) le,
    elim (cases_lt a b) [
      | inl l ↦ inr (l, (m, T, omega arith, (λ i u v. each i (omega arith) v), refl))
      | inr l ↦ inl (omega arith, (let z : m ≡ 0 = omega arith in ap (λ k. total k (suc a) T) z))
    ],
    is,
  )

  suffixes_join : (a b : ℕ) (S V U : Shows) → P a b V → Onward P a b U → S ≡ V ⊕ U → OnEachSuffix P a b S
  suffixes_join a b S V U p (inl (e, none)) is =
      (1, (λ _. V), omega arith, (λ i u v. let y : a ≡ i = omega arith in subst (λ k. P k b V) y p), is ∙ ap (λ X. V ⊕ X) none)
  suffixes_join a b S V U p (inr (l, (m, T, e, each, is'))) is = (
    suc m,
    put_at a V T,
    omega arith,
    (λ i u v. elim (cases_lt a i) [
      | inl x ↦ subst (λ X. P i b X) (sym (put_else a V T i (λ y. omega arith))) (each i x v)
      | inr x ↦ (let y : i ≡ a = omega arith in subst (λ k. P k b (put_at a V T i)) (sym y) (subst (λ X. P a b X) (sym (put_there a V T i y)) p))
    ]),
    is ∙ (λ i. sym (put_there a V T a refl) i ⊕ (is' ∙ total_same m (suc a) T (put_at a V T) (λ j u v. sym (put_else a V T j (λ y. omega arith)))) i),
  )

pub always_unfolds : AlwaysUnfolds
unfolding Means
always_unfolds f w d env s a b S le = (
  (λ h. let r = suffixes_part (Holds w d f env s) a b S le h in (r.0, r.1, r.2, (r.1, blank, r.3, refl, sym (join-blank r.1)), r.4)),
  (λ g. let r = g.3 in
      let u : g.1 ≡ r.0 = r.4 ∙ ap (λ X. r.0 ⊕ X) r.3 ∙ join-blank r.0 in
      suffixes_join (Holds w d f env s) a b S g.0 r.0 g.2 r.2 (g.4 ∙ (λ i. g.0 ⊕ u i))),
)

-- the numbers of pieces that don't use them
pieces_any : (P : Part) (m : ℕ) (k l : ℤ) (a b : ℕ) (S : Shows) → Pieces (λ _. P) m k a b S → Pieces (λ _. P) m l a b S
pieces_any P zero k l a b S h = h
pieces_any P (suc m) k l a b S h = (h.0, h.1, h.2, h.3, h.4, h.5, pieces_any P m (k +ℤ pos 1) (l +ℤ pos 1) h.0 b h.2 h.6, h.7)

module _ (w : Context) (d : ℕ) (env : Env) (s : Course) (e : ExprTree) (f : FormulaTree) where
  abbrev Turn : Part
  Turn i j T = (i < j) × ValueIs w d env s e i (truth true) × Holds w d f env s i j T

  abbrev once : FormulaTree
  once = branch e (chop (conjunction (formulas_of (f ∷ more ∷ []))) (while e f)) empty

  loop_there : (a b : ℕ) (S : Shows) (m : ℕ) → Pieces (λ _. Turn) m (pos 0) a b S → ValueIs w d env s e b (truth false) → Holds w d once env s a b S
  loop_there a b S zero h q = inr (subst (λ (i : ℕ). ValueIs w d env s e i (truth false)) (sym h.0) q, h)
  loop_there a b S (suc m) h q = inl (
    h.5.1,
    (
      h.0,
      h.1,
      h.2,
      h.3,
      h.4,
      (h.1, blank, h.5.2, (blank, blank, (h.5.0, refl), refl, refl), sym (join-blank h.1)),
      (m, pieces_any Turn m _ (pos 0) h.0 b h.2 h.6, q),
      h.7,
    ),
  )

  loop_back : (a b : ℕ) (S : Shows) → Holds w d once env s a b S → Holds w d (while e f) env s a b S
  loop_back a b S h = elim h [
    | inl x ↦ (let c = x.1 in let r = c.5 in let g = r.3 in let g1 : g.0 ≡ blank = g.2.1 in let g2 : g.1 ≡ blank = g.3 in
        let tail : r.1 ≡ blank = g.4 ∙ (λ i. g1 i ⊕ g2 i) in
        (suc c.6.0, (c.0, r.0, c.2, c.3, c.4, (g.2.0, x.0, r.2), pieces_any Turn c.6.0 (pos 0) _ c.0 b c.2 c.6.1, c.7 ∙ (λ i. (r.4 ∙ ap (λ X. r.0 ⊕ X) tail ∙ join-blank r.0) i ⊕ c.2)), c.6.2))
    | inr x ↦ (0, x.1, subst (λ (i : ℕ). ValueIs w d env s e i (truth false)) x.1.0 x.0)
  ]

pub while_unfolds : WhileUnfolds
unfolding Means
while_unfolds e f w d env s a b S le = ((λ h. loop_there w d env s e f a b S h.0 h.1 h.2), loop_back w d env s e f a b S)

-- how many numbers there are from k to below n
none_left : (x n k : ℤ) → x ≡ n -ℤ k → n ≤ℤ k → count_to x ≡ 0
none_left (pos m) n k e l = omega (arith, ints)
none_left (negsuc m) n k e l = refl

one_less : (x y n k : ℤ) → x ≡ n -ℤ k → y ≡ n -ℤ (k +ℤ pos 1) → k <ℤ n → count_to x ≡ suc (count_to y)
one_less (pos m) (pos l) n k e q h = omega (arith, ints)
one_less (pos m) (negsuc l) n k e q h = absurd (omega (arith, ints))
one_less (negsuc m) y n k e q h = absurd (omega (arith, ints))

-- two values of one expression are one
same_number : (n n' : ℤ) → Some (num n) ≡ Some (num n') → n ≡ n'
same_number n n' e = cc

module _ (P : ℤ → Part) (n k : ℤ) where
  pieces_end : n ≤ℤ k → (a b : ℕ) (S : Shows) → Pieces P (count_to (n -ℤ k)) k a b S ≡ ((a ≡ b) × (S ≡ blank))
  pieces_end l a b S = ap (λ m. Pieces P m k a b S) (none_left (n -ℤ k) n k refl l)

  pieces_turn : k <ℤ n → (a b : ℕ) (S : Shows) → Pieces P (count_to (n -ℤ k)) k a b S ≡ Pieces P (suc (count_to (n -ℤ (k +ℤ pos 1)))) k a b S
  pieces_turn l a b S = ap (λ m. Pieces P m k a b S) (one_less (n -ℤ k) (n -ℤ (k +ℤ pos 1)) n k refl refl l)

  together_end : n ≤ℤ k → (a b : ℕ) (S : Shows) → Together P (count_to (n -ℤ k)) k a b S ≡ (S ≡ blank)
  together_end l a b S = ap (λ m. Together P m k a b S) (none_left (n -ℤ k) n k refl l)

  together_go : k <ℤ n → (a b : ℕ) (S : Shows) → Together P (count_to (n -ℤ k)) k a b S ≡ Together P (suc (count_to (n -ℤ (k +ℤ pos 1)))) k a b S
  together_go l a b S = ap (λ m. Together P m k a b S) (one_less (n -ℤ k) (n -ℤ (k +ℤ pos 1)) n k refl refl l)

module _ (w : Context) (d : ℕ) (env : Env) (s : Course) (a b : ℕ) (S : Shows) (f : FormulaTree) (k n : ℤ) where
  abbrev With : ℤ → Part
  With v = Holds w d f (env ++ fixed (num v) ∷ []) s

  -- with the number that e has
  pieces_known : (e : ExprTree) → ValueIs w d env s e a (num n) → (name : List ℕ) → Holds w d (for_from name k e f) env s a b S → Pieces With (count_to (n -ℤ k)) k a b S
  pieces_known e v name h = subst (λ (m : ℤ). Pieces With (count_to (m -ℤ k)) k a b S) (same_number h.0 n (sym h.1 ∙ v)) h.2

  together_known : (e : ExprTree) → ValueIs w d env s e a (num n) → (name : List ℕ) → Holds w d (forall_from name k e f) env s a b S → Together With (count_to (n -ℤ k)) k a b S
  together_known e v name h = subst (λ (m : ℤ). Together With (count_to (m -ℤ k)) k a b S) (same_number h.0 n (sym h.1 ∙ v)) h.2

by_equal : {A B C : Type 0} → B ≡ C → (A → B) → (B → A) → A ↔ C
by_equal e to from = ((λ h. subst (λ T. T) e (to h)), (λ g. from (subst (λ T. T) (sym e) g)))

pub for_unfolds : (name : List ℕ) (k : ℤ) (e : ExprTree) (f : FormulaTree) (n : ℤ) → ForUnfolds name k e f n
for_unfolds name k e f n = record {
  ends = λ l w d env s a b S le v. by_equal (pieces_end (With w d env s a b S f k n) n k l a b S) (pieces_known w d env s a b S f k n e v name) (λ g. (n, v, g));
  turns = λ l w d env s a b S le v. (
    (λ h. let r = subst (λ T. T) (pieces_turn (With w d env s a b S f k n) n k l a b S) (pieces_known w d env s a b S f k n e v name h) in
        (r.0, r.1, r.2, r.3, r.4, r.5, (n, refl, r.6), r.7)),
    (λ g. let rest = pieces_known w d env s g.0 b g.2 f (k +ℤ pos 1) n (numeral n) refl name g.6 in
        (n, v, subst (λ T. T) (sym (pieces_turn (With w d env s a b S f k n) n k l a b S)) (g.0, g.1, g.2, g.3, g.4, g.5, rest, g.7))),
  );
}

pub forall_unfolds : (name : List ℕ) (k : ℤ) (e : ExprTree) (f : FormulaTree) (n : ℤ) → ForallUnfolds name k e f n
forall_unfolds name k e f n = record {
  ends = λ l w d env s a b S le v. by_equal (together_end (With w d env s a b S f k n) n k l a b S) (together_known w d env s a b S f k n e v name) (λ g. (n, v, g));
  goes = λ l w d env s a b S le v. (
    (λ h. let r = subst (λ T. T) (together_go (With w d env s a b S f k n) n k l a b S) (together_known w d env s a b S f k n e v name h) in
        (r.0, r.1, r.2, (n, refl, r.3), r.4)),
    (λ g. let rest = together_known w d env s a b g.1 f (k +ℤ pos 1) n (numeral n) refl name g.3 in
        (n, v, subst (λ T. T) (sym (together_go (With w d env s a b S f k n) n k l a b S)) (g.0, g.1, g.2, rest, g.4))),
  );
}

same_length : (m n : ℕ) → Some (num (pos m)) ≡ Some (num (pos n)) → m ≡ n
same_length m n e = cc

pub len_unfolds : (e : ExprTree) → LenUnfolds e
len_unfolds e = record {
  ends = λ w d env s a b S le v. (
    (λ h. let m = same_length h.0 0 (sym h.1 ∙ v) in let e = h.2 in (omega arith, h.3)),
    (λ g. let e = g.0 in (0, v, omega arith, g.1)),
  );
  goes = λ k w d env s a b S le v. (
    (λ h. let m = same_length h.0 (suc k) (sym h.1 ∙ v) in let e = h.2 in (omega arith, (k, refl, omega arith, h.3))),
    (λ g. let m = same_length k g.1.0 g.1.1 in let e = g.1.2 in (suc k, v, omega arith, g.1.3)),
  );
}

-- under so many `next`, an equation with a known value
module _ (w : Context) (d : ℕ) (env : Env) (s : Course) (t : ExprTree) (v : Tree) where
  nexts_there : (n a b : ℕ) (S : Shows) → n + a ≤ b → ValueIs w d env s t (n + a) v → S ≡ blank → Holds w d (nexts n (equation t (known v))) env s a b S
  nexts_there zero a b S l h is = (v, (let e : 0 + a ≡ a = omega arith in subst (λ (i : ℕ). ValueIs w d env s t i v) e h), refl, is)
  nexts_there (suc n) a b S l h is = (
    omega arith,
    nexts_there n (suc a) b S (omega arith) (let e : suc n + a ≡ n + suc a = omega arith in subst (λ (i : ℕ). ValueIs w d env s t i v) e h) is,
  )

  nexts_back : (n a b : ℕ) (S : Shows) → a ≤ b → Holds w d (nexts n (equation t (known v))) env s a b S → (n + a ≤ b) × ValueIs w d env s t (n + a) v × (S ≡ blank)
  nexts_back zero a b S l h = (
    omega arith,
    (let e : a ≡ 0 + a = omega arith in subst (λ (i : ℕ). ValueIs w d env s t i v) e (h.1 ∙ sym h.2)),
    h.3,
  )
  nexts_back (suc n) a b S l h = let r = nexts_back n (suc a) b S h.0 h.1 in let q = r.0 in (
    omega arith,
    (let e : n + suc a ≡ suc n + a = omega arith in subst (λ (i : ℕ). ValueIs w d env s t i v) e r.1),
    r.2,
  )

pub next_equation_unfolds : NextEquationUnfolds
next_equation_unfolds n t e v w d env s a b S le has = (
  (λ h. nexts_there w d env s t v n a b S h.1 (h.2 ∙ sym h.3 ∙ has) h.4),
  (λ g. let r = nexts_back w d env s t v n a b S le g in (v, r.0, r.1, has, r.2)),
)

pub assign_unfolds : AssignUnfolds
unfolding Means
assign_unfolds t e v w d env s a b S le has = let fin = fin_means (equation t (known v)) w d env s a b S le in (
  (λ h. fin.1 (v, h.1 ∙ sym h.2 ∙ has, refl, h.3)),
  (λ g. let r = fin.0 g in (v, r.1 ∙ sym r.2, has, r.3)),
)

pub input_unfolds : InputUnfolds
input_unfolds x port v w d env s a b S has = (
  (λ h. (v, h.2 ∙ sym h.1 ∙ has, refl, h.3)),
  (λ g. (v, has, g.1 ∙ sym g.2, g.3)),
)
