-- Where a verdict is undecided, the outcome of one of the formula's expressions is no value and no fault.
use Rattle.std.proofs.Common.{◌≡◌, ℕ, zero, suc, ◌+◌, ◌-◌, ◌≤◌, ◌<◌, ◌⊎◌, inl, inr, Bool, true, false, eqb, nat_le, nat_lt, refl, arith, if◌then◌else◌}
use Rattle.std.proofs.lemmas.Bool.{eqb-false, ltb-true, leb-true}
use Rattle.tp_value.specs.Tree.{Tree, same_tree, truth}
use Rattle.tp_meaning.specs.Syntax.{ExprTree}
use Rattle.tp_eval.specs.Outcome.{Outcome, value, wait, fault, over}
use Rattle.tp_verdict.specs.Wide.{WideTree, WideTrees, IsExprOf, IsExprOfSome, trivial, test, equation, next_equation, empty, more, next, if_more, if_empty, always, conjunction, branch, len, assign, chop, while, disjunction, negation, sometimes, no_formula, formula_then}
use Rattle.tp_verdict.specs.Verdict.{Verdict, yes, no, undecided, of_truth, both_of, one_of, opposite_of, all_from, some_from, value_verdict, equality_verdict}
use Rattle.tp_verdict.specs.Trace.{looped, has_in, verdict, all_verdicts}
use Rattle.tp_verdict.specs.VerdictLaws.{StaysOpen}

both_open : (u v : Verdict) → both_of u v ≡ undecided → (u ≡ undecided) ⊎ (v ≡ undecided)
both_open yes v e = inr e
both_open no v e = absurd (cc)
both_open undecided v e = inl refl

one_open : (u v : Verdict) → one_of u v ≡ undecided → (u ≡ undecided) ⊎ (v ≡ undecided)
one_open yes v e = absurd (cc)
one_open no v e = inr e
one_open undecided v e = inl refl

opposite_open : (v : Verdict) → opposite_of v ≡ undecided → v ≡ undecided
opposite_open yes e = absurd (cc)
opposite_open no e = absurd (cc)
opposite_open undecided e = refl

truth_decided : (b : Bool) → of_truth b ≡ undecided → ⊥
truth_decided true e = absurd (cc)
truth_decided false e = absurd (cc)

if_open : (b : Bool) (u v : Verdict) {X : Type 0} → (b ≡ true → u ≡ undecided → X) → (b ≡ false → v ≡ undecided → X) → (if b then u else v) ≡ undecided → X
if_open true u v h k e = h refl e
if_open false u v h k e = k refl e

decided : {X : Type 0} (v : Verdict) → (v ≡ undecided → ⊥) → v ≡ undecided → X
decided v h e = absurd (h e)

yes_decided : yes ≡ undecided → ⊥
yes_decided e = absurd (cc)

no_decided : no ≡ undecided → ⊥
no_decided e = absurd (cc)

all_open : (f : ℕ → Verdict) (m k : ℕ) → all_from m k f ≡ undecided → (i : ℕ) × (k ≤ i) × (i < m + k) × (f i ≡ undecided)
all_open f zero k e = absurd (yes_decided e)
all_open f (suc m) k e = elim (both_open (f k) (all_from m (suc k) f) e) [ inl x ↦ (k, omega arith, omega arith, x) | inr x ↦ (let r = all_open f m (suc k) x in let l = r.1 in let u = r.2 in (r.0, omega (arith, l), omega (arith, u), r.3)) ]

some_open : (f : ℕ → Verdict) (m k : ℕ) → some_from m k f ≡ undecided → (i : ℕ) × (k ≤ i) × (i < m + k) × (f i ≡ undecided)
some_open f zero k e = absurd (no_decided e)
some_open f (suc m) k e = elim (one_open (f k) (some_from m (suc k) f) e) [ inl x ↦ (k, omega arith, omega arith, x) | inr x ↦ (let r = some_open f m (suc k) x in let l = r.1 in let u = r.2 in (r.0, omega (arith, l), omega (arith, u), r.3)) ]

value_open : (o : Outcome) (v : Tree) → value_verdict o v ≡ undecided → StaysOpen o
value_open (value t) v e = absurd (truth_decided (same_tree t v) e)
value_open (wait p) v e = tt
value_open (fault k) v e = absurd (no_decided e)
value_open (over k) v e = tt

equality_open : (o p : Outcome) → equality_verdict o p ≡ undecided → StaysOpen o ⊎ StaysOpen p
equality_open (value t) p e = inr (value_open p t e)
equality_open (wait q) p e = inl tt
equality_open (fault k) p e = absurd (no_decided e)
equality_open (over k) p e = inl tt

module _ (found : ℕ → ExprTree → Outcome) where
  -- an expression with P is open in some state from i to j
  abbrev pub Open : (ExprTree → Type 0) → ℕ → ℕ → Type 0
  Open P i j = (e : ExprTree) × P e × (k : ℕ) × (i ≤ k) × (k ≤ j) × StaysOpen (found k e)

  wider : {P Q : ExprTree → Type 0} (i j i' j' : ℕ) → i' ≤ i → j ≤ j' → ((e : ExprTree) → P e → Q e) → Open P i j → Open Q i' j'
  wider i j i' j' l u f (e, p, k, lo, hi, o) = (e, f e p, k, omega (arith, l, lo), omega (arith, u, hi), o)

  here : {P : ExprTree → Type 0} (e : ExprTree) → P e → (k i j : ℕ) → i ≤ k → k ≤ j → StaysOpen (found k e) → Open P i j
  here e p k i j lo hi o = (e, p, k, lo, hi, o)

  module _ (e : ExprTree) (w : WideTree) (body : (i j : ℕ) → i ≤ j → verdict found w i j ≡ undecided → Open (IsExprOf w) i j) where
    abbrev at_most : ℕ → ℕ → ℕ → Verdict
    at_most = looped (λ k. has_in found k e (truth true)) (λ k. has_in found k e (truth false)) (verdict found w)

    condition_open : (b : Bool) (i j : ℕ) → i ≤ j → has_in found i e (truth b) ≡ undecided → Open (IsExprOf (while e w)) i j
    condition_open b i j l q = here e (inl refl) i i j (omega arith) l (value_open (found i e) (truth b) q)

    loop_open : (m i j : ℕ) → i ≤ j → at_most m i j ≡ undecided → Open (IsExprOf (while e w)) i j
    loop_open zero i j l q = if_open (eqb i j) _ no (λ c x. condition_open false i j l x) (λ c x. absurd (no_decided x)) q
    loop_open (suc m) i j l q = if_open (eqb i j) _ _ (λ c x. condition_open false i j l x)
        (λ c x. elim (both_open _ _ x) [
          | inl y ↦ condition_open true i j l y
          | inr y ↦ (let ne = eqb-false i j c in let r = some_open (λ k. both_of (verdict found w i k) (at_most m k j)) (j - i) (suc i) y in
              let lo = r.1 in let hi = r.2 in
              elim (both_open _ _ r.3) [
                | inl z ↦ wider i r.0 i j (omega arith) (omega (arith, l, ne, lo, hi)) (λ x p. inr p) (body i r.0 (omega (arith, lo)) z)
                | inr z ↦ wider r.0 j i j (omega (arith, lo)) (omega arith) (λ x p. p) (loop_open m r.0 j (omega (arith, l, ne, lo, hi)) z)
              ])
        ]) q

  mutual
    pub open_by : (w : WideTree) (i j : ℕ) → i ≤ j → verdict found w i j ≡ undecided → Open (IsExprOf w) i j
    open_by trivial i j l q = absurd (yes_decided q)
    open_by (test e) i j l q = here e refl i i j (omega arith) l (value_open (found i e) _ q)
    open_by (equation e x) i j l q = elim (equality_open (found i e) (found i x) q) [ inl y ↦ here e (inl refl) i i j (omega arith) l y | inr y ↦ here x (inr refl) i i j (omega arith) l y ]
    open_by (next_equation k t e) i j l q = if_open (nat_le (k + i) j) _ no
        (λ c x. let n = leb-true (k + i) j c in elim (equality_open (found (k + i) t) (found i e) x) [ inl y ↦ here t (inl refl) (k + i) i j (omega arith) n y | inr y ↦ here e (inr refl) i i j (omega arith) l y ])
        (λ c x. absurd (no_decided x)) q
    open_by empty i j l q = absurd (truth_decided (eqb i j) q)
    open_by more i j l q = absurd (truth_decided (nat_lt i j) q)
    open_by (next w) i j l q = if_open (nat_lt i j) _ no (λ c x. let n = ltb-true i j c in wider (suc i) j i j (omega arith) (omega arith) (λ e p. p) (open_by w (suc i) j n x)) (λ c x. absurd (no_decided x)) q
    open_by (if_more w) i j l q = if_open (nat_lt i j) _ yes (λ c x. open_by w i j l x) (λ c x. absurd (yes_decided x)) q
    open_by (if_empty w) i j l q = if_open (nat_lt i j) yes _ (λ c x. absurd (yes_decided x)) (λ c x. open_by w i j l x) q
    open_by (always w) i j l q = let r = all_open (λ k. verdict found w k j) (suc j - i) i q in let lo = r.1 in let hi = r.2 in
        wider r.0 j i j lo (omega arith) (λ e p. p) (open_by w r.0 j (omega (arith, l, lo, hi)) r.3)
    open_by (conjunction ws) i j l q = all_open_by ws i j l q
    open_by (branch e w v) i j l q =
        let yes_side = has_in found i e (truth true) in
        let no_side = has_in found i e (truth false) in
        elim (one_open (both_of yes_side (verdict found w i j)) (both_of no_side (verdict found v i j)) q) [
          | inl x ↦ elim (both_open yes_side (verdict found w i j) x) [ inl y ↦ here e (inl refl) i i j (omega arith) l (value_open (found i e) (truth true) y) | inr y ↦ wider i j i j (omega arith) (omega arith) (λ z p. inr (inl p)) (open_by w i j l y) ]
          | inr x ↦ elim (both_open no_side (verdict found v i j) x) [ inl y ↦ here e (inl refl) i i j (omega arith) l (value_open (found i e) (truth false) y) | inr y ↦ wider i j i j (omega arith) (omega arith) (λ z p. inr (inr p)) (open_by v i j l y) ]
        ]
    open_by (len e) i j l q = here e refl i i j (omega arith) l (value_open (found i e) _ q)
    open_by (assign t e) i j l q = elim (equality_open (found j t) (found i e) q) [ inl y ↦ here t (inl refl) j i j l (omega arith) y | inr y ↦ here e (inr refl) i i j (omega arith) l y ]
    open_by (chop w v) i j l q = let r = some_open (λ k. both_of (verdict found w i k) (verdict found v k j)) (suc j - i) i q in let lo = r.1 in let hi = r.2 in
        elim (both_open (verdict found w i r.0) (verdict found v r.0 j) r.3) [
          | inl x ↦ wider i r.0 i j (omega arith) (omega (arith, l, lo, hi)) (λ e p. inl p) (open_by w i r.0 lo x)
          | inr x ↦ wider r.0 j i j lo (omega arith) (λ e p. inr p) (open_by v r.0 j (omega (arith, l, lo, hi)) x)
        ]
    open_by (while e w) i j l q = loop_open e w (open_by w) (j - i) i j l q
    open_by (disjunction w v) i j l q = elim (one_open (verdict found w i j) (verdict found v i j) q) [ inl x ↦ wider i j i j (omega arith) (omega arith) (λ e p. inl p) (open_by w i j l x) | inr x ↦ wider i j i j (omega arith) (omega arith) (λ e p. inr p) (open_by v i j l x) ]
    open_by (negation w) i j l q = open_by w i j l (opposite_open (verdict found w i j) q)
    open_by (sometimes w) i j l q = let r = some_open (λ k. verdict found w k j) (suc j - i) i q in let lo = r.1 in let hi = r.2 in
        wider r.0 j i j lo (omega arith) (λ e p. p) (open_by w r.0 j (omega (arith, l, lo, hi)) r.3)

    all_open_by : (ws : WideTrees) (i j : ℕ) → i ≤ j → all_verdicts found ws i j ≡ undecided → Open (IsExprOfSome ws) i j
    all_open_by no_formula i j l q = absurd (yes_decided q)
    all_open_by (formula_then w ws) i j l q = elim (both_open (verdict found w i j) (all_verdicts found ws i j) q) [ inl x ↦ wider i j i j (omega arith) (omega arith) (λ e p. inl p) (open_by w i j l x) | inr x ↦ wider i j i j (omega arith) (omega arith) (λ e p. inr p) (all_open_by ws i j l x) ]
