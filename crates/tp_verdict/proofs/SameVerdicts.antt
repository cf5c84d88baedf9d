-- A verdict depends on the outcomes in the states of its part alone.
use Rattle.std.proofs.Common.{◌≡◌, pos, ℕ, zero, suc, ◌+◌, ◌-◌, ◌≤◌, ◌<◌, Bool, true, false, eqb, nat_le, nat_lt, refl, ap, ap₂, arith, if◌then◌else◌}
use Rattle.std.proofs.lemmas.Bool.{eqb-false, ltb-true, leb-true}
use Rattle.tp_value.specs.Tree.{num, truth}
use Rattle.tp_meaning.specs.Syntax.{ExprTree}
use Rattle.tp_eval.specs.Outcome.{Outcome}
use Rattle.tp_verdict.specs.Wide.{WideTree, WideTrees, trivial, test, equation, next_equation, empty, more, next, if_more, if_empty, always, conjunction, branch, len, assign, chop, while, disjunction, negation, sometimes, no_formula, formula_then}
use Rattle.tp_verdict.specs.Verdict.{Verdict, yes, no, both_of, one_of, opposite_of, all_from, some_from, value_verdict, equality_verdict}
use Rattle.tp_verdict.specs.Trace.{looped, has_in, verdict, all_verdicts}

all_alike : (u v : ℕ → Verdict) (m k : ℕ) → ((i : ℕ) → k ≤ i → i < m + k → u i ≡ v i) → all_from m k u ≡ all_from m k v
all_alike u v zero k h = refl
all_alike u v (suc m) k h = ap₂ both_of (h k (omega arith) (omega arith)) (all_alike u v m (suc k) (λ i l r. h i (omega arith) (omega arith)))

some_alike : (u v : ℕ → Verdict) (m k : ℕ) → ((i : ℕ) → k ≤ i → i < m + k → u i ≡ v i) → some_from m k u ≡ some_from m k v
some_alike u v zero k h = refl
some_alike u v (suc m) k h = ap₂ one_of (h k (omega arith) (omega arith)) (some_alike u v m (suc k) (λ i l r. h i (omega arith) (omega arith)))

if_alike : (b : Bool) (x x' y y' : Verdict) → (b ≡ true → x ≡ x') → (b ≡ false → y ≡ y') → (if b then x else y) ≡ (if b then x' else y')
if_alike true x x' y y' h k = h refl
if_alike false x x' y y' h k = k refl

module _ (f g : ℕ → ExprTree → Outcome) where
  -- the same outcomes in the states from i to j
  abbrev SameFrom : ℕ → ℕ → Type 0
  SameFrom i j = (k : ℕ) → i ≤ k → k ≤ j → f k ≡ g k

  module _ (e : ExprTree) (w : WideTree) (body : (i j : ℕ) → i ≤ j → SameFrom i j → verdict f w i j ≡ verdict g w i j) where
    abbrev turns_of : (ℕ → ExprTree → Outcome) → ℕ → ℕ → ℕ → Verdict
    turns_of found = looped (λ k. has_in found k e (truth true)) (λ k. has_in found k e (truth false)) (verdict found w)

    condition_alike : (b : Bool) (i j : ℕ) → i ≤ j → SameFrom i j → has_in f i e (truth b) ≡ has_in g i e (truth b)
    condition_alike b i j l s = ap (λ o. value_verdict (o e) (truth b)) (s i (omega arith) l)

    loop_alike : (m i j : ℕ) → i ≤ j → SameFrom i j → turns_of f m i j ≡ turns_of g m i j
    loop_alike zero i j l s = if_alike (eqb i j) _ _ no no (λ c. condition_alike false i j l s) (λ c. refl)
    loop_alike (suc m) i j l s = if_alike (eqb i j) _ _ _ _ (λ c. condition_alike false i j l s)
        (λ c. let ne = eqb-false i j c in
        ap₂ both_of (condition_alike true i j l s)
        (some_alike (λ k. both_of (verdict f w i k) (turns_of f m k j)) (λ k. both_of (verdict g w i k) (turns_of g m k j)) (j - i) (suc i) (λ k lo hi.
        let last : k ≤ j = omega (arith, l, ne, lo, hi) in
        ap₂ both_of (body i k (omega (arith, lo)) (λ n a b. s n a (omega (arith, b, last)))) (loop_alike m k j last (λ n a b. s n (omega (arith, a, lo)) b)))))

  mutual
    pub verdicts_alike : (w : WideTree) (i j : ℕ) → i ≤ j → SameFrom i j → verdict f w i j ≡ verdict g w i j
    verdicts_alike trivial i j l s = refl
    verdicts_alike (test e) i j l s = ap (λ o. value_verdict (o e) (truth true)) (s i (omega arith) l)
    verdicts_alike (equation e x) i j l s = ap (λ o. equality_verdict (o e) (o x)) (s i (omega arith) l)
    verdicts_alike (next_equation k t e) i j l s = if_alike (nat_le (k + i) j) _ _ no no
        (λ c. let n = leb-true (k + i) j c in ap₂ (λ o p. equality_verdict (o t) (p e)) (s (k + i) (omega arith) n) (s i (omega arith) l)) (λ c. refl)
    verdicts_alike empty i j l s = refl
    verdicts_alike more i j l s = refl
    verdicts_alike (next w) i j l s = if_alike (nat_lt i j) _ _ no no (λ c. let n = ltb-true i j c in verdicts_alike w (suc i) j n (λ k a b. s k (omega (arith, a)) b)) (λ c. refl)
    verdicts_alike (if_more w) i j l s = if_alike (nat_lt i j) _ _ yes yes (λ c. verdicts_alike w i j l s) (λ c. refl)
    verdicts_alike (if_empty w) i j l s = if_alike (nat_lt i j) yes yes _ _ (λ c. refl) (λ c. verdicts_alike w i j l s)
    verdicts_alike (always w) i j l s = all_alike (λ k. verdict f w k j) (λ k. verdict g w k j) (suc j - i) i
        (λ k lo hi. verdicts_alike w k j (omega (arith, l, lo, hi)) (λ n a b. s n (omega (arith, a, lo)) b))
    verdicts_alike (conjunction ws) i j l s = each_alike ws i j l s
    verdicts_alike (branch e w v) i j l s =
        let o = s i (omega arith) l in
        ap₂ one_of (ap₂ both_of (ap (λ o. value_verdict (o e) (truth true)) o) (verdicts_alike w i j l s))
        (ap₂ both_of (ap (λ o. value_verdict (o e) (truth false)) o) (verdicts_alike v i j l s))
    verdicts_alike (len e) i j l s = ap (λ o. value_verdict (o e) (num (pos (j - i)))) (s i (omega arith) l)
    verdicts_alike (assign t e) i j l s = ap₂ (λ o p. equality_verdict (o t) (p e)) (s j l (omega arith)) (s i (omega arith) l)
    verdicts_alike (chop w v) i j l s = some_alike (λ k. both_of (verdict f w i k) (verdict f v k j)) (λ k. both_of (verdict g w i k) (verdict g v k j)) (suc j - i) i
        (λ k lo hi. let last : k ≤ j = omega (arith, l, lo, hi) in
        ap₂ both_of (verdicts_alike w i k lo (λ n a b. s n a (omega (arith, b, last)))) (verdicts_alike v k j last (λ n a b. s n (omega (arith, a, lo)) b)))
    verdicts_alike (while e w) i j l s = loop_alike e w (verdicts_alike w) (j - i) i j l s
    verdicts_alike (disjunction w v) i j l s = ap₂ one_of (verdicts_alike w i j l s) (verdicts_alike v i j l s)
    verdicts_alike (negation w) i j l s = ap opposite_of (verdicts_alike w i j l s)
    verdicts_alike (sometimes w) i j l s = some_alike (λ k. verdict f w k j) (λ k. verdict g w k j) (suc j - i) i
        (λ k lo hi. verdicts_alike w k j (omega (arith, l, lo, hi)) (λ n a b. s n (omega (arith, a, lo)) b))

    each_alike : (ws : WideTrees) (i j : ℕ) → i ≤ j → SameFrom i j → all_verdicts f ws i j ≡ all_verdicts g ws i j
    each_alike no_formula i j l s = refl
    each_alike (formula_then w ws) i j l s = ap₂ both_of (verdicts_alike w i j l s) (each_alike ws i j l s)
