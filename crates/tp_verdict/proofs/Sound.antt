-- Verdicts on parts of a run are right, where outcomes are.
use Rattle.std.proofs.Common.{◌≡◌, pos, ℤ, ◌+ℤ◌, ℕ, zero, suc, ◌+◌, ◌-◌, ◌≤◌, ◌<◌, inl, inr, Bool, true, false, eqb, nat_le, nat_lt, refl, sym, ap, subst, arith}
use Rattle.std.proofs.lemmas.Bool.{eqb-true, eqb-false, ltb-true, ltb-false, leb-true, leb-false}
use Rattle.tp_value.specs.Tree.{Tree, num, truth}
use Rattle.tp_meaning.specs.Syntax.{ExprTree}
use Rattle.tp_meaning.specs.Course.{Course, Shows, Part, blank}
use Rattle.tp_meaning.specs.Holds.{Pieces}
use Rattle.tp_meaning.proofs.Shows.{total-of-blank}
use Rattle.tp_eval.specs.Outcome.{Outcome}
use Rattle.tp_verdict.specs.Wide.{IsExprOf, IsExprOfSome, WideTree, WideTrees, HasValue, Somehow, WideHolds, AllHoldWidely, trivial, test, equation, next_equation, empty, more, next, if_more, if_empty, always, conjunction, branch, len, assign, chop, while, disjunction, negation, sometimes, no_formula, formula_then}
use Rattle.tp_verdict.specs.Verdict.{Verdict, no, yes, both_of, equality_verdict}
use Rattle.tp_verdict.specs.Trace.{looped, has_in, verdict, all_verdicts}
use Rattle.tp_verdict.proofs.Judged.{Judged, as_yes, as_no, judged_as, both_judged, one_judged, opposite_judged, truth_judged, if_judged, all_judged, some_judged, OutcomeSays, value_judged, HaveOneValue, equality_judged}

-- the numbers of pieces that don't use them
pieces_any : (P : Part) (m : ℕ) (k l : ℤ) (a b : ℕ) (S : Shows) → Pieces (λ _. P) m k a b S → Pieces (λ _. P) m l a b S
pieces_any P zero k l a b S h = h
pieces_any P (suc m) k l a b S h = (h.0, h.1, h.2, h.3, h.4, h.5, pieces_any P m (k +ℤ pos 1) (l +ℤ pos 1) h.0 b h.2 h.6, h.7)

-- State number i of the run is at position i + a.
module _ (s : Course) (a : ℕ) (found : ℕ → ExprTree → Outcome) (last : ℕ) where
  -- the outcomes of an expression are right in all states
  abbrev pub IsRight : ExprTree → Type 0
  IsRight e = (i : ℕ) → i ≤ last → OutcomeSays s (found i e) e (i + a)

  abbrev PartJudged : Verdict → Part → ℕ → ℕ → Type 0
  PartJudged v P i j = Judged v (P (i + a) (j + a) blank) (Somehow P (i + a) (j + a))

  abbrev pub Right : WideTree → ℕ → ℕ → Type 0
  Right w i j = PartJudged (verdict found w i j) (WideHolds w s) i j

  has_judged : (e : ExprTree) → IsRight e → (v : Tree) (i : ℕ) → i ≤ last → Judged (has_in found i e v) (HasValue e s (i + a) v) (HasValue e s (i + a) v)
  has_judged e right v i l = value_judged s (found i e) e (i + a) v (right i l)

  equal_judged : (e x : ExprTree) → IsRight e → IsRight x → (i j : ℕ) → i ≤ last → j ≤ last
      → Judged (equality_verdict (found i e) (found j x)) (HaveOneValue s e (i + a) x (j + a)) (HaveOneValue s e (i + a) x (j + a))
  equal_judged e x fe fx i j l u = equality_judged s (found i e) (found j x) e x (i + a) (j + a) (fe i l) (fx j u)

  -- the position of a state, by the position itself
  there : (p i : ℕ) → i + a ≤ p → (p - a) + a ≡ p
  there p i l = omega arith

  module _ (e : ExprTree) (w : WideTree) (fits : IsRight e) (body : (i j : ℕ) → i ≤ j → j ≤ last → Right w i j) where
    abbrev Turn : Part
    Turn i j T = (i < j) × HasValue e s i (truth true) × WideHolds w s i j T

    abbrev Loop : Part
    Loop = WideHolds (while e w) s

    abbrev Trues : ℕ → Verdict
    Trues i = has_in found i e (truth true)

    abbrev Falses : ℕ → Verdict
    Falses i = has_in found i e (truth false)

    abbrev at_most : ℕ → ℕ → ℕ → Verdict
    at_most = looped Trues Falses (verdict found w)

    at_end : (i j : ℕ) → i ≡ j → i ≤ last → PartJudged (Falses i) Loop i j
    at_end i j q l = let z : i + a ≡ j + a = ap (λ k. k + a) q in judged_as
        (λ h. (0, (z, refl), subst (λ k. HasValue e s k (truth false)) z h))
        (λ h. subst (λ k. HasValue e s k (truth false)) (sym z) h.1.2)
        (has_judged e fits (truth false) i l)

    -- a turn to state k, and the loop from there
    abbrev Onward : (strong : Bool) → ℕ → ℕ → ℕ → Type 0
    Onward true i j k = WideHolds w s (i + a) (k + a) blank × Loop (k + a) (j + a) blank
    Onward false i j k = Somehow (WideHolds w s) (i + a) (k + a) × Somehow Loop (k + a) (j + a)

    turned : (i j : ℕ) → HasValue e s (i + a) (truth true) × ((k : ℕ) × (suc i ≤ k) × (k < (j - i) + suc i) × Onward true i j k) → Loop (i + a) (j + a) blank
    turned i j (t, (k, l, u, (x, (n, ps, f)))) =
        (suc n, (k + a, blank, blank, omega (arith, l), omega (arith, l, u), (omega (arith, l), t, x), pieces_any Turn n (pos 0) (pos 0 +ℤ pos 1) (k + a) (j + a) blank ps, refl), f)

    turns : (i j : ℕ) → i < j → (T : Shows) → Loop (i + a) (j + a) T → HasValue e s (i + a) (truth true) × ((k : ℕ) × (suc i ≤ k) × (k < (j - i) + suc i) × Onward false i j k)
    turns i j l T (zero, (q, z), f) = absurd (omega (arith, l, q))
    turns i j l T (suc n, (p, U, V, lo, hi, (m, t, x), ps, z), f) = let y : p ≡ (p - a) + a = omega (arith, m) in (
      t,
      (
        p - a,
        omega (arith, m),
        omega (arith, l, hi, m),
        (
          (U, subst (λ k. WideHolds w s (i + a) k U) y x),
          (V, subst (λ k. Loop k (j + a) V) y (n, pieces_any Turn n (pos 0 +ℤ pos 1) (pos 0) p (j + a) V ps, f)),
        ),
      ),
    )

    pub loop_right : (m i j : ℕ) → i ≤ j → j ≤ last → j ≤ m + i → PartJudged (at_most m i j) Loop i j
    loop_right zero i j l u r = if_judged (eqb i j) (Falses i) no (λ q. at_end i j (eqb-true i j q) (omega (arith, l, u))) (λ q. absurd (eqb-false i j q (omega (arith, l, r))))
    loop_right (suc m) i j l u r = if_judged (eqb i j) (Falses i) _ (λ q. at_end i j (eqb-true i j q) (omega (arith, l, u)))
        (λ q. let ne = eqb-false i j q in let lt : i < j = omega (arith, l, ne) in
        judged_as (turned i j) (λ h. turns i j lt h.0 h.1)
        (both_judged (Trues i) _ (has_judged e fits (truth true) i (omega (arith, l, u)))
        (some_judged (λ k. both_of (verdict found w i k) (at_most m k j)) (Onward true i j) (Onward false i j) (j - i) (suc i)
        (λ k lo hi. both_judged (verdict found w i k) (at_most m k j) (body i k (omega (arith, lo)) (omega (arith, lo, hi, u))) (loop_right m k j (omega (arith, lo, hi)) u (omega (arith, lo, r)))))))

  mutual
    pub sound : (w : WideTree) → ((e : ExprTree) → IsExprOf w e → IsRight e) → (i j : ℕ) → i ≤ j → j ≤ last → Right w i j
    sound trivial right i j l u = as_yes refl
    sound (test e) right i j l u = judged_as (λ h. (h, refl)) (λ q. q.1.0) (has_judged e (right e refl) (truth true) i (omega (arith, l, u)))
    sound (equation e x) right i j l u = judged_as (λ h. (h.0, h.1, h.2, refl)) (λ q. (q.1.0, q.1.1, q.1.2)) (equal_judged e x (right e (inl refl)) (right x (inr refl)) i i (omega (arith, l, u)) (omega (arith, l, u)))
    sound (next_equation k t e) right i j l u = let z : (k + i) + a ≡ k + (i + a) = omega arith in
        if_judged (nat_le (k + i) j) _ no
        (λ c. let n = leb-true (k + i) j c in judged_as
        (λ h. (h.0, omega (arith, n), subst (λ x. HasValue t s x h.0) z h.1, h.2, refl))
        (λ q. (q.1.0, subst (λ x. HasValue t s x q.1.0) (sym z) q.1.2, q.1.3))
        (equal_judged t e (right t (inl refl)) (right e (inr refl)) (k + i) i (omega (arith, n, u)) (omega (arith, l, u))))
        (λ c. as_no (λ q. let n = leb-false (k + i) j c in let m = q.1.1 in absurd (omega (arith, n, m))))
    sound empty right i j l u = truth_judged (eqb i j) (λ c. (ap (λ k. k + a) (eqb-true i j c), refl)) (λ c q. let n = q.1.0 in eqb-false i j c (omega (arith, n)))
    sound more right i j l u = truth_judged (nat_lt i j) (λ c. let n = ltb-true i j c in (omega (arith, n), refl)) (λ c q. let n = q.1.0 in let m = ltb-false i j c in absurd (omega (arith, n, m)))
    sound (next w) right i j l u = if_judged (nat_lt i j) _ no
        (λ c. let n = ltb-true i j c in let z : suc i + a ≡ suc (i + a) = omega arith in judged_as (λ h. (omega (arith, n), h)) (λ q. (q.0, q.1.1))
        (subst (λ x. Judged (verdict found w (suc i) j) (WideHolds w s x (j + a) blank) (Somehow (WideHolds w s) x (j + a))) z (sound w right (suc i) j n u)))
        (λ c. as_no (λ q. let n = q.1.0 in let m = ltb-false i j c in absurd (omega (arith, n, m))))
    sound (if_more w) right i j l u = if_judged (nat_lt i j) _ yes
        (λ c. let n = ltb-true i j c in judged_as (λ h. inr (omega (arith, n), h)) (λ q. elim q.1 [ inl z ↦ (let m = z.0 in absurd (omega (arith, n, m))) | inr z ↦ (q.0, z.1) ]) (sound w right i j l u))
        (λ c. let m = ltb-false i j c in as_yes (inl (omega (arith, l, m), refl)))
    sound (if_empty w) right i j l u = if_judged (nat_lt i j) yes _
        (λ c. let n = ltb-true i j c in as_yes (inl (omega (arith, n), refl)))
        (λ c. let n = ltb-false i j c in judged_as (λ h. inr (omega (arith, l, n), h)) (λ q. elim q.1 [ inl z ↦ (let m = z.0 in absurd (omega (arith, n, m))) | inr z ↦ (q.0, z.1) ]) (sound w right i j l u))
    sound (always w) right i j l u = judged_as
        (λ h. (suc j - i, (λ _. blank), omega (arith, l), (λ p x y. let z : (p - a) + a ≡ p = omega (arith, x) in subst (λ k. WideHolds w s k (j + a) blank) z (h (p - a) (omega (arith, x)) (omega (arith, x, y)))), sym (total-of-blank (suc j - i) (i + a))))
        (λ q k x y. (q.1.1 (k + a), q.1.3 (k + a) (omega (arith, x)) (omega (arith, x, y, l))))
        (all_judged (λ k. verdict found w k j) (λ k. WideHolds w s (k + a) (j + a) blank) (λ k. Somehow (WideHolds w s) (k + a) (j + a)) (suc j - i) i
        (λ k x y. sound w right k j (omega (arith, x, y, l)) u))
    sound (conjunction ws) right i j l u = all_sound ws right i j l u
    sound (branch e w v) right i j l u = judged_as (λ h. h) (λ q. elim q.1 [ inl z ↦ inl (z.0, (q.0, z.1)) | inr z ↦ inr (z.0, (q.0, z.1)) ])
        (one_judged _ _
        (both_judged _ _ (has_judged e (right e (inl refl)) (truth true) i (omega (arith, l, u))) (sound w (λ x y. right x (inr (inl y))) i j l u))
        (both_judged _ _ (has_judged e (right e (inl refl)) (truth false) i (omega (arith, l, u))) (sound v (λ x y. right x (inr (inr y))) i j l u)))
    sound (len e) right i j l u = judged_as (λ h. (j - i, h, omega (arith, l), refl))
        (λ q. let n = q.1.2 in let z : q.1.0 ≡ j - i = omega (arith, l, n) in subst (λ k. HasValue e s (i + a) (num (pos k))) z q.1.1)
        (has_judged e (right e refl) (num (pos (j - i))) i (omega (arith, l, u)))
    sound (assign t e) right i j l u = judged_as (λ h. (h.0, h.1, h.2, refl)) (λ q. (q.1.0, q.1.1, q.1.2)) (equal_judged t e (right t (inl refl)) (right e (inr refl)) j i u (omega (arith, l, u)))
    sound (chop w v) right i j l u = judged_as
        (λ (k, x, y, (h, g)). (k + a, blank, blank, omega (arith, x), omega (arith, x, y, l), h, g, refl))
        (λ (S, (p, T, U, lo, hi, h, g, z)). let y : p ≡ (p - a) + a = omega (arith, lo) in
        (p - a, omega (arith, lo), omega (arith, lo, hi, l), ((T, subst (λ k. WideHolds w s (i + a) k T) y h), (U, subst (λ k. WideHolds v s k (j + a) U) y g))))
        (some_judged (λ k. both_of (verdict found w i k) (verdict found v k j))
        (λ k. WideHolds w s (i + a) (k + a) blank × WideHolds v s (k + a) (j + a) blank)
        (λ k. Somehow (WideHolds w s) (i + a) (k + a) × Somehow (WideHolds v s) (k + a) (j + a)) (suc j - i) i
        (λ k x y. both_judged _ _ (sound w (λ x y. right x (inl y)) i k x (omega (arith, x, y, l, u))) (sound v (λ x y. right x (inr y)) k j (omega (arith, x, y, l)) u)))
    sound (while e w) right i j l u = loop_right e w (right e (inl refl)) (sound w (λ x y. right x (inr y))) (j - i) i j l u (omega (arith, l))
    sound (disjunction w v) right i j l u = judged_as (λ h. (elim h [ inl x ↦ inl (blank, x) | inr x ↦ inr (blank, x) ], refl)) (λ q. q.1.0)
        (one_judged _ _ (sound w (λ x y. right x (inl y)) i j l u) (sound v (λ x y. right x (inr y)) i j l u))
    sound (negation w) right i j l u = judged_as (λ h. (h, refl)) (λ q b. q.1.0 (blank, b)) (opposite_judged _ (sound w right i j l u))
    sound (sometimes w) right i j l u = judged_as
        (λ (k, x, y, h). ((k + a, omega (arith, x), omega (arith, x, y, l), (blank, h)), refl))
        (λ (S, ((p, lo, hi, (T, h)), z)). let y : p ≡ (p - a) + a = omega (arith, lo) in
        (p - a, omega (arith, lo), omega (arith, lo, hi, l), (T, subst (λ k. WideHolds w s k (j + a) T) y h)))
        (some_judged (λ k. verdict found w k j) (λ k. WideHolds w s (k + a) (j + a) blank) (λ k. Somehow (WideHolds w s) (k + a) (j + a)) (suc j - i) i
        (λ k x y. sound w right k j (omega (arith, x, y, l)) u))

    pub all_sound : (ws : WideTrees) → ((e : ExprTree) → IsExprOfSome ws e → IsRight e) → (i j : ℕ) → i ≤ j → j ≤ last → PartJudged (all_verdicts found ws i j) (AllHoldWidely ws s) i j
    all_sound no_formula right i j l u = as_yes refl
    all_sound (formula_then w ws) right i j l u = judged_as (λ h. (blank, blank, h.0, h.1, refl)) (λ q. ((q.1.0, q.1.2), (q.1.1, q.1.3)))
        (both_judged _ _ (sound w (λ x y. right x (inl y)) i j l u) (all_sound ws (λ x y. right x (inr y)) i j l u))
