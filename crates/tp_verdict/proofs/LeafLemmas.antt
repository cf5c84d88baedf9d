-- Verdicts of expressions in states.
use Rattle.std.proofs.Common.{◌≡◌, ℕ, zero, suc, ◌+◌, ◌-◌, ◌<◌, ◌≤◌, pos, true, false, List, [], ◌∷◌, ◌++◌, length, map, Some, slice_get, nat_le, if◌then◌else◌, ◌∙◌, ap, refl, arith}
use Rattle.std.proofs.lemmas.Bool.{le-leb, leb-true}
use Rattle.tp_value.specs.Tree.{Tree, num, truth}
use Rattle.tp_meaning.specs.Syntax.{ExprTree}
use Rattle.tp_store.specs.Stock.{Stock}
use Rattle.tp_eval.specs.Outcome as found
use Rattle.tp_eval.specs.Answers.{outcome_tree}
use Rattle.tp_eval.specs.declared.outcome.Outcome.{Outcome}
use Rattle.tp_verdict.specs.Wide.{test, equation, next_equation, len, assign, branch, while, WideTree}
use Rattle.tp_verdict.specs.Verdict as told
use Rattle.tp_verdict.specs.Verdict.{no, both_of, one_of, value_verdict, equality_verdict}
use Rattle.tp_verdict.specs.Trace.{verdict, looped}
use Rattle.tp_verdict.specs.Code.{verdict_of}
use Rattle.tp_verdict.specs.Stored.{or_no, stored, verdict_listed, HaveVerdicts}
use Rattle.tp_verdict.specs.Ruled.{length_verdict, paired}
use Rattle.tp_verdict.specs.Found.{found_in}
use Rattle.tp_verdict.specs.declared.verdict.Verdict.{Verdict}
use Rattle.tp_verdict.specs.declared.verdict_row.VerdictRow.{VerdictRow}
use Rattle.tp_verdict.proofs.KindLemmas.{parts_as, if_same}
use Rattle.tp_verdict.proofs.LoopLemmas.{looped_same}

-- the outcomes of an expression in each state
abbrev pub AreOutcomes : ExprTree → List Stock → List Outcome → Type 0
AreOutcomes e states os = map outcome_tree os ≡ map (λ state. found.outcome state.facts [] e []) states

outcome_there : (e : ExprTree) (states : List Stock) (os : List Outcome) → AreOutcomes e states os → (i : ℕ) → i < length states
    → (o : Outcome) × (slice_get os i ≡ Some o) × (outcome_tree o ≡ found_in states i e)
outcome_there e [] os h i l = absurd (omega (arith, l))
outcome_there e (s ∷ ss) [] h i l = absurd (cc)
outcome_there e (s ∷ ss) (o ∷ os) h zero l = (o, refl, cc)
outcome_there e (s ∷ ss) (o ∷ os) h (suc i) l = outcome_there e ss os (cc) i (omega (arith, l))

listed_there : (t : Tree) (os : List Outcome) (vs : List Verdict) → map verdict_of vs ≡ map (λ o. value_verdict (outcome_tree o) t) os
    → (i : ℕ) (o : Outcome) → slice_get os i ≡ Some o → verdict_listed vs i ≡ value_verdict (outcome_tree o) t
listed_there t [] vs h i o e = absurd (cc)
listed_there t (x ∷ xs) [] h i o e = absurd (cc)
listed_there t (x ∷ xs) (v ∷ vs) h zero o e = let q : x ≡ o = cc in let p : verdict_of v ≡ value_verdict (outcome_tree x) t = cc in p ∙ ap (λ y. value_verdict (outcome_tree y) t) q
listed_there t (x ∷ xs) (v ∷ vs) h (suc i) o e = listed_there t xs vs (cc) i o e

pub listed_is : (e : ExprTree) (t : Tree) (states : List Stock) (os : List Outcome) (vs : List Verdict) → AreOutcomes e states os
    → map verdict_of vs ≡ map (λ o. value_verdict (outcome_tree o) t) os → (i : ℕ) → i < length states → verdict_listed vs i ≡ value_verdict (found_in states i e) t
listed_is e t states os vs h k i l =
    let r = outcome_there e states os h i l in
    listed_there t os vs k i r.0 r.1 ∙ ap (λ o. value_verdict o t) r.2

pub counted_is : (e : ExprTree) (states : List Stock) (os : List Outcome) → AreOutcomes e states os → (i n : ℕ) → i < length states
    → length_verdict os i n ≡ value_verdict (found_in states i e) (num (pos n))
counted_is e states os h i n l =
    let r = outcome_there e states os h i l in
    ap (or_no (λ (o : Outcome). value_verdict (outcome_tree o) (num (pos n)))) r.1 ∙ ap (λ o. value_verdict o (num (pos n))) r.2

pub paired_is : (t e : ExprTree) (states : List Stock) (ts es : List Outcome) → AreOutcomes t states ts → AreOutcomes e states es
    → (i j : ℕ) → i < length states → j < length states → paired ts es i j ≡ equality_verdict (found_in states j t) (found_in states i e)
paired_is t e states ts es h k i j l m =
    let q = outcome_there t states ts h j m in
    let r = outcome_there e states es k i l in
    ap (or_no (λ (x : Outcome). or_no (λ (y : Outcome). equality_verdict (outcome_tree x) (outcome_tree y)) (slice_get es i))) q.1
    ∙ ap (or_no (λ (y : Outcome). equality_verdict (outcome_tree q.0) (outcome_tree y))) r.1
    ∙ ap (λ x. equality_verdict x (outcome_tree r.0)) q.2
    ∙ ap (equality_verdict (found_in states j t)) r.2

pub listed_more : (f : ℕ → told.Verdict) (vs : List Verdict) (v : Verdict) (k : ℕ) → length vs ≡ k → verdict_of v ≡ f k
    → ((i : ℕ) → i < k → verdict_listed vs i ≡ f i) → (i : ℕ) → i < k + 1 → verdict_listed (vs ++ v ∷ []) i ≡ f i
listed_more f [] v zero m h before zero l = h
listed_more f [] v zero m h before (suc i) l = absurd (omega (arith, l))
listed_more f [] v (suc k) m h before i l = absurd (omega (arith, m))
listed_more f (x ∷ xs) v zero m h before i l = absurd (omega (arith, m))
listed_more f (x ∷ xs) v (suc k) m h before zero l = before zero (omega arith)
listed_more f (x ∷ xs) v (suc k) m h before (suc i) l =
    listed_more (λ y. f (suc y)) xs v k (omega (arith, m)) h (λ y d. before (suc y) (omega (arith, d))) i (omega (arith, l))

within : (a b : ℕ) (x y : told.Verdict) → a ≤ b → (if nat_le a b then x else y) ≡ x
within a b x y h = let e : nat_le a b ≡ true = le-leb a b h in rw e refl

module _ (states : List Stock) (rows : List VerdictRow) (n : length rows ≡ length states) where
  abbrev At : WideTree → Type 0
  At w = HaveVerdicts (verdict (found_in states) w) rows

  pub test_kind : (e : ExprTree) (vs : List Verdict) → ((i : ℕ) → i < length states → verdict_listed vs i ≡ value_verdict (found_in states i e) (truth true))
      → HaveVerdicts (λ i j. if nat_le (0 + i) j then verdict_listed vs i else no) rows → At (test e)
  test_kind e vs p h = parts_as (λ i j. if nat_le (0 + i) j then verdict_listed vs i else no) (verdict (found_in states) (test e)) rows h
      (λ i j l d. within (0 + i) j (verdict_listed vs i) no (omega (arith, l)) ∙ p i (omega (arith, l, d, n)))

  pub next_equation_kind : (k : ℕ) (t e : ExprTree) (vs : List Verdict)
      → ((i : ℕ) → k + i < length states → verdict_listed vs i ≡ equality_verdict (found_in states (k + i) t) (found_in states i e))
      → HaveVerdicts (λ i j. if nat_le (k + i) j then verdict_listed vs i else no) rows → At (next_equation k t e)
  next_equation_kind k t e vs p h = parts_as (λ i j. if nat_le (k + i) j then verdict_listed vs i else no) (verdict (found_in states) (next_equation k t e)) rows h
      (λ i j l d. if_same (nat_le (k + i) j) (verdict_listed vs i) (equality_verdict (found_in states (k + i) t) (found_in states i e)) no no
      (λ c. p i (let a = leb-true (k + i) j c in omega (arith, a, d, n))) (λ c. refl))

  -- an equation is one of no state ahead
  pub equation_kind : (t e : ExprTree) → At (next_equation zero t e) → At (equation t e)
  equation_kind t e h = parts_as (verdict (found_in states) (next_equation zero t e)) (verdict (found_in states) (equation t e)) rows h
      (λ i j l d. within (0 + i) j (equality_verdict (found_in states (0 + i) t) (found_in states i e)) no (omega (arith, l))
      ∙ ap (λ (k : ℕ). equality_verdict (found_in states k t) (found_in states i e)) (let z : 0 + i ≡ i = omega arith in z))

  pub len_kind : (e : ExprTree) (os : List Outcome) → AreOutcomes e states os → HaveVerdicts (λ i j. length_verdict os i (j - i)) rows → At (len e)
  len_kind e os p h = parts_as (λ i j. length_verdict os i (j - i)) (verdict (found_in states) (len e)) rows h
      (λ i j l d. counted_is e states os p i (j - i) (omega (arith, l, d, n)))

  pub assign_kind : (t e : ExprTree) (ts es : List Outcome) → AreOutcomes t states ts → AreOutcomes e states es
      → HaveVerdicts (λ i j. paired ts es i j) rows → At (assign t e)
  assign_kind t e ts es p q h = parts_as (λ i j. paired ts es i j) (verdict (found_in states) (assign t e)) rows h
      (λ i j l d. paired_is t e states ts es p q i j (omega (arith, l, d, n)) (omega (arith, d, n)))

pub outcomes_length : (e : ExprTree) (states : List Stock) (os : List Outcome) → AreOutcomes e states os → length os ≡ length states
outcomes_length e [] [] h = refl
outcomes_length e [] (o ∷ os) h = absurd (cc)
outcomes_length e (s ∷ ss) [] h = absurd (cc)
outcomes_length e (s ∷ ss) (o ∷ os) h = let r = outcomes_length e ss os (cc) in omega (arith, r)

module _ (states : List Stock) (rows : List VerdictRow) (n : length rows ≡ length states) where
  pub branch_kind : (e : ExprTree) (w v : WideTree) (ts fs : List Verdict) (first second : List VerdictRow) → length first ≡ length states → length second ≡ length states
      → ((i : ℕ) → i < length states → verdict_listed ts i ≡ value_verdict (found_in states i e) (truth true))
      → ((i : ℕ) → i < length states → verdict_listed fs i ≡ value_verdict (found_in states i e) (truth false))
      → HaveVerdicts (verdict (found_in states) w) first → HaveVerdicts (verdict (found_in states) v) second
      → HaveVerdicts (λ i j. one_of (both_of (verdict_listed ts i) (stored first i j)) (both_of (verdict_listed fs i) (stored second i j))) rows
      → HaveVerdicts (verdict (found_in states) (branch e w v)) rows
  branch_kind e w v ts fs first second x y p q a b h =
      parts_as (λ i j. one_of (both_of (verdict_listed ts i) (stored first i j)) (both_of (verdict_listed fs i) (stored second i j))) (verdict (found_in states) (branch e w v)) rows h
      (λ i j l d. ap (λ z. one_of (both_of z (stored first i j)) (both_of (verdict_listed fs i) (stored second i j))) (p i (omega (arith, l, d, n)))
      ∙ ap (λ z. one_of (both_of (value_verdict (found_in states i e) (truth true)) z) (both_of (verdict_listed fs i) (stored second i j))) (a.parts i j l (omega (arith, d, n, x)))
      ∙ ap (λ z. one_of (both_of (value_verdict (found_in states i e) (truth true)) (verdict (found_in states) w i j)) (both_of z (stored second i j))) (q i (omega (arith, l, d, n)))
      ∙ ap (λ z. one_of (both_of (value_verdict (found_in states i e) (truth true)) (verdict (found_in states) w i j)) (both_of (value_verdict (found_in states i e) (truth false)) z)) (b.parts i j l (omega (arith, d, n, y))))

  pub while_kind : (e : ExprTree) (w : WideTree) (ts fs : List Verdict)
      → ((i : ℕ) → i < length states → verdict_listed ts i ≡ value_verdict (found_in states i e) (truth true))
      → ((i : ℕ) → i < length states → verdict_listed fs i ≡ value_verdict (found_in states i e) (truth false))
      → HaveVerdicts (λ i j. looped (verdict_listed ts) (verdict_listed fs) (verdict (found_in states) w) (j - i) i j) rows
      → HaveVerdicts (verdict (found_in states) (while e w)) rows
  while_kind e w ts fs p q h =
      parts_as (λ i j. looped (verdict_listed ts) (verdict_listed fs) (verdict (found_in states) w) (j - i) i j) (verdict (found_in states) (while e w)) rows h
      (λ i j l d. looped_same (verdict_listed ts) (verdict_listed fs) (verdict (found_in states) w)
      (λ k. value_verdict (found_in states k e) (truth true)) (λ k. value_verdict (found_in states k e) (truth false)) (verdict (found_in states) w)
      (length states) p q (λ k x lo hi. refl) (j - i) i j l (omega (arith, d, n)))
