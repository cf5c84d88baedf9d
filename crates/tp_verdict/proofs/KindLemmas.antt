-- The tables of the kinds.
use Rattle.std.proofs.Common.{◌≡◌, ℕ, zero, suc, ◌+◌, ◌-◌, ◌<◌, ◌≤◌, Bool, true, false, List, length, ◌∙◌, ap, sym, refl, arith, eqb, nat_lt, if◌then◌else◌, Result, Ok, Err, IfOk}
use Rattle.std.proofs.lemmas.Bool.{ltb-true, eqb-true}
use Rattle.tp_meaning.specs.Syntax.{ExprTree}
use Rattle.tp_eval.specs.Outcome.{Outcome}
use Rattle.tp_verdict.specs.Wide.{WideTree, empty, more, next, if_more, if_empty, negation}
use Rattle.tp_verdict.specs.Verdict.{Verdict, yes, no, undecided, of_truth, both_of, one_of, opposite_of, all_from, some_from}
use Rattle.tp_verdict.specs.Trace.{verdict}
use Rattle.tp_verdict.specs.Stored.{stored, HaveVerdicts}
use Rattle.tp_verdict.specs.declared.verdict_row.VerdictRow.{VerdictRow}

pub from_both : {X E : Type 0} (r : Result X E) (P Q R : X → Type 0) → ((x : X) → P x → Q x → R x) → IfOk r P → IfOk r Q → IfOk r R
from_both (Ok x) P Q R f p q = f x p q
from_both (Err e) P Q R f p q = tt

pub parts_as : (f g : ℕ → ℕ → Verdict) (rows : List VerdictRow) → HaveVerdicts f rows
    → ((i j : ℕ) → i ≤ j → j < length rows → f i j ≡ g i j) → HaveVerdicts g rows
parts_as f g rows h e = record { before = h.before; parts = λ i j l d. h.parts i j l d ∙ e i j l d }

pub if_same : (c : Bool) (x y z w : Verdict) → (c ≡ true → x ≡ y) → (c ≡ false → z ≡ w) → (if c then x else z) ≡ (if c then y else w)
if_same true x y z w p q = p refl
if_same false x y z w p q = q refl

truth_if : (c : Bool) → (if c then yes else no) ≡ of_truth c
truth_if true = refl
truth_if false = refl

longer : (c d : Bool) → (c ≡ true → d ≡ false) → (c ≡ false → d ≡ true) → (if c then no else yes) ≡ of_truth d
longer true d p q = ap of_truth (sym (p refl))
longer false d p q = ap of_truth (sym (q refl))

less_or_same : (i j : ℕ) → i ≤ j → (if eqb i j then no else yes) ≡ of_truth (nat_lt i j)
less_or_same i j l = longer (eqb i j) (nat_lt i j) (λ e. grind (arith, eqb-true i j e)) (λ e. grind arith)

pub all_by_some : (m k : ℕ) (f g : ℕ → Verdict) → ((x : ℕ) → k ≤ x → x < m + k → opposite_of (f x) ≡ g x) → opposite_of (some_from m k f) ≡ all_from m k g
all_by_some zero k f g h = refl
all_by_some (suc m) k f g h =
    opposite_of_one (f k) (some_from m (suc k) f)
    ∙ ap (λ v. both_of v (opposite_of (some_from m (suc k) f))) (h k (omega arith) (omega arith))
    ∙ ap (both_of (g k)) (all_by_some m (suc k) f g (λ x l u. h x (omega (arith, l)) (omega (arith, u))))
  where
    opposite_of_one : (u v : Verdict) → opposite_of (one_of u v) ≡ both_of (opposite_of u) (opposite_of v)
    opposite_of_one yes v = refl
    opposite_of_one no yes = refl
    opposite_of_one no no = refl
    opposite_of_one no undecided = refl
    opposite_of_one undecided yes = refl
    opposite_of_one undecided no = refl
    opposite_of_one undecided undecided = refl

pub twice_opposite : (v : Verdict) → opposite_of (opposite_of v) ≡ v
twice_opposite yes = refl
twice_opposite no = refl
twice_opposite undecided = refl

module _ (found : ℕ → ExprTree → Outcome) (rows : List VerdictRow) where
  pub empty_kind : HaveVerdicts (λ i j. if eqb i j then yes else no) rows → HaveVerdicts (verdict found empty) rows
  empty_kind h = parts_as (λ i j. if eqb i j then yes else no) (verdict found empty) rows h (λ i j l d. truth_if (eqb i j))

  pub more_kind : HaveVerdicts (λ i j. if eqb i j then no else yes) rows → HaveVerdicts (verdict found more) rows
  more_kind h = parts_as (λ i j. if eqb i j then no else yes) (verdict found more) rows h (λ i j l d. less_or_same i j l)

  module _ (w : WideTree) (body : List VerdictRow) (many : length rows ≡ length body) (b : HaveVerdicts (verdict found w) body) where
    pub next_kind : HaveVerdicts (λ i j. if nat_lt i j then stored body (suc i) j else no) rows → HaveVerdicts (verdict found (next w)) rows
    next_kind h = parts_as (λ i j. if nat_lt i j then stored body (suc i) j else no) (verdict found (next w)) rows h
        (λ i j l d. if_same (nat_lt i j) (stored body (suc i) j) (verdict found w (suc i) j) no no (λ e. b.parts (suc i) j (ltb-true i j e) (omega (arith, d, many))) (λ e. refl))

    pub if_more_kind : HaveVerdicts (λ i j. if nat_lt i j then stored body i j else yes) rows → HaveVerdicts (verdict found (if_more w)) rows
    if_more_kind h = parts_as (λ i j. if nat_lt i j then stored body i j else yes) (verdict found (if_more w)) rows h
        (λ i j l d. if_same (nat_lt i j) (stored body i j) (verdict found w i j) yes yes (λ e. b.parts i j l (omega (arith, d, many))) (λ e. refl))

    pub if_empty_kind : HaveVerdicts (λ i j. if nat_lt i j then yes else stored body i j) rows → HaveVerdicts (verdict found (if_empty w)) rows
    if_empty_kind h = parts_as (λ i j. if nat_lt i j then yes else stored body i j) (verdict found (if_empty w)) rows h
        (λ i j l d. if_same (nat_lt i j) yes yes (stored body i j) (verdict found w i j) (λ e. refl) (λ e. b.parts i j l (omega (arith, d, many))))

    pub not_kind : HaveVerdicts (λ i j. opposite_of (stored body i j)) rows → HaveVerdicts (verdict found (negation w)) rows
    not_kind h = parts_as (λ i j. opposite_of (stored body i j)) (verdict found (negation w)) rows h (λ i j l d. ap opposite_of (b.parts i j l (omega (arith, d, many))))

pub both_kind : (f g : ℕ → ℕ → Verdict) (first second rows : List VerdictRow) → length second ≡ length first → length rows ≡ length first
    → HaveVerdicts f first → HaveVerdicts g second → HaveVerdicts (λ i j. both_of (stored first i j) (stored second i j)) rows
    → HaveVerdicts (λ i j. both_of (f i j) (g i j)) rows
both_kind f g first second rows m n a b h = parts_as (λ i j. both_of (stored first i j) (stored second i j)) (λ i j. both_of (f i j) (g i j)) rows h
    (λ i j l d. ap (λ v. both_of v (stored second i j)) (a.parts i j l (omega (arith, d, n))) ∙ ap (both_of (f i j)) (b.parts i j l (omega (arith, d, m, n))))

pub or_kind : (f g : ℕ → ℕ → Verdict) (first second rows : List VerdictRow) → length second ≡ length first → length rows ≡ length first
    → HaveVerdicts f first → HaveVerdicts g second → HaveVerdicts (λ i j. one_of (stored first i j) (stored second i j)) rows
    → HaveVerdicts (λ i j. one_of (f i j) (g i j)) rows
or_kind f g first second rows m n a b h = parts_as (λ i j. one_of (stored first i j) (stored second i j)) (λ i j. one_of (f i j) (g i j)) rows h
    (λ i j l d. ap (λ v. one_of v (stored second i j)) (a.parts i j l (omega (arith, d, n))) ∙ ap (one_of (f i j)) (b.parts i j l (omega (arith, d, m, n))))

-- not on some suffix not
pub always_kind : (f : ℕ → ℕ → Verdict) (rows : List VerdictRow)
    → HaveVerdicts (λ i j. opposite_of (some_from (suc j - i) i (λ k. opposite_of (f k j)))) rows
    → HaveVerdicts (λ i j. all_from (suc j - i) i (λ k. f k j)) rows
always_kind f rows h = parts_as (λ i j. opposite_of (some_from (suc j - i) i (λ k. opposite_of (f k j)))) (λ i j. all_from (suc j - i) i (λ k. f k j)) rows h
    (λ i j l d. all_by_some (suc j - i) i (λ k. opposite_of (f k j)) (λ k. f k j) (λ x lo hi. twice_opposite (f x j)))
