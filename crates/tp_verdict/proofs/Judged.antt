-- What verdicts say of facts, and how that is joined.
use Rattle.std.proofs.Common.{◌≡◌, ℕ, zero, suc, ◌+◌, ◌≤◌, ◌<◌, ◌⊎◌, inl, inr, Bool, true, false, refl, sym, ap, subst, ◌∙◌, arith, if◌then◌else◌, Some}
use Rattle.std.proofs.lemmas.Bool.{cases_lt, true≢false}
use Rattle.tp_value.specs.Tree.{Tree, same_tree}
use Rattle.tp_value.proofs.Trees.{same_tree_is_equality}
use Rattle.tp_meaning.specs.Syntax.{ExprTree}
use Rattle.tp_meaning.specs.Course.{Course}
use Rattle.tp_eval.specs.Outcome.{Outcome, value, wait, fault, over}
use Rattle.tp_verdict.specs.Wide.{HasValue}
use Rattle.tp_verdict.specs.Verdict.{Verdict, yes, no, undecided, of_truth, both_of, one_of, opposite_of, all_from, some_from, value_verdict, no_with_fault, equality_verdict}

-- With yes the strong fact holds, and with no the weak one doesn't.
pub record Judged (v : Verdict) (B E : Type 0) : Type 0 where
  pub holds : v ≡ yes → B
  pub fails : v ≡ no → E → ⊥

pub as_yes : {B E : Type 0} → B → Judged yes B E
as_yes b = record { holds = λ e. b; fails = λ e x. absurd (cc) }

pub as_no : {B E : Type 0} → (E → ⊥) → Judged no B E
as_no f = record { holds = λ e. absurd (cc); fails = λ e. f }

as_undecided : {B E : Type 0} → Judged undecided B E
as_undecided = record { holds = λ e. absurd (cc); fails = λ e x. absurd (cc) }

pub judged_as : {v : Verdict} {B E C D : Type 0} → (B → C) → (D → E) → Judged v B E → Judged v C D
judged_as f g h = record { holds = λ e. f (h.holds e); fails = λ e d. h.fails e (g d) }

pub both_judged : (u v : Verdict) {B E C D : Type 0} → Judged u B E → Judged v C D → Judged (both_of u v) (B × C) (E × D)
both_judged yes yes h k = as_yes (h.holds refl, k.holds refl)
both_judged yes no h k = as_no (λ e. k.fails refl e.1)
both_judged yes undecided h k = as_undecided
both_judged no v h k = as_no (λ e. h.fails refl e.0)
both_judged undecided yes h k = as_undecided
both_judged undecided no h k = as_no (λ e. k.fails refl e.1)
both_judged undecided undecided h k = as_undecided

pub one_judged : (u v : Verdict) {B E C D : Type 0} → Judged u B E → Judged v C D → Judged (one_of u v) (B ⊎ C) (E ⊎ D)
one_judged yes v h k = as_yes (inl (h.holds refl))
one_judged no yes h k = as_yes (inr (k.holds refl))
one_judged no no h k = as_no (λ e. elim e [ inl x ↦ h.fails refl x | inr y ↦ k.fails refl y ])
one_judged no undecided h k = as_undecided
one_judged undecided yes h k = as_yes (inr (k.holds refl))
one_judged undecided no h k = as_undecided
one_judged undecided undecided h k = as_undecided

pub opposite_judged : (v : Verdict) {B E : Type 0} → Judged v B E → Judged (opposite_of v) (E → ⊥) (B → ⊥)
opposite_judged yes h = as_no (λ k. k (h.holds refl))
opposite_judged no h = as_yes (h.fails refl)
opposite_judged undecided h = as_undecided

pub truth_judged : (b : Bool) {B E : Type 0} → (b ≡ true → B) → (b ≡ false → E → ⊥) → Judged (of_truth b) B E
truth_judged true h k = as_yes (h refl)
truth_judged false h k = as_no (k refl)

pub if_judged : (b : Bool) (u v : Verdict) {B E : Type 0} → (b ≡ true → Judged u B E) → (b ≡ false → Judged v B E) → Judged (if b then u else v) B E
if_judged true u v h k = h refl
if_judged false u v h k = k refl

module _ (f : ℕ → Verdict) (B E : ℕ → Type 0) where
  pub all_judged : (m k : ℕ) → ((i : ℕ) → k ≤ i → i < m + k → Judged (f i) (B i) (E i))
      → Judged (all_from m k f) ((i : ℕ) → k ≤ i → i < m + k → B i) ((i : ℕ) → k ≤ i → i < m + k → E i)
  all_judged zero k h = as_yes (λ i l u. absurd (omega arith))
  all_judged (suc m) k h = judged_as
      (λ p i l u. elim (cases_lt k i) [ inl x ↦ p.1 i x (omega arith) | inr x ↦ (let y : k ≡ i = omega arith in subst B y p.0) ])
      (λ e. (e k (omega arith) (omega arith), (λ i l u. e i (omega arith) (omega arith))))
      (both_judged (f k) (all_from m (suc k) f) (h k (omega arith) (omega arith)) (all_judged m (suc k) (λ i l u. h i (omega arith) (omega arith))))

  pub some_judged : (m k : ℕ) → ((i : ℕ) → k ≤ i → i < m + k → Judged (f i) (B i) (E i))
      → Judged (some_from m k f) ((i : ℕ) × (k ≤ i) × (i < m + k) × B i) ((i : ℕ) × (k ≤ i) × (i < m + k) × E i)
  some_judged zero k h = as_no (λ e. let l = e.1 in let u = e.2 in absurd (omega (arith, l, u)))
  some_judged (suc m) k h = judged_as
      (λ p. elim p [ inl b ↦ (k, omega arith, omega arith, b) | inr r ↦ (let l = r.1 in let u = r.2 in (r.0, omega (arith, l), omega (arith, u), r.3)) ])
      (λ e. let l = e.1 in let u = e.2 in elim (cases_lt k e.0) [ inl x ↦ inr (e.0, x, omega (arith, u), e.3) | inr x ↦ (let y : e.0 ≡ k = omega (arith, l, x) in inl (subst E y e.3)) ])
      (one_judged (f k) (some_from m (suc k) f) (h k (omega arith) (omega arith)) (some_judged m (suc k) (λ i l u. h i (omega arith) (omega arith))))

module _ (s : Course) where
  -- what an outcome says of an expression at a position
  abbrev pub OutcomeSays : Outcome → ExprTree → ℕ → Type 0
  OutcomeSays (value t) e j = HasValue e s j t
  OutcomeSays (wait p) e j = Unit {0}
  OutcomeSays (fault k) e j = (v : Tree) → HasValue e s j v → ⊥
  OutcomeSays (over k) e j = Unit {0}

  one_value : (e : ExprTree) (j : ℕ) (t v : Tree) → HasValue e s j t → HasValue e s j v → t ≡ v
  one_value e j t v h k = let q : Some t ≡ Some v = sym h ∙ k in cc

  pub value_judged : (o : Outcome) (e : ExprTree) (j : ℕ) (v : Tree) → OutcomeSays o e j → Judged (value_verdict o v) (HasValue e s j v) (HasValue e s j v)
  value_judged (value t) e j v h = truth_judged (same_tree t v)
      (λ q. h ∙ ap Some ((same_tree_is_equality t v).0 q))
      (λ q k. true≢false (sym ((same_tree_is_equality t v).1 (one_value e j t v h k)) ∙ q))
  value_judged (wait p) e j v h = as_undecided
  value_judged (fault k) e j v h = as_no (h v)
  value_judged (over k) e j v h = as_undecided

  abbrev pub HaveOneValue : ExprTree → ℕ → ExprTree → ℕ → Type 0
  HaveOneValue e j x k = (v : Tree) × HasValue e s j v × HasValue x s k v

  fault_judged : (o : Outcome) (e x : ExprTree) (j k : ℕ) → OutcomeSays o x k → Judged (no_with_fault o) (HaveOneValue e j x k) (HaveOneValue e j x k)
  fault_judged (value t) e x j k h = as_undecided
  fault_judged (wait p) e x j k h = as_undecided
  fault_judged (fault l) e x j k h = as_no (λ q. h q.0 q.2)
  fault_judged (over l) e x j k h = as_undecided

  pub equality_judged : (o p : Outcome) (e x : ExprTree) (j k : ℕ) → OutcomeSays o e j → OutcomeSays p x k → Judged (equality_verdict o p) (HaveOneValue e j x k) (HaveOneValue e j x k)
  equality_judged (value t) p e x j k h g = judged_as (λ y. (t, h, y))
      (λ q. subst (λ (v : Tree). HasValue x s k v) (one_value e j q.0 t q.1 h) q.2) (value_judged p x k t g)
  equality_judged (wait l) p e x j k h g = fault_judged p e x j k g
  equality_judged (fault l) p e x j k h g = as_no (λ q. h q.0 q.1)
  equality_judged (over l) p e x j k h g = fault_judged p e x j k g
