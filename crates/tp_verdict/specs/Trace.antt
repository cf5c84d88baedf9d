-- What a run that is given says of a wider formula, and of which intervals.
use Rattle.std.specs.Prelude.{pos, ℕ, zero, suc, ◌+◌, ◌-◌, eqb, nat_le, nat_lt, true, false, if◌then◌else◌, ◌≡◌, ◌≤◌, Bool, not, ◌||◌, List, [], ◌∷◌, ◌++◌, filter, length, Option, Some, None, slice_get}
use Rattle.tp_value.specs.Tree.{Tree, num, truth}
use Rattle.tp_meaning.specs.Syntax.{ExprTree}
use Rattle.tp_eval.specs.Outcome.{Outcome, outcome}
use Rattle.tp_verdict.specs.Wide.{WideTree, WideTrees, trivial, test, equation, next_equation, empty, more, next, if_more, if_empty, always, conjunction, branch, len, assign, chop, while, disjunction, negation, sometimes, no_formula, formula_then, IsExprOf}
use Rattle.tp_verdict.specs.Verdict.{Verdict, yes, no, of_truth, both_of, one_of, opposite_of, all_from, some_from, value_verdict, equality_verdict}
use Rattle.std.specs.List.{flat_map, list_any}
use Rattle.tp_value.specs.declared.path.Fact.{Fact}
use Rattle.tp_meaning.specs.Course.{Course}
use Rattle.tp_meaning.specs.Interval.{KeepsLasting}
use Rattle.tp_store.specs.Facts.{same_path, AgreesWithAll}
use Rattle.tp_store.specs.Known.{clashes_with_some, lasting_facts, full}
use Rattle.tp_value.specs.declared.path.VarId.{VarId}
use Rattle.tp_meaning.specs.Fits.{IsVariable, ExprFits}
use Rattle.tp_store.specs.Known as known

-- ---- what is known of a wider formula on each part of a run, from a state to a state, by what
-- is known of its expressions in the states

-- A verdict for each part, from a state to one that isn't before it. Where it is before it there is
-- no part, and nothing is meant.
abbrev pub Table : Type 0
Table = ℕ → ℕ → Verdict

-- A loop of at most so many turns from state i to state j, where it is known in which states the
-- condition is true and in which it is false, and on which parts the body holds. Each turn takes it
-- to a later state, so j - i turns are enough.
module _ (is_true is_false : ℕ → Verdict) (body : Table) where
  abbrev pub looped : (turns : ℕ) → Table
  looped zero i j = if eqb i j then is_false i else no
  looped (suc m) i j =
      if eqb i j then is_false i
      else both_of (is_true i) (some_from (j - i) (suc i) (λ k. both_of (body i k) (looped m k j)))

-- where the outcome of each expression in each state is this
module _ (found : ℕ → ExprTree → Outcome) where
  -- whether an expression has a value in a state
  abbrev pub has_in : ℕ → ExprTree → Tree → Verdict
  has_in i e v = value_verdict (found i e) v

  abbrev mutual
    -- whether the formula holds from state i to state j
    pub verdict : WideTree → Table
    verdict trivial i j = yes
    verdict (test e) i j = has_in i e (truth true)
    verdict (equation l r) i j = equality_verdict (found i l) (found i r)
    verdict (next_equation k t e) i j =
        if nat_le (k + i) j then equality_verdict (found (k + i) t) (found i e) else no
    verdict empty i j = of_truth (eqb i j)
    verdict more i j = of_truth (nat_lt i j)
    verdict (next w) i j = if nat_lt i j then verdict w (suc i) j else no
    verdict (if_more w) i j = if nat_lt i j then verdict w i j else yes
    verdict (if_empty w) i j = if nat_lt i j then yes else verdict w i j
    verdict (always w) i j = all_from (suc j - i) i (λ k. verdict w k j)
    verdict (conjunction ws) i j = all_verdicts ws i j
    verdict (branch e w v) i j =
        one_of (both_of (has_in i e (truth true)) (verdict w i j))
        (both_of (has_in i e (truth false)) (verdict v i j))
    verdict (len e) i j = has_in i e (num (pos (j - i)))
    verdict (assign t e) i j = equality_verdict (found j t) (found i e)
    verdict (chop w v) i j = some_from (suc j - i) i (λ k. both_of (verdict w i k) (verdict v k j))
    verdict (while e w) i j =
        looped (λ k. has_in k e (truth true)) (λ k. has_in k e (truth false)) (verdict w) (j - i) i
        j
    verdict (disjunction w v) i j = one_of (verdict w i j) (verdict v i j)
    verdict (negation w) i j = opposite_of (verdict w i j)
    verdict (sometimes w) i j = some_from (suc j - i) i (λ k. verdict w k j)

    -- whether each of the formulas does
    pub all_verdicts : WideTrees → Table
    all_verdicts no_formula i j = yes
    all_verdicts (formula_then w ws) i j = both_of (verdict w i j) (all_verdicts ws i j)

-- ---- the facts that are known of the states, and the intervals that are as the run tells

-- the facts that are given of the states 0, 1, .., one list for each
abbrev pub FactsOfStates : Type 0
FactsOfStates = List (List Fact)

-- those given of a state, none where there is no such state
abbrev pub given_of : Option (List Fact) → List Fact
given_of None = []
given_of (Some facts) = facts

-- What is given of static variables in any state is known in each. So of a state these facts are
-- known, and its own.
abbrev pub known_with : FactsOfStates → (own : List Fact) → List Fact
known_with trace own = own ++ flat_map lasting_facts trace

-- each path once, with the first fact that is of it
abbrev pub each_path_once : List Fact → List Fact
each_path_once [] = []
each_path_once (f ∷ fs) = f ∷ filter (λ g. not (same_path g.path f.path)) (each_path_once fs)

abbrev pub known_in : FactsOfStates → ℕ → List Fact
known_in trace i = each_path_once (known_with trace (given_of (slice_get trace i)))

-- the outcome of an expression in a state, by what is known of the state
abbrev pub known_outcome : FactsOfStates → ℕ → ExprTree → Outcome
known_outcome trace i e = outcome (known_in trace i) [] e []

-- some two of the facts clash
abbrev pub clash_somewhere : List Fact → Bool
clash_somewhere [] = false
clash_somewhere (f ∷ fs) = clashes_with_some fs f || clash_somewhere fs

-- No course has these states: what is known of one of them clashes.
abbrev pub is_torn : FactsOfStates → Bool
is_torn trace = list_any (λ own. clash_somewhere (known_with trace own)) trace

-- whether the formula holds on the whole run, from its first state to its last
abbrev pub whole_verdict : WideTree → FactsOfStates → Verdict
whole_verdict w trace =
    if is_torn trace then no else verdict (known_outcome trace) w 0 (length trace - 1)

-- An interval as it is told: it has as many states as are given, each state agrees with the facts
-- that are given of it, and each static variable keeps one value.
pub record IsTold (kinds : List Bool) (trace : FactsOfStates) (s : Course) (a b : ℕ) : Type 0 where
  pub nonempty : a ≤ b
  pub states : suc b ≡ length trace + a
  pub agrees : (i : ℕ) (facts : List Fact) → slice_get trace i ≡ Some facts
      → AgreesWithAll (s (i + a)).values facts
  pub lasting : KeepsLasting kinds s a b

-- each expression of the formula fits these variables, no definitions and no bindings
abbrev pub WideFits : List Bool → WideTree → Type 0
WideFits kinds w = (e : ExprTree) → IsExprOf w e → ExprFits [] kinds e 0

-- Of each of these variables the whole value is known.
abbrev pub AreAllKnown : List Bool → List Fact → Type 0
AreAllKnown kinds facts =
    (x : VarId) → IsVariable kinds x
    → (t : Tree) × (full facts (record { var = x; at = [] }) ≡ known.value t)
