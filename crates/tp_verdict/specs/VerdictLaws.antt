-- What verdicts say of the intervals that are as a run tells.
use Rattle.std.specs.Prelude.{◌≡◌, ℕ, ◌<◌, Bool, false, List, [], ◌∷◌, length}
use Rattle.std.specs.List.{flat_map}
use Rattle.tp_value.specs.declared.path.Fact.{Fact}
use Rattle.tp_kernel.specs.declared.fault.LimitKind.{LimitKind}
use Rattle.tp_meaning.specs.Syntax.{ExprTree}
use Rattle.tp_meaning.specs.Course.{Course, Shows, blank}
use Rattle.tp_meaning.specs.Fits.{IsVariable}
use Rattle.tp_verdict.specs.Wide.{WideTree, WideHolds, IsExprOf}
use Rattle.tp_store.specs.Known.{lasting_facts}
use Rattle.tp_eval.specs.Outcome.{Outcome, value, wait, fault, over}
use Rattle.tp_verdict.specs.Verdict.{yes, no, undecided}
use Rattle.tp_verdict.specs.Trace.{FactsOfStates, IsTold, known_in, known_outcome, clash_somewhere, is_torn, whole_verdict, AreAllKnown, WideFits}

-- each fact is of one of these variables
abbrev pub AreOfKinds : List Bool → List Fact → Type 0
AreOfKinds kinds [] = Unit {0}
AreOfKinds kinds (f ∷ fs) = IsVariable kinds f.path.var × AreOfKinds kinds fs

abbrev pub StatesAreOfKinds : List Bool → FactsOfStates → Type 0
StatesAreOfKinds kinds [] = Unit {0}
StatesAreOfKinds kinds (facts ∷ trace) = AreOfKinds kinds facts × StatesAreOfKinds kinds trace

-- what the verdict on a whole run says of each interval that is as the run tells
pub record VerdictIsRight (kinds : List Bool) (w : WideTree) (trace : FactsOfStates) : Type 0 where
  -- with yes the formula holds on each, and shows nothing
  pub holds : whole_verdict w trace ≡ yes
      → (s : Course) (a b : ℕ) → IsTold kinds trace s a b → WideHolds w s a b blank
  -- with no it holds on none
  pub fails : whole_verdict w trace ≡ no
      → (s : Course) (a b : ℕ) → IsTold kinds trace s a b
      → (S : Shows) → WideHolds w s a b S → ⊥

-- Verdicts are right, where formula and facts are of these variables.
abbrev pub VerdictsAreRight : Type 0
VerdictsAreRight =
    (kinds : List Bool) (w : WideTree) (trace : FactsOfStates) → WideFits kinds w
    → StatesAreOfKinds kinds trace → VerdictIsRight kinds w trace

-- neither a value nor a fault is found
abbrev pub StaysOpen : Outcome → Type 0
StaysOpen (value t) = ⊥
StaysOpen (wait p) = Unit {0}
StaysOpen (fault k) = ⊥
StaysOpen (over k) = Unit {0}

-- Where a verdict is undecided, one of the formula's expressions is open in some state.
abbrev pub UndecidedWhereOpen : Type 0
UndecidedWhereOpen =
    (w : WideTree) (trace : FactsOfStates) → 0 < length trace → whole_verdict w trace ≡ undecided
    → (e : ExprTree) × IsExprOf w e × (i : ℕ) × (i < length trace)
    × StaysOpen (known_outcome trace i e)

-- Where in each state all variables are known, a verdict is undecided only where the evaluation of
-- one of the formula's expressions passes a limit.
abbrev pub UndecidedByLimits : Type 0
UndecidedByLimits =
    (kinds : List Bool) (w : WideTree) (trace : FactsOfStates) → WideFits kinds w
    → 0 < length trace
    → ((i : ℕ) → i < length trace → AreAllKnown kinds (known_in trace i))
    → whole_verdict w trace ≡ undecided
    → (e : ExprTree) × IsExprOf w e × (i : ℕ) × (i < length trace)
    × (k : LimitKind) × (known_outcome trace i e ≡ over k)

-- In no state two facts that are given of it clash.
abbrev pub NoneClash : FactsOfStates → Type 0
NoneClash [] = Unit {0}
NoneClash (facts ∷ trace) = (clash_somewhere facts ≡ false) × NoneClash trace

-- Then a run is torn exactly where the facts of static variables clash, whichever state they are
-- given of.
abbrev pub TornByLasting : Type 0
TornByLasting =
    (trace : FactsOfStates) → NoneClash trace
    → is_torn trace ≡ clash_somewhere (flat_map lasting_facts trace)
