-- What is found where expressions are evaluated, or decided instead.
use Rattle.std.specs.Prelude.{◌≡◌, ℕ, ℤ, pos, negsuc, zero, suc, Bool, List, Option, Result, Ok, Err}
use Rattle.std.specs.Option.{option_map}
use Rattle.tp_value.specs.Tree.{Tree, num, truth}
use Rattle.tp_value.specs.Read.{tree}
use Rattle.tp_value.specs.declared.path.Fact.{Fact}
use Rattle.tp_value.specs.declared.path.Path.{Path}
use Rattle.tp_value.specs.declared.value.Value.{Value}
use Rattle.tp_meaning.specs.Syntax.{Definition, ExprTree, ExprTrees, BindingTree, size, numeral, FormulaTree, empty, next, len, for_from, forall_from}
use Rattle.tp_kernel.specs.declared.formula.Binding.{Binding}
use Rattle.tp_kernel.specs.declared.formula.Env.{Env}
use Rattle.tp_kernel.specs.Read.{binding_of, bindings_of}
use Rattle.tp_eval.specs.Outcome as found
use Rattle.tp_eval.specs.Answers.{outcome_tree}
use Rattle.tp_scene.specs.Scene.{Bindings}
use Rattle.tp_scene.specs.Step as row
use Rattle.tp_scene.specs.Step.{PickOutcome}
use Rattle.tp_decide.specs.declared.counting.CountKind.{CountKind}
use Rattle.tp_decide.specs.declared.counting.CountKind.TheVariants as count
use Rattle.tp_decide.specs.declared.decision.Decision.{Decision}
use Rattle.tp_decide.specs.declared.sides.Target.{Target}
use Rattle.tp_decide.specs.declared.sides.Target.TheVariants as target
use Rattle.tp_decide.specs.declared.sides.EquationSide.{EquationSide}
use Rattle.tp_decide.specs.declared.found.SharedOutcome.{SharedOutcome}
use Rattle.tp_decide.specs.declared.found.SharedOutcome.TheVariants as shared
use Rattle.tp_decide.specs.declared.bound_formula.Values.{Values}
use Rattle.tp_decide.specs.Read.{values_of}
use Rattle.tp_decide.specs.Decided.{Decides}

-- what an evaluation gave, whether its value is shared or not
abbrev pub shared_outcome : SharedOutcome → found.Outcome
shared_outcome (shared.Value v) = found.value (tree v.value)
shared_outcome (shared.Other o) = outcome_tree o

-- a value that was found, or what is decided without one
abbrev pub ValueIn : found.Outcome → Result Value Decision → Type 0
ValueIn o (Ok v) = o ≡ found.value (tree v)
ValueIn o (Err d) = (f : Tree → PickOutcome) → Decides d (λ n. row.with_value o f)

abbrev pub TruthIn : found.Outcome → Result Bool Decision → Type 0
TruthIn o (Ok b) = o ≡ found.value (truth b)
TruthIn o (Err d) = (f : Bool → PickOutcome) → Decides d (λ n. row.with_truth o f)

abbrev pub NumberIn : found.Outcome → Result ℤ Decision → Type 0
NumberIn o (Ok k) = o ≡ found.value (num k)
NumberIn o (Err d) = (f : ℤ → PickOutcome) → Decides d (λ n. row.with_number o f)

-- the values of expressions from left to right, or what is decided at the first without one
abbrev pub ValuesIn : List Fact → List Definition → ExprTrees → Bindings → Result Values Decision
    → Type 0
ValuesIn facts defs es env (Ok vs) =
    (f : List Tree → PickOutcome) → row.with_values defs facts es env f ≡ f (values_of vs)
ValuesIn facts defs es env (Err d) =
    (f : List Tree → PickOutcome) → Decides d (λ n. row.with_values defs facts es env f)

-- What a parameter is bound to where `with_bound` goes on with it, or what is decided without one;
-- and the same of all parameters.
abbrev pub BoundIn : (with_bound : (BindingTree → PickOutcome) → PickOutcome)
    → Result Binding Decision → Type 0
BoundIn with_bound (Ok b) = (f : BindingTree → PickOutcome) → with_bound f ≡ f (binding_of b)
BoundIn with_bound (Err d) = (f : BindingTree → PickOutcome) → Decides d (λ n. with_bound f)

abbrev pub AllBoundIn : (with_all : (Bindings → PickOutcome) → PickOutcome) → Result Env Decision
    → Type 0
AllBoundIn with_all (Ok env) = (f : Bindings → PickOutcome) → with_all f ≡ f (bindings_of env)
AllBoundIn with_all (Err d) = (f : Bindings → PickOutcome) → Decides d (λ n. with_all f)

abbrev pub target_in : Target → row.Target
target_in (target.Value p) = row.value_at p
target_in (target.Length p) = row.length_at p

abbrev pub option_target : Option Target → Option row.Target
option_target o = option_map target_in o

abbrev pub side_found : EquationSide → row.SideOf
side_found s =
    record { placed = s.placed; target = option_target s.target; found = outcome_tree s.found }

abbrev pub PathIn : Option Path → (Path → row.Target) → Option row.Target → Type 0
PathIn o f t = option_map f o ≡ t

abbrev pub IsNoSize : ExprTree → Type 0
IsNoSize (size e) = ⊥
IsNoSize e = Unit {0}

-- the formula for a length of so many states more: the end, or one state less from the next one on
abbrev pub IsShorter : ℤ → FormulaTree → Type 0
IsShorter (pos zero) f = f ≡ empty
IsShorter (pos (suc k)) f = f ≡ next (len (numeral (pos k)))
IsShorter (negsuc k) f = ⊥

-- the formula that counts so, from a number on to below a bound
abbrev pub counted_from : CountKind → (name : List ℕ) → ℤ → ExprTree → FormulaTree → FormulaTree
counted_from count.Turns = for_from
counted_from count.Instances = forall_from
