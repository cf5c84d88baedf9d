-- What the outcome of an expression says of every state that agrees with the facts.
use Rattle.std.specs.Prelude.{◌≡◌, ℕ, ◌≤◌, pos, Bool, false, List, length, Option, None, Some}
use Rattle.tp_value.specs.Tree.{Tree, num}
use Rattle.tp_value.specs.Shape.{shape_at_path, item_at}
use Rattle.tp_value.specs.declared.value.Shape.TheVariants.{Items}
use Rattle.tp_value.specs.declared.path.Path.{Path}
use Rattle.tp_value.specs.declared.path.Fact.{Fact}
use Rattle.tp_kernel.specs.declared.fault.FaultKind.{FaultKind}
use Rattle.tp_meaning.specs.Syntax.{ExprTree, Definition, BindingTree, size}
use Rattle.tp_meaning.specs.Fits.{ExprFits, DefinitionsFit}
use Rattle.tp_meaning.specs.Course.{Course}
use Rattle.tp_meaning.specs.Bindings.{Locals, variable_at, meanings_of}
use Rattle.tp_meaning.specs.Value as meaning
use Rattle.tp_store.specs.Facts.{AgreesWithAll, kept_shape, is_excluded}
use Rattle.tp_store.specs.Known.{NoClash}
use Rattle.tp_eval.specs.Evaluate.{depth_limit}
use Rattle.tp_eval.specs.Outcome as found
use Rattle.tp_eval.specs.Outcome.{outcome, place_outcome}

-- the value of each variable at a position, by the variable's number, where there are so many
-- globals and the locals have these values
abbrev pub values_at : (globals : ℕ) → Course → Locals → (position : ℕ) → ℕ → Tree
values_at globals s locals j =
    λ n. variable_at globals s locals (record { number = n; lasting = false }) j

-- the meaning of an expression under bindings: its value at a depth of calls, at a position
abbrev pub meant_value : List Definition → (depth globals : ℕ) → Course → Locals → (position : ℕ)
    → ExprTree → List BindingTree → Option Tree
meant_value defs d globals s locals a e env =
    meaning.value defs d e (meanings_of globals s locals env) s a

-- Said of one course, with values of its locals, whose state at a position agrees with the facts,
-- and of expressions that fit the program's variables, of which `kinds` says which are static.
module _ (facts : List Fact) (defs : List Definition) (kinds : List Bool) (s : Course)
    (locals : Locals) (a : ℕ) where
  -- the meaning of an expression at a depth, and the value of the variable of a path
  abbrev pub meant_here : (depth : ℕ) → ExprTree → List BindingTree → Option Tree
  meant_here d e env = meant_value defs d (length kinds) s locals a e env

  abbrev pub value_here : Path → Tree
  value_here p = values_at (length kinds) s locals a p.var.number

  pub record OutcomesAreRight (e : ExprTree) (env : List BindingTree) : Type 0 where
    -- a value found is the expression's value, at the greatest depth of evaluation and at each
    -- beyond
    pub values : (t : Tree) → outcome facts defs e env ≡ found.value t → (d : ℕ) → depth_limit ≤ d
        → meant_here d e env ≡ Some t
    -- an expression with a fault has no value at any depth
    pub faults : (k : FaultKind) → outcome facts defs e env ≡ found.fault k → (d : ℕ)
        → meant_here d e env ≡ None
    -- a place's value is the element at its path
    pub places : (p : Path) → place_outcome facts defs e env ≡ found.path p → (d : ℕ) (t : Tree)
        → meant_here d e env ≡ Some t → item_at p.at (value_here p) ≡ Some t
    pub elements : (p : Path) → place_outcome facts defs e env ≡ found.path p
        → (d : ℕ) → depth_limit ≤ d → (t : Tree) → item_at p.at (value_here p) ≡ Some t
        → meant_here d e env ≡ Some t
    -- and its size is the length of the list at its path
    pub sizes : (p : Path) → place_outcome facts defs e env ≡ found.path p
        → (d : ℕ) (t : Tree) → meant_here d (size e) env ≡ Some t
        → (n : ℕ) × (t ≡ num (pos n)) × (shape_at_path p.at (value_here p) ≡ Some (Items n))
    pub lengths : (p : Path) → place_outcome facts defs e env ≡ found.path p
        → (d : ℕ) → depth_limit ≤ d → (n : ℕ) → shape_at_path p.at (value_here p) ≡ Some (Items n)
        → meant_here d (size e) env ≡ Some (num (pos n))

-- It holds in each state that agrees with the facts, where the definitions and the expression fit
-- the program's variables.
abbrev pub HoldsInStates : ((facts : List Fact) (defs : List Definition) (kinds : List Bool)
    (s : Course) (locals : Locals) (a : ℕ) (e : ExprTree) (env : List BindingTree) → Type 0)
    → Type 0
HoldsInStates Holds =
    (facts : List Fact) (defs : List Definition) (kinds : List Bool) (s : Course) (locals : Locals)
    (a : ℕ) (e : ExprTree) (env : List BindingTree)
    → NoClash facts → DefinitionsFit defs kinds → ExprFits defs kinds e (length env)
    → AgreesWithAll (values_at (length kinds) s locals a) facts
    → Holds facts defs kinds s locals a e env

abbrev pub OutcomesMean : Type 0
OutcomesMean = HoldsInStates OutcomesAreRight

-- A path that is waited for has no shape yet, and none is excluded there.
abbrev pub WaitsAreUndecided : Type 0
WaitsAreUndecided =
    (facts : List Fact) (defs : List Definition) (e : ExprTree) (env : List BindingTree) (p : Path)
    → NoClash facts → outcome facts defs e env ≡ found.wait p
    → (kept_shape facts p ≡ None) × (is_excluded facts p ≡ false)

-- and so has one that a place waits for
abbrev pub PlaceWaitsAreUndecided : Type 0
PlaceWaitsAreUndecided =
    (facts : List Fact) (defs : List Definition) (e : ExprTree) (env : List BindingTree) (p : Path)
    → NoClash facts → place_outcome facts defs e env ≡ found.other (found.wait p)
    → (kept_shape facts p ≡ None) × (is_excluded facts p ≡ false)
