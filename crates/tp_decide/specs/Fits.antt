-- What is asked of the variables of a store, and of what is set there.
use Rattle.std.specs.Prelude.{◌≡◌, ℕ, Bool, List, ◌∷◌, length, slice_get, Option, Some, None, IsTrue}
use Rattle.tp_value.specs.declared.path.Path.{Path}
use Rattle.tp_meaning.specs.Syntax.{Definition, ExprTree, ExprTrees, expr_then, FormulaTree}
use Rattle.tp_meaning.specs.Value.{is_upper}
use Rattle.tp_meaning.specs.Fits.{ExprFits}
use Rattle.tp_meaning.specs.BindingsFit.{BindingsFit}
use Rattle.tp_store.specs.Known.{Variable, IsVariableOf}
use Rattle.tp_eval.specs.Evaluate.{is_place}
use Rattle.tp_scene.specs.Scene as S
use Rattle.tp_scene.specs.Fits.{kinds_in, PhraseFits}
use Rattle.tp_decide.specs.declared.decision.Decision.{Decision}
use Rattle.tp_decide.specs.declared.decision.Decision.TheVariants as decision
use Rattle.tp_decide.specs.declared.sides.Target.{Target}
use Rattle.tp_decide.specs.declared.sides.Target.TheVariants as target

-- what is set is of a variable
abbrev pub SetsVariables : List Variable → Decision → Type 0
SetsVariables xs (decision.Sets p v) = IsVariableOf xs p.var
SetsVariables xs (decision.Measures p k) = IsVariableOf xs p.var
SetsVariables xs (decision.Shares to k news) = IsVariableOf xs to.var
SetsVariables xs (decision.Becomes news m) = Unit {0}
SetsVariables xs (decision.Splits first after) = Unit {0}
SetsVariables xs (decision.Opens outer piece) = Unit {0}
SetsVariables xs (decision.Binds name lasting body) = Unit {0}
SetsVariables xs (decision.Waits first other) = Unit {0}
SetsVariables xs decision.Rests = Unit {0}
SetsVariables xs (decision.Clashes c) = Unit {0}
SetsVariables xs (decision.Misses port) = Unit {0}
SetsVariables xs (decision.Passes k) = Unit {0}

-- it sets nothing
abbrev pub IsPlain : Decision → Type 0
IsPlain d = (xs : List Variable) → SetsVariables xs d

abbrev pub IsTargetOf : List Variable → Option Target → Type 0
IsTargetOf xs None = Unit {0}
IsTargetOf xs (Some (target.Value p)) = IsVariableOf xs p.var
IsTargetOf xs (Some (target.Length p)) = IsVariableOf xs p.var

abbrev pub IsPathOf : List Variable → Option Path → Type 0
IsPathOf xs None = Unit {0}
IsPathOf xs (Some p) = IsVariableOf xs p.var

-- both are of variables
abbrev pub ArePathsOfVariables : List Variable → Option (Path × Path) → Type 0
ArePathsOfVariables xs None = Unit {0}
ArePathsOfVariables xs (Some paths) = IsVariableOf xs paths.0.var × IsVariableOf xs paths.1.var

-- a place for each upper-case parameter that has an argument
abbrev pub ArePlaces : ExprTrees → (parameters : List (List ℕ)) → Type 0
ArePlaces (expr_then e es) (x ∷ xs) = (IsTrue (is_upper x) → IsTrue (is_place e)) × ArePlaces es xs
ArePlaces _ _ = Unit {0}

-- The globals are the first variables, and `kinds` says of each whether it is static.
abbrev pub AreFirst : (kinds : List Bool) → List Variable → Type 0
AreFirst kinds variables =
    (i : ℕ) (b : Bool) → slice_get kinds i ≡ Some b → slice_get (kinds_in variables) i ≡ Some b

-- A formula and its bindings fit a store with these variables, of which the first are the globals.
pub record FitsStore (defs : List Definition) (variables : List Variable) (f : FormulaTree)
    (env : S.Bindings) : Type 0 where
  pub kinds : List Bool
  pub bound : PhraseFits defs kinds variables f env
  pub globals : AreFirst kinds variables

-- the same of an expression
pub record ExprFitsStore (defs : List Definition) (variables : List Variable) (e : ExprTree)
    (env : S.Bindings) : Type 0 where
  pub kinds : List Bool
  pub expr : ExprFits defs kinds e (length env)
  pub bindings : BindingsFit (kinds_in variables) env
  pub globals : AreFirst kinds variables
