-- The row of a formula whose expression was evaluated.
use Rattle.std.proofs.Common.{◌≡◌, ℕ, ℤ, List, Result, Ok, Err, ap, ap₂, sym, ◌∙◌}
use Rattle.tp_value.specs.declared.path.Fact.{Fact}
use Rattle.tp_value.specs.declared.refusal.NoMemory.{NoMemory}
use Rattle.tp_meaning.specs.Syntax.{Definition, ExprTree, FormulaTree}
use Rattle.tp_meaning.specs.Inputs.{InputTable}
use Rattle.tp_kernel.specs.declared.formula.Expr.{Expr}
use Rattle.tp_kernel.specs.declared.formula.Env.{Env}
use Rattle.tp_kernel.specs.Read.{expr_tree, bindings_of}
use Rattle.tp_eval.specs.Outcome as found
use Rattle.tp_eval.specs.Outcome.{outcome}
use Rattle.tp_scene.specs.Scene as S
use Rattle.tp_scene.specs.Step.{PickOutcome, Numbers, formula_step}
use Rattle.tp_decide.specs.declared.decision.Decision.{Decision}
use Rattle.tp_decide.specs.declared.bound_formula.BoundFormula.{BoundFormula}
use Rattle.tp_decide.specs.ReadBound.{formula_of, env_of}
use Rattle.tp_decide.specs.Decided.{IfOkDecides, IfOkDecidesIn}

pub same_outcome : (facts : List Fact) (defs : List Definition) (x e : Expr) (u v : Env) → x ≡ e → u ≡ v → outcome facts defs (expr_tree x) (bindings_of u) ≡ outcome facts defs (expr_tree e) (bindings_of v)
same_outcome facts defs x e u v p q = ap₂ (λ (y : Expr) (w : Env). outcome facts defs (expr_tree y) (bindings_of w)) p q

-- a row that what was decided stands for
pub decided_row : (facts : List Fact) (r : Result Decision NoMemory) (row p : Numbers → PickOutcome) → ((n : Numbers) → row n ≡ p n) → IfOkDecides r row → IfOkDecidesIn facts r p
decided_row facts (Ok d) row p e h = λ n. h facts n ∙ e n
decided_row facts (Err x) row p e h = tt

-- The row of a formula of which an expression was evaluated.
module _ (facts : List Fact) (defs : List Definition) (inputs : InputTable) (state : ℕ) (bound : BoundFormula) (place : S.Place) where
  abbrev step : FormulaTree → Numbers → PickOutcome
  step f n = formula_step defs inputs state facts f (env_of bound) place n

  pub evaluated_row : (r : Result Decision NoMemory) (row : found.Outcome → Numbers → PickOutcome) (o : found.Outcome) (x e : Expr) (u : Env) (f : FormulaTree)
      → x ≡ e → u ≡ bound.env.value → o ≡ outcome facts defs (expr_tree x) (bindings_of u) → formula_of bound ≡ f
      → ((n : Numbers) → row (outcome facts defs (expr_tree e) (env_of bound)) n ≡ step f n) → IfOkDecides r (row o) → IfOkDecidesIn facts r (step (formula_of bound))
  evaluated_row r row o x e u f p q h whole same decided =
      decided_row facts r (row o) (step (formula_of bound)) (λ n. ap (λ a. row a n) (h ∙ same_outcome facts defs x e u bound.env.value p q) ∙ same n ∙ ap (λ g. step g n) (sym whole)) decided

-- what counts from a number, with a formula and its bindings
pub counted_same : (count : ℤ → FormulaTree → S.Bindings → PickOutcome) (i k : ℤ) (f g : FormulaTree) (u v : S.Bindings) → i ≡ k → f ≡ g → u ≡ v → count i f u ≡ count k g v
counted_same count i k f g u v p q r = ap₂ (count i) q r ∙ ap (λ j. count j g v) p

-- what counts from a number to below a bound
pub counts_on : (made : List ℕ → ℤ → ExprTree → FormulaTree → FormulaTree) (x name : List ℕ) (i k : ℤ) (e to : ExprTree) (f g : FormulaTree) → x ≡ name → i ≡ k → e ≡ to → f ≡ g → made x i e f ≡ made name k to g
counts_on made x name i k e to f g p q r s = ap₂ (λ y j. made y j e f) p q ∙ ap₂ (made name k) r s
