-- The plain trees of expressions, formulas, definitions and bindings.
use Rattle.std.specs.Prelude.{List, map}
use Rattle.std.specs.Option.{option_map}
use Rattle.tp_value.specs.Read.{tree}
use Rattle.tp_kernel.specs.declared.formula.Op2.{Op2}
use Rattle.tp_kernel.specs.declared.formula.Op2.TheVariants as op
use Rattle.tp_kernel.specs.declared.formula.Expr.{Expr}
use Rattle.tp_kernel.specs.declared.formula.Expr.TheOpen.{Expr-F, Exprs-F}
use Rattle.tp_kernel.specs.declared.formula.Expr.TheFolds.{fold-Expr, fold-Exprs}
use Rattle.tp_kernel.specs.declared.formula.Exprs.{Exprs}
use Rattle.tp_kernel.specs.declared.formula.Formula.{Formula}
use Rattle.tp_kernel.specs.declared.formula.Formula.TheOpen.{Formula-F, Formulas-F}
use Rattle.tp_kernel.specs.declared.formula.Formula.TheFolds.{fold-Formula, fold-Formulas}
use Rattle.tp_kernel.specs.declared.formula.Formulas.{Formulas}
use Rattle.tp_kernel.specs.declared.formula.Def.{Def}
use Rattle.tp_kernel.specs.declared.formula.Defs.{Defs}
use Rattle.tp_kernel.specs.declared.formula.Env.{Env}
use Rattle.tp_kernel.specs.declared.formula.Binding.{Binding}
use Rattle.tp_kernel.specs.declared.formula.Binding.TheVariants.{Place, Known}
use Rattle.tp_meaning.specs.Syntax.{Operator, Equal, Differs, Less, LessEqual, Greater, GreaterEqual, Plus, Minus, Times, Div, Mod, ExprTree, ExprTrees, numeral, boolean, known, bound, global, listing, size, index, minus, negation, both, either, binary, choice, invoke, exprs_of, FormulaTree, FormulaTrees, trivial, test, equation, next_equation, empty, more, next, weak_next, if_more, if_empty, always, conjunction, branch, len, assign, chop, while, for_from, forall_from, project, exists, call, input, display, formulas_of, Definition, BindingTree, place_binding, known_binding}

abbrev pub operator_of : Op2 → Operator
operator_of op.Equal = Equal
operator_of op.Differs = Differs
operator_of op.Less = Less
operator_of op.LessEqual = LessEqual
operator_of op.Greater = Greater
operator_of op.GreaterEqual = GreaterEqual
operator_of op.Plus = Plus
operator_of op.Minus = Minus
operator_of op.Times = Times
operator_of op.Div = Div
operator_of op.Mod = Mod

-- one level, with what is below already seen as its trees
abbrev pub expr_step : Expr-F ExprTree ExprTrees → ExprTree
expr_step (Expr-F.Number n) = numeral n
expr_step (Expr-F.Truth b) = boolean b
expr_step (Expr-F.Known v) = known (tree v.value)
expr_step (Expr-F.Bound i) = bound i
expr_step (Expr-F.Global x) = global x
expr_step (Expr-F.List es) = listing es
expr_step (Expr-F.Size e) = size e.value
expr_step (Expr-F.Index e i) = index e.value i.value
expr_step (Expr-F.Minus e) = minus e.value
expr_step (Expr-F.Not e) = negation e.value
expr_step (Expr-F.Both es) = both es
expr_step (Expr-F.Either a b) = either a.value b.value
expr_step (Expr-F.Op o a b) = binary (operator_of o) a.value b.value
expr_step (Expr-F.If b x y) = choice b.value x.value y.value
expr_step (Expr-F.Call p es) = invoke p es

abbrev pub exprs_step : Exprs-F ExprTree ExprTrees → ExprTrees
exprs_step es = exprs_of es.items.items

-- the plain tree of an expression, and of several
abbrev pub expr_tree : Expr → ExprTree
expr_tree = fold-Expr ExprTree ExprTrees expr_step exprs_step

abbrev pub expr_trees : Exprs → ExprTrees
expr_trees = fold-Exprs ExprTree ExprTrees expr_step exprs_step

abbrev pub formula_fold : Formula-F FormulaTree FormulaTrees → FormulaTree
formula_fold Formula-F.True = trivial
formula_fold (Formula-F.Test e) = test (expr_tree e.value)
formula_fold (Formula-F.Eq a b) = equation (expr_tree a.value) (expr_tree b.value)
formula_fold (Formula-F.NextEq k a b) = next_equation k (expr_tree a.value) (expr_tree b.value)
formula_fold Formula-F.Empty = empty
formula_fold Formula-F.More = more
formula_fold (Formula-F.Next w) = next w.value
formula_fold (Formula-F.WeakNext w) = weak_next w.value
formula_fold (Formula-F.IfMore w) = if_more w.value
formula_fold (Formula-F.IfEmpty w) = if_empty w.value
formula_fold (Formula-F.Always w) = always w.value
formula_fold (Formula-F.And ws) = conjunction ws
formula_fold (Formula-F.If b w v) = branch (expr_tree b.value) w.value v.value
formula_fold (Formula-F.Len e) = len (expr_tree e.value)
formula_fold (Formula-F.Assign t e) = assign (expr_tree t.value) (expr_tree e.value)
formula_fold (Formula-F.Chop w v) = chop w.value v.value
formula_fold (Formula-F.While b w) = while (expr_tree b.value) w.value
formula_fold (Formula-F.For name k e w) = for_from name k (expr_tree e.value) w.value
formula_fold (Formula-F.Forall name k e w) = forall_from name k (expr_tree e.value) w.value
formula_fold (Formula-F.Proj w v) = project w.value v.value
formula_fold (Formula-F.Exists name lasting w) = exists name lasting w.value
formula_fold (Formula-F.Call p es) = call p (expr_trees es)
formula_fold (Formula-F.Input x port) = input (expr_tree x.value) port
formula_fold (Formula-F.Display es) = display (expr_trees es)

-- each operand behind its `Rc`
abbrev pub formulas_step : Formulas-F FormulaTree FormulaTrees → FormulaTrees
formulas_step ws = formulas_of (map (λ w. w.value) ws.items.items)

-- the plain tree of a formula, and of several
abbrev pub formula_tree : Formula → FormulaTree
formula_tree = fold-Formula FormulaTree FormulaTrees formula_fold formulas_step

abbrev pub formula_trees : Formulas → FormulaTrees
formula_trees = fold-Formulas FormulaTree FormulaTrees formula_fold formulas_step

-- a definition, and definitions by their numbers
abbrev pub definition_of : Def → Definition
definition_of f =
    record {
      name = f.name;
      parameters = f.parameters;
      formula = formula_tree f.formula.value;
      expr = option_map (λ e. expr_tree e.value) f.expr;
    }

abbrev pub definitions_of : Defs → List Definition
definitions_of fs = map definition_of fs.items.items

-- what a binding stands for, and an environment
abbrev pub binding_of : Binding → BindingTree
binding_of (Place p) = place_binding p
binding_of (Known v) = known_binding (tree v.value)

abbrev pub bindings_of : Env → List BindingTree
bindings_of env = map binding_of env.items.items
