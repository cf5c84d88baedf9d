-- The plain tree of each kind of expression and of formula.
use Rattle.std.proofs.Common.{◌≡◌, ℕ, ℤ, Bool, List, map, ap, sym, ◌∙◌, Global}
use Rattle.std.specs.declared.rc.Rc.{Rc}
use Rattle.std.proofs.lemmas.Simd.{map-map}
use Rattle.tp_value.specs.Read.{tree}
use Rattle.tp_value.specs.declared.value.Value.{Value}
use Rattle.tp_value.specs.declared.path.VarId.{VarId}
use Rattle.tp_kernel.specs.declared.formula.Op2.{Op2}
use Rattle.tp_kernel.specs.declared.formula.Expr.{Expr}
use Rattle.tp_kernel.specs.declared.formula.Exprs.{Exprs}
use Rattle.tp_kernel.specs.declared.formula.Expr.TheOpen.{Expr-F}
use Rattle.tp_kernel.specs.declared.formula.Expr.TheViews.{roll-Expr}
use Rattle.tp_kernel.specs.declared.formula.Expr.TheVariants as expr
use Rattle.tp_kernel.specs.declared.formula.Expr.TheFolds.{map-Expr, fold-roll-Expr, fold_out-Exprs}
use Rattle.tp_kernel.specs.declared.formula.Formula.{Formula}
use Rattle.tp_kernel.specs.declared.formula.Formulas.{Formulas}
use Rattle.tp_kernel.specs.declared.formula.Formula.TheOpen.{Formula-F}
use Rattle.tp_kernel.specs.declared.formula.Formula.TheViews.{roll-Formula}
use Rattle.tp_kernel.specs.declared.formula.Formula.TheVariants as formula
use Rattle.tp_kernel.specs.declared.formula.Formula.TheFolds.{map-Formula, fold-roll-Formula, fold_out-Formulas}
use Rattle.tp_meaning.specs.Syntax.{ExprTree, ExprTrees, numeral, boolean, known, bound, global, listing, size, index, minus, negation, both, either, binary, choice, invoke, exprs_of, FormulaTree, FormulaTrees, trivial, test, equation, next_equation, empty, more, next, weak_next, if_more, if_empty, always, conjunction, branch, len, assign, chop, while, for_from, forall_from, project, exists, call, input, display, formulas_of}
use Rattle.tp_kernel.specs.Read.{operator_of, expr_tree, expr_trees, expr_step, exprs_step, formula_tree, formula_trees, formula_fold, formulas_step}

-- several expressions
pub expr_trees_is : (es : Exprs) → expr_trees es ≡ exprs_of (map expr_tree es.items.items)
expr_trees_is es = fold_out-Exprs ExprTree ExprTrees expr_step exprs_step es

-- the tree of what is rolled, by the trees of its parts
rolled_expr : {e : Expr} (d : Expr-F Expr Exprs) → roll-Expr d ≡ e
    → expr_tree e ≡ expr_step (map-Expr Expr Exprs ExprTree ExprTrees expr_tree expr_trees d)
rolled_expr d e = ap expr_tree (sym e) ∙ fold-roll-Expr ExprTree ExprTrees expr_step exprs_step d

pub expr_number : (n : ℤ) → expr_tree (expr.Number n) ≡ numeral n
expr_number n = rolled_expr (Expr-F.Number n) (expr.rolls-Number n)

pub expr_truth : (b : Bool) → expr_tree (expr.Truth b) ≡ boolean b
expr_truth b = rolled_expr (Expr-F.Truth b) (expr.rolls-Truth b)

pub expr_known : (v : Rc Value Global) → expr_tree (expr.Known v) ≡ known (tree v.value)
expr_known v = rolled_expr (Expr-F.Known v) (expr.rolls-Known v)

pub expr_bound : (i : ℕ) → expr_tree (expr.Bound i) ≡ bound i
expr_bound i = rolled_expr (Expr-F.Bound i) (expr.rolls-Bound i)

pub expr_global : (x : VarId) → expr_tree (expr.Global x) ≡ global x
expr_global x = rolled_expr (Expr-F.Global x) (expr.rolls-Global x)

pub expr_size : (e : Rc Expr Global) → expr_tree (expr.Size e) ≡ size (expr_tree e.value)
expr_size e = rolled_expr (Expr-F.Size e) (expr.rolls-Size e)

pub expr_index : (e : Rc Expr Global) (i : Rc Expr Global)
    → expr_tree (expr.Index e i) ≡ index (expr_tree e.value) (expr_tree i.value)
expr_index e i = rolled_expr (Expr-F.Index e i) (expr.rolls-Index e i)

pub expr_minus : (e : Rc Expr Global) → expr_tree (expr.Minus e) ≡ minus (expr_tree e.value)
expr_minus e = rolled_expr (Expr-F.Minus e) (expr.rolls-Minus e)

pub expr_not : (e : Rc Expr Global) → expr_tree (expr.Not e) ≡ negation (expr_tree e.value)
expr_not e = rolled_expr (Expr-F.Not e) (expr.rolls-Not e)

pub expr_either : (a : Rc Expr Global) (b : Rc Expr Global)
    → expr_tree (expr.Either a b) ≡ either (expr_tree a.value) (expr_tree b.value)
expr_either a b = rolled_expr (Expr-F.Either a b) (expr.rolls-Either a b)

pub expr_op : (o : Op2) (a : Rc Expr Global) (b : Rc Expr Global)
    → expr_tree (expr.Op o a b) ≡ binary (operator_of o) (expr_tree a.value) (expr_tree b.value)
expr_op o a b = rolled_expr (Expr-F.Op o a b) (expr.rolls-Op o a b)

pub expr_if : (b : Rc Expr Global) (x : Rc Expr Global) (y : Rc Expr Global)
    → expr_tree (expr.If b x y) ≡ choice (expr_tree b.value) (expr_tree x.value) (expr_tree y.value)
expr_if b x y = rolled_expr (Expr-F.If b x y) (expr.rolls-If b x y)

pub expr_list : (es : Exprs)
    → expr_tree (expr.List es) ≡ listing (exprs_of (map expr_tree es.items.items))
expr_list es = rolled_expr (Expr-F.List es) (expr.rolls-List es) ∙ ap listing (expr_trees_is es)

pub expr_both : (es : Exprs)
    → expr_tree (expr.Both es) ≡ both (exprs_of (map expr_tree es.items.items))
expr_both es = rolled_expr (Expr-F.Both es) (expr.rolls-Both es) ∙ ap both (expr_trees_is es)

pub expr_call : (p : ℕ) (es : Exprs)
    → expr_tree (expr.Call p es) ≡ invoke p (exprs_of (map expr_tree es.items.items))
expr_call p es =
    rolled_expr (Expr-F.Call p es) (expr.rolls-Call p es) ∙ ap (invoke p) (expr_trees_is es)

-- several formulas
pub formula_trees_is : (ws : Formulas)
    → formula_trees ws ≡ formulas_of (map (λ w. formula_tree w.value) ws.items.items)
formula_trees_is ws =
    fold_out-Formulas FormulaTree FormulaTrees formula_fold formulas_step ws
    ∙ ap formulas_of (map-map (λ w. w.value) _ ws.items.items)

rolled_formula : {w : Formula} (d : Formula-F Formula Formulas) → roll-Formula d ≡ w
    → formula_tree w ≡ formula_fold (map-Formula Formula Formulas FormulaTree FormulaTrees
    formula_tree formula_trees d)
rolled_formula d e =
    ap formula_tree (sym e)
    ∙ fold-roll-Formula FormulaTree FormulaTrees formula_fold formulas_step d

pub formula_true : formula_tree formula.True ≡ trivial
formula_true = rolled_formula Formula-F.True formula.rolls-True

pub formula_test : (e : Rc Expr Global) → formula_tree (formula.Test e) ≡ test (expr_tree e.value)
formula_test e = rolled_formula (Formula-F.Test e) (formula.rolls-Test e)

pub formula_eq : (a : Rc Expr Global) (b : Rc Expr Global)
    → formula_tree (formula.Eq a b) ≡ equation (expr_tree a.value) (expr_tree b.value)
formula_eq a b = rolled_formula (Formula-F.Eq a b) (formula.rolls-Eq a b)

pub formula_next_eq : (k : ℕ) (a : Rc Expr Global) (b : Rc Expr Global)
    → formula_tree (formula.NextEq k a b) ≡ next_equation k (expr_tree a.value) (expr_tree b.value)
formula_next_eq k a b = rolled_formula (Formula-F.NextEq k a b) (formula.rolls-NextEq k a b)

pub formula_empty : formula_tree formula.Empty ≡ empty
formula_empty = rolled_formula Formula-F.Empty formula.rolls-Empty

pub formula_more : formula_tree formula.More ≡ more
formula_more = rolled_formula Formula-F.More formula.rolls-More

pub formula_next : (w : Rc Formula Global)
    → formula_tree (formula.Next w) ≡ next (formula_tree w.value)
formula_next w = rolled_formula (Formula-F.Next w) (formula.rolls-Next w)

pub formula_weak_next : (w : Rc Formula Global)
    → formula_tree (formula.WeakNext w) ≡ weak_next (formula_tree w.value)
formula_weak_next w = rolled_formula (Formula-F.WeakNext w) (formula.rolls-WeakNext w)

pub formula_if_more : (w : Rc Formula Global)
    → formula_tree (formula.IfMore w) ≡ if_more (formula_tree w.value)
formula_if_more w = rolled_formula (Formula-F.IfMore w) (formula.rolls-IfMore w)

pub formula_if_empty : (w : Rc Formula Global)
    → formula_tree (formula.IfEmpty w) ≡ if_empty (formula_tree w.value)
formula_if_empty w = rolled_formula (Formula-F.IfEmpty w) (formula.rolls-IfEmpty w)

pub formula_always : (w : Rc Formula Global)
    → formula_tree (formula.Always w) ≡ always (formula_tree w.value)
formula_always w = rolled_formula (Formula-F.Always w) (formula.rolls-Always w)

pub formula_if : (b : Rc Expr Global) (w : Rc Formula Global) (v : Rc Formula Global)
    → formula_tree (formula.If b w v)
    ≡ branch (expr_tree b.value) (formula_tree w.value) (formula_tree v.value)
formula_if b w v = rolled_formula (Formula-F.If b w v) (formula.rolls-If b w v)

pub formula_len : (e : Rc Expr Global) → formula_tree (formula.Len e) ≡ len (expr_tree e.value)
formula_len e = rolled_formula (Formula-F.Len e) (formula.rolls-Len e)

pub formula_assign : (a : Rc Expr Global) (e : Rc Expr Global)
    → formula_tree (formula.Assign a e) ≡ assign (expr_tree a.value) (expr_tree e.value)
formula_assign a e = rolled_formula (Formula-F.Assign a e) (formula.rolls-Assign a e)

pub formula_chop : (w : Rc Formula Global) (v : Rc Formula Global)
    → formula_tree (formula.Chop w v) ≡ chop (formula_tree w.value) (formula_tree v.value)
formula_chop w v = rolled_formula (Formula-F.Chop w v) (formula.rolls-Chop w v)

pub formula_while : (b : Rc Expr Global) (w : Rc Formula Global)
    → formula_tree (formula.While b w) ≡ while (expr_tree b.value) (formula_tree w.value)
formula_while b w = rolled_formula (Formula-F.While b w) (formula.rolls-While b w)

pub formula_for : (name : List ℕ) (k : ℤ) (e : Rc Expr Global) (w : Rc Formula Global)
    → formula_tree (formula.For name k e w)
    ≡ for_from name k (expr_tree e.value) (formula_tree w.value)
formula_for name k e w = rolled_formula (Formula-F.For name k e w) (formula.rolls-For name k e w)

pub formula_forall : (name : List ℕ) (k : ℤ) (e : Rc Expr Global) (w : Rc Formula Global)
    → formula_tree (formula.Forall name k e w)
    ≡ forall_from name k (expr_tree e.value) (formula_tree w.value)
formula_forall name k e w =
    rolled_formula (Formula-F.Forall name k e w) (formula.rolls-Forall name k e w)

pub formula_proj : (w : Rc Formula Global) (v : Rc Formula Global)
    → formula_tree (formula.Proj w v) ≡ project (formula_tree w.value) (formula_tree v.value)
formula_proj w v = rolled_formula (Formula-F.Proj w v) (formula.rolls-Proj w v)

pub formula_exists : (name : List ℕ) (lasting : Bool) (w : Rc Formula Global)
    → formula_tree (formula.Exists name lasting w) ≡ exists name lasting (formula_tree w.value)
formula_exists name lasting w =
    rolled_formula (Formula-F.Exists name lasting w) (formula.rolls-Exists name lasting w)

pub formula_call : (p : ℕ) (es : Exprs) → formula_tree (formula.Call p es) ≡ call p (expr_trees es)
formula_call p es = rolled_formula (Formula-F.Call p es) (formula.rolls-Call p es)

pub formula_input : (x : Rc Expr Global) (port : List ℕ)
    → formula_tree (formula.Input x port) ≡ input (expr_tree x.value) port
formula_input x port = rolled_formula (Formula-F.Input x port) (formula.rolls-Input x port)

pub formula_display : (es : Exprs) → formula_tree (formula.Display es) ≡ display (expr_trees es)
formula_display es = rolled_formula (Formula-F.Display es) (formula.rolls-Display es)

pub formula_and : (ws : Formulas)
    → formula_tree (formula.And ws)
    ≡ conjunction (formulas_of (map (λ w. formula_tree w.value) ws.items.items))
formula_and ws =
    rolled_formula (Formula-F.And ws) (formula.rolls-And ws) ∙ ap conjunction (formula_trees_is ws)
