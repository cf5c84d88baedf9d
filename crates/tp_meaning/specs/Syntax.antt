-- Expressions, formulas and definitions, as plain trees.
use Rattle.std.specs.Prelude.{ℤ, ℕ, Bool, List, [], ◌∷◌, Option}
use Rattle.tp_value.specs.declared.path.VarId.{VarId}
use Rattle.tp_value.specs.declared.path.Path.{Path}
use Rattle.tp_value.specs.Tree.{Tree}

-- = <> < <= > >= + - * div mod
pub data Operator : Type 0 where
  Equal : Operator
  Differs : Operator
  Less : Operator
  LessEqual : Operator
  Greater : Operator
  GreaterEqual : Operator
  Plus : Operator
  Minus : Operator
  Times : Operator
  Div : Operator
  Mod : Operator

mutual
  pub data ExprTree : Type 0 where
    numeral : ℤ → ExprTree
    boolean : Bool → ExprTree
    known : Tree → ExprTree
    bound : ℕ → ExprTree
    global : VarId → ExprTree
    listing : ExprTrees → ExprTree
    size : ExprTree → ExprTree
    index : (whole at : ExprTree) → ExprTree
    minus : ExprTree → ExprTree
    negation : ExprTree → ExprTree
    both : ExprTrees → ExprTree
    either : ExprTree → ExprTree → ExprTree
    binary : Operator → ExprTree → ExprTree → ExprTree
    choice : (condition first second : ExprTree) → ExprTree
    invoke : (definition : ℕ) → (arguments : ExprTrees) → ExprTree

  pub data ExprTrees : Type 0 where
    no_expr : ExprTrees
    expr_then : ExprTree → ExprTrees → ExprTrees

mutual
  pub data FormulaTree : Type 0 where
    trivial : FormulaTree
    test : ExprTree → FormulaTree
    equation : ExprTree → ExprTree → FormulaTree
    next_equation : (nexts : ℕ) → ExprTree → ExprTree → FormulaTree
    empty : FormulaTree
    more : FormulaTree
    next : FormulaTree → FormulaTree
    weak_next : FormulaTree → FormulaTree
    if_more : FormulaTree → FormulaTree
    if_empty : FormulaTree → FormulaTree
    always : FormulaTree → FormulaTree
    conjunction : FormulaTrees → FormulaTree
    branch : ExprTree → FormulaTree → FormulaTree → FormulaTree
    len : ExprTree → FormulaTree
    assign : ExprTree → ExprTree → FormulaTree
    chop : FormulaTree → FormulaTree → FormulaTree
    while : ExprTree → FormulaTree → FormulaTree
    for_from : (name : List ℕ) → (from : ℤ) → (to : ExprTree) → (body : FormulaTree) → FormulaTree
    forall_from : (name : List ℕ) → (from : ℤ) → (to : ExprTree) → (body : FormulaTree)
        → FormulaTree
    project : FormulaTree → FormulaTree → FormulaTree
    exists : (name : List ℕ) → (lasting : Bool) → (body : FormulaTree) → FormulaTree
    call : (definition : ℕ) → (arguments : ExprTrees) → FormulaTree
    input : ExprTree → (port : List ℕ) → FormulaTree
    display : ExprTrees → FormulaTree

  pub data FormulaTrees : Type 0 where
    no_formula : FormulaTrees
    formula_then : FormulaTree → FormulaTrees → FormulaTrees

-- expressions in order, and formulas in order
abbrev pub exprs_of : List ExprTree → ExprTrees
exprs_of [] = no_expr
exprs_of (e ∷ es) = expr_then e (exprs_of es)

abbrev pub formulas_of : List FormulaTree → FormulaTrees
formulas_of [] = no_formula
formulas_of (w ∷ ws) = formula_then w (formulas_of ws)

-- a definition: its name, its parameters' names, its formula, and its expression where it has one
pub record Definition : Type 0 where
  pub name : List ℕ
  pub parameters : List (List ℕ)
  pub formula : FormulaTree
  pub expr : Option ExprTree

-- what a bound name stands for in a scene: a place, or a known value
pub data BindingTree : Type 0 where
  place_binding : Path → BindingTree
  known_binding : Tree → BindingTree
