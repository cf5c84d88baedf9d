-- What the functions build, as plain trees.
use Rattle.std.specs.Prelude.{◌≡◌, ◌≢◌, ◌||◌, true, false, Result, Ok, Err, ℕ, List, [], map, Some, None, pos}
use Rattle.std.specs.List.{list_any}
use Rattle.std.specs.Str.{bytes_eq}
use Rattle.std.specs.Global.{Global}
use Rattle.std.specs.declared.rc.Rc.{Rc}
use Rattle.tp_kernel.specs.declared.formula.Expr.{Expr}
use Rattle.tp_kernel.specs.declared.formula.Exprs.{Exprs}
use Rattle.tp_kernel.specs.declared.formula.Formula.{Formula}
use Rattle.tp_kernel.specs.declared.formula.Formulas.{Formulas}
use Rattle.tp_kernel.specs.Read.{expr_tree, formula_tree, operator_of}
use Rattle.tp_meaning.specs.Syntax.{ExprTree, FormulaTree, either, binary, trivial, branch, while, for_from, forall_from}
use Rattle.tp_tree.specs.declared.phrase.Definition.{Definition}
use Rattle.tp_tree.specs.declared.phrase.Definitions.{Definitions}
use Rattle.tp_scope.specs.Scope.{Names}
use Rattle.tp_scope.specs.Names.{AreApart, has_repeat, twice_defined}
use Rattle.tp_scope.specs.Seen.{apart, names_of_definitions}
use Rattle.tp_tree.specs.Read.{definition_tree}
use Rattle.tp_check.specs.declared.refusal.CheckRefusal.{CheckRefusal}
use Rattle.tp_check.specs.declared.refusal.CheckRefusal.TheVariants.{Twice, NoMemory}
use Rattle.tp_scope.specs.declared.binders.Binders.{Binders}
use Rattle.tp_check.specs.declared.definitions.Headings.{Headings}
use Rattle.tp_check.specs.declared.operation.Operation.{Operation}
use Rattle.tp_check.specs.declared.operation.Operation.TheVariants.{Either, With}
use Rattle.tp_check.specs.declared.loops.Guard.{Guard}
use Rattle.tp_check.specs.declared.loops.Guard.TheVariants.{If, While}
use Rattle.tp_check.specs.declared.loops.Counting.{Counting}
use Rattle.tp_check.specs.declared.loops.Counting.TheVariants.{For, Forall}

-- behind an `Rc`
abbrev pub expr_seen : Rc Expr Global → ExprTree
expr_seen e = expr_tree e.value

abbrev pub formula_seen : Rc Formula Global → FormulaTree
formula_seen w = formula_tree w.value

-- several
abbrev pub exprs_seen : Exprs → List ExprTree
exprs_seen es = map expr_tree es.items.items

abbrev pub formulas_seen : Formulas → List FormulaTree
formulas_seen ws = map formula_seen ws.items.items

-- what an operation makes of two expressions
abbrev pub made_by : Operation → ExprTree → ExprTree → ExprTree
made_by Either = either
made_by (With o) = binary (operator_of o)

-- what a condition makes of the formula under it
abbrev pub guarded_by : Guard → ExprTree → FormulaTree → FormulaTree
guarded_by If = λ b w. branch b w trivial
guarded_by While = while

-- what a count below a bound makes of the formula in which the name is bound
abbrev pub counted_by : Counting → (name : List ℕ) → ExprTree → FormulaTree → FormulaTree
counted_by For x = for_from x (pos 0)
counted_by Forall x = forall_from x (pos 0)

-- the parameters of each of the definitions
abbrev pub ParametersOf : Definitions → List Binders → Type 0
ParametersOf ds parameters = parameters ≡ map (λ d. d.parameters) ds.items.items

-- The headings of these definitions, none of whose names or parameters is defined twice.
pub record AreHeadings (ds : Definitions) (headings : Headings) : Type 0 where
  pub names : headings.names ≡ names_of_definitions ds
  pub apart : AreApart (names_of_definitions ds)
  pub parameters : ParametersOf ds headings.parameters.items

-- the answer on the headings of these definitions; nothing is said for want of memory
abbrev pub AnswersHeadings : Definitions → Result Headings CheckRefusal → Type 0
AnswersHeadings ds (Ok headings) =
    (twice_defined [] (map definition_tree ds.items.items) ≡ None) × AreHeadings ds headings
AnswersHeadings ds (Err e) =
    e ≢ NoMemory → (at : ℕ) × (twice_defined [] (map definition_tree ds.items.items) ≡ Some at)
    × (e ≡ Twice at)

-- the answer on the parameters of one definition more, behind those with these names; nothing is
-- said for want of memory
abbrev pub AnswersParameters : Names → Definition → Result Binders CheckRefusal → Type 0
AnswersParameters before d (Ok own) =
    (list_any (bytes_eq d.name) before ≡ false) × (apart d.parameters ≡ Some own)
AnswersParameters before d (Err e) =
    e ≢ NoMemory → ((list_any (bytes_eq d.name) before || has_repeat d.parameters) ≡ true)
    × (e ≡ Twice d.at)
