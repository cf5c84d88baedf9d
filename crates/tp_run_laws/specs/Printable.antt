-- What can be printed so that a trace is read from it: names on one line, and numbers and paths
-- within the limits.
use Rattle.std.specs.Prelude.{[], ◌∷◌, All, IfSome}
use Rattle.tp_value.specs.Number.{IsNumber}
use Rattle.tp_value.specs.Limits.{HasNumbers, IsWithinLimits}
use Rattle.tp_meaning.specs.Syntax.{ExprTree, ExprTrees, numeral, boolean, known, bound, global, listing, size, index, minus, negation, both, either, binary, choice, invoke, no_expr, expr_then, FormulaTree, FormulaTrees, trivial, test, equation, next_equation, empty, more, next, weak_next, if_more, if_empty, always, conjunction, branch, len, assign, chop, while, for_from, forall_from, project, exists, call, input, display, no_formula, formula_then, Definition, BindingTree, place_binding, known_binding}
use Rattle.tp_meaning.specs.Interval.{ProgramTree}
use Rattle.tp_meaning.specs.Inputs.{InputTable}
use Rattle.tp_inputs.specs.Within.{ValuesHave}
use Rattle.tp_scene.specs.Scene.{Bindings, Leaf, Do, Later, Shown, Holder, Split, SplitProject, Closed, Opened, Running, Entries, none, leaf, node}
use Rattle.tp_show.specs.TraceOfRun.{IsPathWithinLimits}
use Rattle.tp_show.specs.Line.{IsOneLine}

-- each value that is known in the expression has numbers within the limit
abbrev mutual
  pub ExprIsPrintable : ExprTree → Type 0
  ExprIsPrintable (numeral n) = Unit {0}
  ExprIsPrintable (boolean b) = Unit {0}
  ExprIsPrintable (known t) = HasNumbers t
  ExprIsPrintable (bound i) = Unit {0}
  ExprIsPrintable (global x) = Unit {0}
  ExprIsPrintable (listing es) = ExprsArePrintable es
  ExprIsPrintable (size e) = ExprIsPrintable e
  ExprIsPrintable (index e i) = ExprIsPrintable e × ExprIsPrintable i
  ExprIsPrintable (minus e) = ExprIsPrintable e
  ExprIsPrintable (negation e) = ExprIsPrintable e
  ExprIsPrintable (both es) = ExprsArePrintable es
  ExprIsPrintable (either a b) = ExprIsPrintable a × ExprIsPrintable b
  ExprIsPrintable (binary o a b) = ExprIsPrintable a × ExprIsPrintable b
  ExprIsPrintable (choice b x y) = ExprIsPrintable b × ExprIsPrintable x × ExprIsPrintable y
  ExprIsPrintable (invoke p es) = ExprsArePrintable es

  pub ExprsArePrintable : ExprTrees → Type 0
  ExprsArePrintable no_expr = Unit {0}
  ExprsArePrintable (expr_then e es) = ExprIsPrintable e × ExprsArePrintable es

-- each name in the formula, of a binder or a port, stands on one line; its expressions are
-- printable, and so is the number that a loop is at
abbrev mutual
  pub FormulaIsPrintable : FormulaTree → Type 0
  FormulaIsPrintable trivial = Unit {0}
  FormulaIsPrintable (test e) = ExprIsPrintable e
  FormulaIsPrintable (equation l r) = ExprIsPrintable l × ExprIsPrintable r
  FormulaIsPrintable (next_equation k t e) = ExprIsPrintable t × ExprIsPrintable e
  FormulaIsPrintable empty = Unit {0}
  FormulaIsPrintable more = Unit {0}
  FormulaIsPrintable (next f) = FormulaIsPrintable f
  FormulaIsPrintable (weak_next f) = FormulaIsPrintable f
  FormulaIsPrintable (if_more f) = FormulaIsPrintable f
  FormulaIsPrintable (if_empty f) = FormulaIsPrintable f
  FormulaIsPrintable (always f) = FormulaIsPrintable f
  FormulaIsPrintable (conjunction fs) = FormulasArePrintable fs
  FormulaIsPrintable (branch e f g) =
      ExprIsPrintable e × FormulaIsPrintable f × FormulaIsPrintable g
  FormulaIsPrintable (len e) = ExprIsPrintable e
  FormulaIsPrintable (assign t e) = ExprIsPrintable t × ExprIsPrintable e
  FormulaIsPrintable (chop f g) = FormulaIsPrintable f × FormulaIsPrintable g
  FormulaIsPrintable (while e f) = ExprIsPrintable e × FormulaIsPrintable f
  FormulaIsPrintable (for_from name k e f) =
      IsOneLine name × IsNumber k × ExprIsPrintable e × FormulaIsPrintable f
  FormulaIsPrintable (forall_from name k e f) =
      IsOneLine name × IsNumber k × ExprIsPrintable e × FormulaIsPrintable f
  FormulaIsPrintable (project f g) = FormulaIsPrintable f × FormulaIsPrintable g
  FormulaIsPrintable (exists name lasting f) = IsOneLine name × FormulaIsPrintable f
  FormulaIsPrintable (call p es) = ExprsArePrintable es
  FormulaIsPrintable (input e port) = ExprIsPrintable e × IsOneLine port
  FormulaIsPrintable (display es) = ExprsArePrintable es

  pub FormulasArePrintable : FormulaTrees → Type 0
  FormulasArePrintable no_formula = Unit {0}
  FormulasArePrintable (formula_then f fs) = FormulaIsPrintable f × FormulasArePrintable fs

-- a definition with its names on one line, and its formula and its expression printable
pub record DefinitionIsPrintable (d : Definition) : Type 0 where
  pub name : IsOneLine d.name
  pub parameters : All IsOneLine d.parameters
  pub formula : FormulaIsPrintable d.formula
  pub expr : IfSome d.expr ExprIsPrintable

pub record ProgramIsPrintable (p : ProgramTree) : Type 0 where
  pub definitions : All DefinitionIsPrintable p.defs
  pub main : FormulaIsPrintable p.main
  pub globals : All IsOneLine p.globals

-- a place within the limits on paths, or a value within the limits on numbers, items and depth
abbrev pub BindingIsPrintable : BindingTree → Type 0
BindingIsPrintable (place_binding p) = IsPathWithinLimits p
BindingIsPrintable (known_binding t) = IsWithinLimits t

abbrev pub BindingsArePrintable : Bindings → Type 0
BindingsArePrintable [] = Unit {0}
BindingsArePrintable (b ∷ env) = BindingIsPrintable b × BindingsArePrintable env

abbrev pub PhraseIsPrintable : FormulaTree → Bindings → Type 0
PhraseIsPrintable f env = FormulaIsPrintable f × BindingsArePrintable env

abbrev pub LeafIsPrintable : Leaf → Type 0
LeafIsPrintable (Do f env) = PhraseIsPrintable f env
LeafIsPrintable (Later f env) = PhraseIsPrintable f env
LeafIsPrintable (Shown vs) = Unit {0}

abbrev pub HolderIsPrintable : Holder → Type 0
HolderIsPrintable (Split f env) = PhraseIsPrintable f env
HolderIsPrintable (SplitProject f env) = PhraseIsPrintable f env
HolderIsPrintable Closed = Unit {0}
HolderIsPrintable (Opened f env) = PhraseIsPrintable f env
HolderIsPrintable (Running f env) = PhraseIsPrintable f env

-- each formula of a region, and of the regions in it, is printable under its bindings
abbrev pub EntriesArePrintable : Entries → Type 0
EntriesArePrintable none = Unit {0}
EntriesArePrintable (leaf id l rest) = LeafIsPrintable l × EntriesArePrintable rest
EntriesArePrintable (node id k h held g second rest) =
    HolderIsPrintable k × EntriesArePrintable held × EntriesArePrintable second
    × EntriesArePrintable rest

-- each value of a table of inputs is within the limits on numbers, items and depth
abbrev pub InputsArePrintable : InputTable → Type 0
InputsArePrintable table = ValuesHave IsWithinLimits table
