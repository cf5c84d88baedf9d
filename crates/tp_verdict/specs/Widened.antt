-- The formulas that can be run among the wider ones.
use Rattle.std.specs.Prelude.{Option, Some, None}
use Rattle.tp_meaning.specs.Syntax.{FormulaTree, FormulaTrees, trivial, test, equation, next_equation, empty, more, next, weak_next, if_more, if_empty, always, conjunction, branch, len, assign, chop, while, for_from, forall_from, project, exists, call, input, display, no_formula, formula_then}
use Rattle.tp_meaning.specs.Value.{◌>>=◌}
use Rattle.tp_verdict.specs.Wide as wide
use Rattle.tp_verdict.specs.Wide.{WideTree, WideTrees}

abbrev mutual
  -- the same formula as a wider one, where all of its kinds are there
  pub widened : FormulaTree → Option WideTree
  widened trivial = Some wide.trivial
  widened (test e) = Some (wide.test e)
  widened (equation l r) = Some (wide.equation l r)
  widened (next_equation k t e) = Some (wide.next_equation k t e)
  widened empty = Some wide.empty
  widened more = Some wide.more
  widened (next f) = widened f >>= λ w. Some (wide.next w)
  widened (weak_next f) = None
  widened (if_more f) = widened f >>= λ w. Some (wide.if_more w)
  widened (if_empty f) = widened f >>= λ w. Some (wide.if_empty w)
  widened (always f) = widened f >>= λ w. Some (wide.always w)
  widened (conjunction fs) = all_widened fs >>= λ ws. Some (wide.conjunction ws)
  widened (branch e f g) = do
    w ← widened f
    v ← widened g
    Some (wide.branch e w v)
  widened (len e) = Some (wide.len e)
  widened (assign t e) = Some (wide.assign t e)
  widened (chop f g) = do
    w ← widened f
    v ← widened g
    Some (wide.chop w v)
  widened (while e f) = widened f >>= λ w. Some (wide.while e w)
  widened (for_from name k e f) = None
  widened (forall_from name k e f) = None
  widened (project f g) = None
  widened (exists name lasting f) = None
  widened (call p es) = None
  widened (input e port) = None
  widened (display es) = None

  pub all_widened : FormulaTrees → Option WideTrees
  all_widened no_formula = Some wide.no_formula
  all_widened (formula_then f fs) = do
    w ← widened f
    ws ← all_widened fs
    Some (wide.formula_then w ws)
