-- The plain trees of wider formulas.
use Rattle.tp_kernel.specs.Read.{expr_tree}
use Rattle.tp_verdict.specs.Wide.{WideTree, WideTrees, trivial, test, equation, next_equation, empty, more, next, if_more, if_empty, always, conjunction, branch, len, assign, chop, while, disjunction, negation, sometimes, wide_formulas_of}
use Rattle.tp_verdict.specs.declared.wide_formula.WideFormula.{WideFormula}
use Rattle.tp_verdict.specs.declared.wide_formula.WideFormula.TheOpen.{WideFormula-F, WideFormulas-F}
use Rattle.tp_verdict.specs.declared.wide_formula.WideFormula.TheFolds.{fold-WideFormula, fold-WideFormulas}
use Rattle.tp_verdict.specs.declared.wide_formula.WideFormulas.{WideFormulas}

-- one level, with what is below already seen as its trees
abbrev pub wide_fold : WideFormula-F WideTree WideTrees → WideTree
wide_fold WideFormula-F.True = trivial
wide_fold (WideFormula-F.Test e) = test (expr_tree e.value)
wide_fold (WideFormula-F.Eq a b) = equation (expr_tree a.value) (expr_tree b.value)
wide_fold (WideFormula-F.NextEq k a b) = next_equation k (expr_tree a.value) (expr_tree b.value)
wide_fold WideFormula-F.Empty = empty
wide_fold WideFormula-F.More = more
wide_fold (WideFormula-F.Next w) = next w.value
wide_fold (WideFormula-F.IfMore w) = if_more w.value
wide_fold (WideFormula-F.IfEmpty w) = if_empty w.value
wide_fold (WideFormula-F.Always w) = always w.value
wide_fold (WideFormula-F.And ws) = conjunction ws
wide_fold (WideFormula-F.If b w v) = branch (expr_tree b.value) w.value v.value
wide_fold (WideFormula-F.Len e) = len (expr_tree e.value)
wide_fold (WideFormula-F.Assign t e) = assign (expr_tree t.value) (expr_tree e.value)
wide_fold (WideFormula-F.Chop w v) = chop w.value v.value
wide_fold (WideFormula-F.While b w) = while (expr_tree b.value) w.value
wide_fold (WideFormula-F.Or w v) = disjunction w.value v.value
wide_fold (WideFormula-F.Not w) = negation w.value
wide_fold (WideFormula-F.Sometimes w) = sometimes w.value
-- a formula and a loop of it, in which it stands once
wide_fold (WideFormula-F.Repeat w b) = chop w.value (while (expr_tree b.value) w.value)

abbrev pub wides_fold : WideFormulas-F WideTree WideTrees → WideTrees
wides_fold ws = wide_formulas_of ws.items.items

-- the plain tree of a wider formula, and of several
abbrev pub wide_tree : WideFormula → WideTree
wide_tree = fold-WideFormula WideTree WideTrees wide_fold wides_fold

abbrev pub wide_trees : WideFormulas → WideTrees
wide_trees = fold-WideFormulas WideTree WideTrees wide_fold wides_fold
