-- The plain trees of wider formulas.
use Rattle.std.proofs.Common.{◌≡◌, map, ap, sym, ◌∙◌, Global}
use Rattle.std.specs.declared.rc.Rc.{Rc}
use Rattle.std.specs.declared.boxed.Box.{Box}
use Rattle.tp_kernel.specs.declared.formula.Expr.{Expr}
use Rattle.tp_kernel.specs.Read.{expr_tree}
use Rattle.tp_verdict.specs.Wide.{WideTree, WideTrees, conjunction, chop, while, sometimes, wide_formulas_of}
use Rattle.tp_verdict.specs.declared.wide_formula.WideFormula.{WideFormula}
use Rattle.tp_verdict.specs.declared.wide_formula.WideFormulas.{WideFormulas}
use Rattle.tp_verdict.specs.declared.wide_formula.WideFormula.TheOpen.{WideFormula-F}
use Rattle.tp_verdict.specs.declared.wide_formula.WideFormula.TheViews.{roll-WideFormula}
use Rattle.tp_verdict.specs.declared.wide_formula.WideFormula.TheVariants as wide
use Rattle.tp_verdict.specs.declared.wide_formula.WideFormula.TheFolds.{map-WideFormula, fold-roll-WideFormula, fold_out-WideFormulas}
use Rattle.tp_verdict.specs.Read.{wide_tree, wide_trees, wide_fold, wides_fold}

-- the tree of what is rolled, by the trees of its parts
rolled : {w : WideFormula} (d : WideFormula-F WideFormula WideFormulas) → roll-WideFormula d ≡ w
    → wide_tree w ≡ wide_fold (map-WideFormula WideFormula WideFormulas WideTree WideTrees wide_tree wide_trees d)
rolled d e = ap wide_tree (sym e) ∙ fold-roll-WideFormula WideTree WideTrees wide_fold wides_fold d

pub wide_chop : (w : Box WideFormula Global) (v : Box WideFormula Global)
    → wide_tree (wide.Chop w v) ≡ chop (wide_tree w.value) (wide_tree v.value)
wide_chop w v = rolled (WideFormula-F.Chop w v) (wide.rolls-Chop w v)

pub wide_sometimes : (w : Box WideFormula Global)
    → wide_tree (wide.Sometimes w) ≡ sometimes (wide_tree w.value)
wide_sometimes w = rolled (WideFormula-F.Sometimes w) (wide.rolls-Sometimes w)

pub wide_repeat : (w : Box WideFormula Global) (b : Rc Expr Global)
    → wide_tree (wide.Repeat w b) ≡ chop (wide_tree w.value) (while (expr_tree b.value) (wide_tree w.value))
wide_repeat w b = rolled (WideFormula-F.Repeat w b) (wide.rolls-Repeat w b)

-- several formulas
pub wide_trees_is : (ws : WideFormulas) → wide_trees ws ≡ wide_formulas_of (map wide_tree ws.items.items)
wide_trees_is ws = fold_out-WideFormulas WideTree WideTrees wide_fold wides_fold ws

pub wide_and : (ws : WideFormulas)
    → wide_tree (wide.And ws) ≡ conjunction (wide_formulas_of (map wide_tree ws.items.items))
wide_and ws = rolled (WideFormula-F.And ws) (wide.rolls-And ws) ∙ ap conjunction (wide_trees_is ws)
