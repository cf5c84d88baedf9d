use Rattle.std.proofs.Common.{◌≡◌, sym, subst, ap, ap₂, ◌∙◌}
use Rattle.tp_kernel.specs.Read.{expr_tree, formula_tree}
use Rattle.tp_kernel.specs.Equations.{formula_chop, formula_while, expr_not}
use Rattle.tp_meaning.specs.Syntax.{FormulaTree, chop, while, negation}
use Rattle.tp_meaning.specs.Direct.{Means, Repeat}
use Rattle.tp_meaning.proofs.Pieces.{repeat_means}
use Rattle.tp_kernel.proofs.derived.repeat.Goals as goal

pub returns-clause-formula : goal.returns-clause-formula
returns-clause-formula c =
    let goes_on : expr_tree c.in_ok-goes_on.goes_on.value ≡ negation (expr_tree c.args.b.value) = ap expr_tree c.in_ok-goes_on.ensures.ok ∙ expr_not _ in
    let again : formula_tree c.in_ok-again.again.value ≡ formula_tree c.args.w.value = ap formula_tree c.in_ok-again.ensures.cases in
    let rest : formula_tree c.in_ok-rest.rest.value ≡ while (negation (expr_tree c.args.b.value)) (formula_tree c.args.w.value) = ap formula_tree c.in_ok-rest.ensures.ok ∙ formula_while _ _ ∙ ap₂ while goes_on again in
    formula_chop _ _ ∙ ap (chop (formula_tree c.args.w.value)) rest

pub returns-clause-meaning : goal.returns-clause-meaning
returns-clause-meaning c = subst (λ (f : FormulaTree). Means f (Repeat (formula_tree c.args.w.value) (expr_tree c.args.b.value))) (sym (returns-clause-formula c)) (repeat_means (formula_tree c.args.w.value) (expr_tree c.args.b.value))
