use Rattle.std.proofs.Common.{sym, subst, ap, ◌∙◌}
use Rattle.tp_kernel.specs.Read.{expr_tree, formula_tree}
use Rattle.tp_kernel.specs.Equations.{formula_always, formula_if_more, formula_next_eq}
use Rattle.tp_meaning.specs.Syntax.{FormulaTree, always, if_more}
use Rattle.tp_meaning.specs.Direct.{Means, Gets}
use Rattle.tp_meaning.proofs.Means.{gets_means}
use Rattle.tp_kernel.proofs.derived.gets.Goals as goal

pub returns-clause-formula : goal.returns-clause-formula
returns-clause-formula c =
    formula_always _ ∙ ap (λ w. always (formula_tree w)) c.in_ok-step.ensures.ok ∙ ap always (formula_if_more _ ∙ ap (λ w. if_more (formula_tree w)) c.in_ok-next.ensures.ok ∙ ap if_more (formula_next_eq _ _ _))

pub returns-clause-meaning : goal.returns-clause-meaning
returns-clause-meaning c = subst (λ (f : FormulaTree). Means f (Gets (expr_tree c.args.a.value) (expr_tree c.args.e.value))) (sym (returns-clause-formula c)) (gets_means (expr_tree c.args.a.value) (expr_tree c.args.e.value))
