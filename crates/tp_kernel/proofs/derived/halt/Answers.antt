use Rattle.std.proofs.Common.{sym, subst, ap, ap₂, ◌∙◌}
use Rattle.tp_kernel.specs.Read.{expr_tree, formula_tree}
use Rattle.tp_kernel.specs.Equations.{formula_always, formula_if, formula_empty, formula_more}
use Rattle.tp_meaning.specs.Syntax.{FormulaTree, always, branch}
use Rattle.tp_meaning.specs.Direct.{Means, Halt}
use Rattle.tp_meaning.proofs.Means.{halt_means}
use Rattle.tp_kernel.proofs.derived.halt.Goals as goal

pub returns-clause-formula : goal.returns-clause-formula
returns-clause-formula c =
    formula_always _ ∙ ap (λ w. always (formula_tree w)) c.in_ok-choice.ensures.ok ∙ ap always (formula_if _ _ _ ∙ ap₂ (λ w v. branch (expr_tree c.args.b.value) (formula_tree w) (formula_tree v)) c.in_ok-empty.ensures.ok c.in_ok-more.ensures.ok
    ∙ ap₂ (branch (expr_tree c.args.b.value)) formula_empty formula_more)

pub returns-clause-meaning : goal.returns-clause-meaning
returns-clause-meaning c = subst (λ (f : FormulaTree). Means f (Halt (expr_tree c.args.b.value))) (sym (returns-clause-formula c)) (halt_means (expr_tree c.args.b.value))
