use Rattle.std.proofs.Common.{sym, subst, ap, ◌∙◌}
use Rattle.tp_kernel.specs.Read.{formula_tree}
use Rattle.tp_kernel.specs.Equations.{formula_always, formula_if_more}
use Rattle.tp_meaning.specs.Syntax.{FormulaTree, always}
use Rattle.tp_meaning.specs.Direct.{Means, Keep}
use Rattle.tp_meaning.proofs.Means.{keep_means}
use Rattle.tp_kernel.proofs.derived.keep.Goals as goal

pub returns-clause-formula : goal.returns-clause-formula
returns-clause-formula c = formula_always _ ∙ ap (λ w. always (formula_tree w)) c.in_ok-step.ensures.ok ∙ ap always (formula_if_more _)

pub returns-clause-meaning : goal.returns-clause-meaning
returns-clause-meaning c = subst (λ (f : FormulaTree). Means f (Keep (formula_tree c.args.w.value))) (sym (returns-clause-formula c)) (keep_means (formula_tree c.args.w.value))
