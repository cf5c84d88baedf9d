use Rattle.std.proofs.Common.{sym, subst, ap, ◌∙◌}
use Rattle.tp_kernel.specs.Read.{formula_tree}
use Rattle.tp_kernel.specs.Equations.{formula_next, formula_empty}
use Rattle.tp_meaning.specs.Syntax.{FormulaTree, next}
use Rattle.tp_meaning.specs.Direct.{Means, Skip}
use Rattle.tp_meaning.proofs.Means.{skip_means}
use Rattle.tp_kernel.proofs.derived.skip.Goals as goal

pub returns-clause-formula : goal.returns-clause-formula
returns-clause-formula c = formula_next _ ∙ ap (λ w. next (formula_tree w)) c.in_ok-empty.ensures.ok ∙ ap next formula_empty

pub returns-clause-meaning : goal.returns-clause-meaning
returns-clause-meaning c = subst (λ (f : FormulaTree). Means f Skip) (sym (returns-clause-formula c)) skip_means
