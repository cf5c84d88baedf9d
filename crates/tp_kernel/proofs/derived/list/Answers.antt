use Rattle.std.proofs.Common.{sym, subst, ap, ◌∙◌}
use Rattle.tp_kernel.specs.Read.{expr_tree}
use Rattle.tp_kernel.specs.Equations.{formula_eq, expr_size}
use Rattle.tp_meaning.specs.Syntax.{FormulaTree, equation}
use Rattle.tp_meaning.specs.Direct.{Means, ListOf}
use Rattle.tp_meaning.proofs.Means.{list_means}
use Rattle.tp_kernel.proofs.derived.list.Goals as goal

pub returns-clause-formula : goal.returns-clause-formula
returns-clause-formula c = formula_eq _ _ ∙ ap (λ l. equation l (expr_tree c.args.e.value)) (ap expr_tree c.in_ok-size.ensures.ok ∙ expr_size _)

pub returns-clause-meaning : goal.returns-clause-meaning
returns-clause-meaning c = subst (λ (f : FormulaTree). Means f (ListOf (expr_tree c.args.l.value) (expr_tree c.args.e.value))) (sym (returns-clause-formula c)) (list_means (expr_tree c.args.l.value) (expr_tree c.args.e.value))
