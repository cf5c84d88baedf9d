use Rattle.std.proofs.Common.{sym, subst, ap, ◌∙◌}
use Rattle.std.proofs.lemmas.Result.{IfOk-weaker}
use Rattle.tp_kernel.specs.Read.{expr_tree}
use Rattle.tp_meaning.specs.Derived.{gets_of}
use Rattle.tp_meaning.specs.Syntax.{FormulaTree}
use Rattle.tp_meaning.specs.Direct.{Means, Stable}
use Rattle.tp_meaning.proofs.Means.{stable_means}
use Rattle.tp_kernel.proofs.derived.stable.Goals as goal

pub returns-clause-formula : goal.returns-clause-formula
returns-clause-formula c =
    IfOk-weaker c.gets.result _ _
    (λ f is. is ∙ ap (λ e. gets_of (expr_tree c.args.a.value) (expr_tree e)) c.in_ok-again.ensures.cases)
    c.gets.ensures.formula

pub returns-clause-meaning : goal.returns-clause-meaning
returns-clause-meaning c =
    IfOk-weaker c.gets.result _ _
    (λ f is. subst (λ (f : FormulaTree). Means f (Stable (expr_tree c.args.a.value))) (sym is) (stable_means (expr_tree c.args.a.value)))
    (returns-clause-formula c)
