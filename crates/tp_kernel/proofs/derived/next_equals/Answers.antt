use Rattle.std.proofs.Common.{◌≡◌, sym, subst, ap, ap₂, ◌∙◌, [], ◌∷◌}
use Rattle.std.proofs.lemmas.Result.{IfOk-weaker}
use Rattle.tp_kernel.specs.Read.{expr_tree, formula_tree}
use Rattle.tp_kernel.specs.Equations.{formula_more, formula_next_eq}
use Rattle.tp_meaning.specs.Syntax.{FormulaTree, conjunction, formulas_of, more, next_equation}
use Rattle.tp_meaning.specs.Direct.{Means, NextEquals}
use Rattle.tp_meaning.proofs.Means.{next_equals_means}
use Rattle.tp_kernel.proofs.derived.next_equals.Goals as goal

pub returns-clause-formula : goal.returns-clause-formula
returns-clause-formula c =
    let more_is : formula_tree c.in_ok-more.more.value ≡ more = ap formula_tree c.in_ok-more.ensures.ok ∙ formula_more in
    let next : formula_tree c.in_ok-next.next.value ≡ next_equation c.args.k (expr_tree c.args.t.value) (expr_tree c.args.e.value) = ap formula_tree c.in_ok-next.ensures.ok ∙ formula_next_eq _ _ _ in
    IfOk-weaker c.both.result _ _ (λ f is. is ∙ ap₂ (λ w v. conjunction (formulas_of (w ∷ v ∷ []))) more_is next) c.both.ensures

pub returns-clause-meaning : goal.returns-clause-meaning
returns-clause-meaning c =
    IfOk-weaker c.both.result _ _
    (λ f is. subst (λ (f : FormulaTree). Means f (NextEquals c.args.k (expr_tree c.args.t.value) (expr_tree c.args.e.value))) (sym is) (next_equals_means c.args.k (expr_tree c.args.t.value) (expr_tree c.args.e.value)))
    (returns-clause-formula c)
