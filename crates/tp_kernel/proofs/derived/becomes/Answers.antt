use Rattle.std.proofs.Common.{◌≡◌, sym, subst, ap, ap₂, ◌∙◌, [], ◌∷◌}
use Rattle.std.proofs.lemmas.Result.{IfOk-weaker}
use Rattle.tp_kernel.specs.Read.{expr_tree, formula_tree}
use Rattle.tp_meaning.specs.Derived.{skip_of}
use Rattle.tp_kernel.specs.Equations.{formula_next_eq}
use Rattle.tp_meaning.specs.Syntax.{FormulaTree, conjunction, formulas_of, next_equation}
use Rattle.tp_meaning.specs.Direct.{Means, Becomes}
use Rattle.tp_meaning.proofs.Means.{becomes_means}
use Rattle.tp_kernel.proofs.derived.becomes.Goals as goal

pub returns-clause-formula : goal.returns-clause-formula
returns-clause-formula c =
    let one : formula_tree c.in_ok-one.one.value ≡ skip_of = ap formula_tree c.in_ok-one.ensures.ok ∙ c.in_ok-skip.ensures.formula in
    let next : formula_tree c.in_ok-next.next.value ≡ next_equation 1 (expr_tree c.args.a.value) (expr_tree c.args.e.value) = ap formula_tree c.in_ok-next.ensures.ok ∙ formula_next_eq _ _ _ in
    IfOk-weaker c.both.result _ _ (λ f is. is ∙ ap₂ (λ w v. conjunction (formulas_of (w ∷ v ∷ []))) one next) c.both.ensures

pub returns-clause-meaning : goal.returns-clause-meaning
returns-clause-meaning c =
    IfOk-weaker c.both.result _ _
    (λ f is. subst (λ (f : FormulaTree). Means f (Becomes (expr_tree c.args.a.value) (expr_tree c.args.e.value))) (sym is) (becomes_means (expr_tree c.args.a.value) (expr_tree c.args.e.value)))
    (returns-clause-formula c)
