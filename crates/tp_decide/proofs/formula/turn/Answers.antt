use Rattle.std.proofs.Common.{◌∙◌, ◌++◌, [], ◌∷◌, map, ap, ap₂}
use Rattle.tp_kernel.specs.Read.{formula_tree}
use Rattle.tp_kernel.specs.Equations.{formula_chop, formula_and, formula_more}
use Rattle.tp_meaning.specs.Syntax.{FormulaTree, chop, conjunction, formulas_of}
use Rattle.tp_decide.proofs.formula.turn.Goals as goal

pub returns : goal.returns
returns c =
    let body = c.in_ok-clone.field-0 in
    let more = c.in_ok-new.field-0 in
    let parts = c.in_ok-push-2.ensures.items ∙ ap (λ ws. ws ++ more ∷ []) (c.in_ok-push.ensures.items ∙ ap (λ ws. ws ++ body ∷ []) c.new-parts.ensures.items) in
    let operands = ap₂ (λ (f g : FormulaTree). f ∷ g ∷ []) (ap formula_tree c.in_ok-clone.ensures.cases) (ap formula_tree c.in_ok-new.ensures.ok ∙ formula_more) in
    ap formula_tree c.in_ok-turn.ensures.ok ∙ formula_chop c.in_ok-first.first c.in_ok-rest.rest
    ∙ ap₂ chop (ap formula_tree c.in_ok-first.ensures.ok ∙ formula_and _ ∙ ap (λ ws. conjunction (formulas_of (map (λ w. formula_tree w.value) ws))) parts ∙ ap (λ fs. conjunction (formulas_of fs)) operands)
    (ap formula_tree c.in_ok-rest.ensures.cases)
