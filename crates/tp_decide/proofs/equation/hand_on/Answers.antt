use Rattle.std.proofs.Common.{◌≡◌, ◌∙◌, ap, ap₂, sym}
use Rattle.tp_value.specs.Read.{tree}
use Rattle.tp_value.specs.declared.path.Path.{Path}
use Rattle.tp_value.specs.declared.value.Value.{Value}
use Rattle.tp_meaning.specs.Syntax.{ExprTree}
use Rattle.tp_store.specs.Facts.{facts_at}
use Rattle.tp_store.specs.Known.{addition}
use Rattle.tp_scene.specs.Step as row
use Rattle.tp_decide.specs.Found.{side_found}
use Rattle.tp_decide.proofs.EquationLemmas.{known_set}
use Rattle.tp_decide.proofs.equation.hand_on.Goals as goal

pub returns-clause-outcome : goal.returns-clause-outcome
returns-clause-outcome c = λ facts n defs env.
    let left = side_found c.args.left.now in
    let v = c.in-Some-readable_value.value.now.value in
    ap₂ (λ (p : Path) (w : Value). row.added (addition facts (facts_at p (tree w)))) c.in_ok-path.ensures c.in_ok-value.ensures.cases
    ∙ known_set facts defs env left c.in-Some.path.now (tree v) c.in-Some.ensures.outcome c.in-Some-readable_value.ensures.1
    ∙ ap (λ (e : ExprTree). row.equate_values facts left (row.side_of defs facts e env)) (sym c.in-Some-readable_value.ensures.0)
