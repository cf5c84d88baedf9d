use Rattle.std.proofs.Common.{◌∙◌, ap, sym}
use Rattle.tp_value.specs.Read.{tree}
use Rattle.tp_eval.specs.Answers.{outcome_tree}
use Rattle.tp_scene.specs.Step as row
use Rattle.tp_decide.specs.Found.{option_target}
use Rattle.tp_decide.proofs.EquationLemmas.{side, right_value, right_value_waits}
use Rattle.tp_decide.proofs.equation.value_on_right.Goals as goal

pub returns-in-Value-clause-outcome : goal.returns-in-Value-clause-outcome
returns-in-Value-clause-outcome c = λ facts n placed r h.
    c.meet.ensures.outcome facts n placed ∙ right_value facts placed (option_target c.args.target) (tree c.in-Value.other) (tree c.args.value) r h
    ∙ ap (λ o. row.equate_values facts (side placed (option_target c.args.target) (outcome_tree o)) r) (sym c.in-Value.is)

pub returns-in-Wait-clause-outcome : goal.returns-in-Wait-clause-outcome
returns-in-Wait-clause-outcome c = λ facts n placed r h.
    c.meet-in-Wait.ensures.outcome facts n placed ∙ right_value_waits facts placed (option_target c.args.target) c.in-Wait.path (tree c.args.value) r h
    ∙ ap (λ o. row.equate_values facts (side placed (option_target c.args.target) (outcome_tree o)) r) (sym c.in-Wait.is)
