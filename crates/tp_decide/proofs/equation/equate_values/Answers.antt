use Rattle.std.proofs.Common.{◌∙◌, refl, ap, ap₂, sym}
use Rattle.tp_eval.specs.Answers.{outcome_tree}
use Rattle.tp_scene.specs.Step as row
use Rattle.tp_decide.specs.Found.{option_target}
use Rattle.tp_decide.proofs.EquationLemmas.{side}
use Rattle.tp_decide.proofs.equation.equate_values.Goals as goal

pub returns-in-Value-left_found-clause-outcome : goal.returns-in-Value-left_found-clause-outcome
returns-in-Value-left_found-clause-outcome c = λ facts n.
    c.meet.ensures.outcome facts n c.args.right.placed
    ∙ ap₂ (λ o p. row.equate_values facts (side c.args.left.placed (option_target c.args.left.target) (outcome_tree o)) (side c.args.right.placed (option_target c.args.right.target) (outcome_tree p))) (sym c.in-Value-left_found.is) (sym c.in-Wait.is)

pub returns-in-Over-clause-variables : goal.returns-in-Over-clause-variables
returns-in-Over-clause-variables c = λ xs h g. c.pass_on_right.ensures.variables xs

pub returns-in-Value-clause-variables : goal.returns-in-Value-clause-variables
returns-in-Value-clause-variables c = λ xs h g. c.value_on_right.ensures.variables xs h

pub returns-clause-variables : goal.returns-clause-variables
returns-clause-variables c = λ xs h g. c.wait_for_both.ensures.variables xs

pub returns-in-Value-left_found-clause-variables : goal.returns-in-Value-left_found-clause-variables
returns-in-Value-left_found-clause-variables c = λ xs h g. c.meet.ensures.variables xs g

pub returns-in-Over-clause-outcome : goal.returns-in-Over-clause-outcome
returns-in-Over-clause-outcome c = λ facts n.
    c.pass_on_right.ensures.outcome facts n (side c.args.left.placed (option_target c.args.left.target) (outcome_tree c.args.left.found)) c.args.right.placed refl
    ∙ ap (λ p. row.equate_values facts (side c.args.left.placed (option_target c.args.left.target) (outcome_tree c.args.left.found)) (side c.args.right.placed (option_target c.args.right.target) (outcome_tree p))) (sym c.in-Over.is)

pub returns-in-Over-left_found-clause-variables : goal.returns-in-Over-left_found-clause-variables
returns-in-Over-left_found-clause-variables c = λ xs h g. c.pass_or_wait.ensures.variables xs
