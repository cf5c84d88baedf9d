use Rattle.std.proofs.Common.{◌∙◌, ap, sym}
use Rattle.tp_value.specs.Read.{tree}
use Rattle.tp_eval.specs.Answers.{outcome_tree}
use Rattle.tp_scene.specs.Step as row
use Rattle.tp_decide.specs.Found.{option_target}
use Rattle.tp_decide.proofs.EquationLemmas.{side}
use Rattle.tp_decide.proofs.equation.meet.Goals as goal

pub returns-clause-outcome : goal.returns-clause-outcome
returns-clause-outcome c = λ facts n placed. c.compare.ensures.outcome facts n placed ∙ ap (λ t. row.meets facts (side placed (option_target t) (outcome_tree c.args.found)) (tree c.args.value)) (sym c.in-None.is)

pub returns-clause-variables : goal.returns-clause-variables
returns-clause-variables c = λ xs h. c.compare.ensures.variables xs
