use Rattle.tp_eval.specs.Answers.{outcome_tree}
use Rattle.tp_scene.specs.Step.{instances}
use Rattle.tp_decide.specs.ReadBound.{formula_of, env_of}
use Rattle.tp_decide.proofs.FoundLemmas.{number_without}
use Rattle.tp_decide.proofs.counting.decide_instances.Goals as goal

pub returns-in-Err-clause-outcome : goal.returns-in-Err-clause-outcome
returns-in-Err-clause-outcome c = λ facts n.
    number_without (outcome_tree c.args.found) c.number.result c.in-Err.decision c.number.ensures.found c.in-Err.is (λ m. instances c.args.name.now c.args.k m (formula_of c.args.body.now) (env_of c.args.body.now) n) facts n
