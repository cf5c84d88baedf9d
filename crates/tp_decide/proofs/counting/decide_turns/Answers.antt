use Rattle.tp_eval.specs.Answers.{outcome_tree}
use Rattle.tp_scene.specs.Step.{turns}
use Rattle.tp_decide.specs.Decided.{plain_place}
use Rattle.tp_decide.specs.ReadBound.{formula_of, env_of}
use Rattle.tp_decide.proofs.FoundLemmas.{number_without}
use Rattle.tp_decide.proofs.counting.decide_turns.Goals as goal

pub returns-in-Err-clause-outcome : goal.returns-in-Err-clause-outcome
returns-in-Err-clause-outcome c = λ facts n.
    number_without (outcome_tree c.args.found) c.number.result c.in-Err.decision c.number.ensures.found c.in-Err.is (λ m. turns c.args.name.now c.args.k m (formula_of c.args.body.now) (env_of c.args.body.now) (plain_place c.args.place) n) facts n
