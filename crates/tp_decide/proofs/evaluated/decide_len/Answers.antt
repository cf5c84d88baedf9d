use Rattle.tp_eval.specs.Answers.{outcome_tree}
use Rattle.tp_kernel.specs.Read.{bindings_of}
use Rattle.tp_scene.specs.Step.{length_left}
use Rattle.tp_decide.proofs.FoundLemmas.{number_without}
use Rattle.tp_decide.proofs.evaluated.decide_len.Goals as goal

pub returns-in-Err-clause-outcome : goal.returns-in-Err-clause-outcome
returns-in-Err-clause-outcome c = λ facts n.
    number_without (outcome_tree c.args.found) c.number.result c.in-Err.decision c.number.ensures.found c.in-Err.is (λ k. length_left k (bindings_of c.args.env.now.value) n) facts n
