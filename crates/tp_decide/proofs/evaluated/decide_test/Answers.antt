use Rattle.std.specs.Prelude.{if◌then◌else◌}
use Rattle.tp_eval.specs.Answers.{outcome_tree}
use Rattle.tp_scene.specs.declared.answer.Clash.TheVariants as clash
use Rattle.tp_scene.specs.Step.{vanishes, clashes}
use Rattle.tp_decide.proofs.FoundLemmas.{truth_without}
use Rattle.tp_decide.proofs.evaluated.decide_test.Goals as goal

pub returns-in-Err-clause-outcome : goal.returns-in-Err-clause-outcome
returns-in-Err-clause-outcome c = λ facts n. truth_without (outcome_tree c.args.found) c.truth.result c.in-Err.decision c.truth.ensures.found c.in-Err.is (λ b. if b then vanishes else clashes clash.False) facts n
