use Rattle.std.specs.Prelude.{if◌then◌else◌}
use Rattle.tp_eval.specs.Answers.{outcome_tree}
use Rattle.tp_kernel.specs.Read.{formula_tree, bindings_of}
use Rattle.tp_scene.specs.Scene.{leaf, none, Do}
use Rattle.tp_scene.specs.Step.{becomes}
use Rattle.tp_decide.proofs.FoundLemmas.{truth_without}
use Rattle.tp_decide.proofs.evaluated.decide_branch.Goals as goal

pub returns-in-Err-clause-outcome : goal.returns-in-Err-clause-outcome
returns-in-Err-clause-outcome c = λ facts n.
    truth_without (outcome_tree c.args.found) c.truth.result c.in-Err.decision c.truth.ensures.found c.in-Err.is
    (λ b. becomes (leaf (n.item 0) (Do (if b then formula_tree c.args.yes.now.value else formula_tree c.args.no.now.value) (bindings_of c.args.env.now.value)) none) 1) facts n
