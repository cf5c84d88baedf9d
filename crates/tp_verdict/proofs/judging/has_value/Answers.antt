use Rattle.std.proofs.Common.{◌∙◌, ap, sym}
use Rattle.tp_value.specs.Read.{tree}
use Rattle.tp_eval.proofs.Steps.{same_is}
use Rattle.tp_verdict.specs.Verdict.{of_truth}
use Rattle.tp_verdict.proofs.judging.has_value.Goals as goal

pub returns-in-Value : goal.returns-in-Value
returns-in-Value c =
    rw c.in-Value.is (c.truth.ensures ∙ ap of_truth (sym (same_is (tree c.in-Value.found) (tree c.args.value.now) c.same.result c.same.ensures)))
