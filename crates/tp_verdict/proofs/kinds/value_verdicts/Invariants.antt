use Rattle.std.proofs.Common.{◌≡◌, map, take}
use Rattle.tp_value.specs.Read.{tree}
use Rattle.tp_eval.specs.Answers.{outcome_tree}
use Rattle.tp_verdict.specs.Verdict.{value_verdict}
use Rattle.tp_verdict.specs.Code.{verdict_of}
use Rattle.tp_verdict.proofs.kinds.value_verdicts.Given as goal

abbrev pub invariant-states : goal.invariant-states
invariant-states l = map verdict_of l.verdicts.items ≡ map (λ o. value_verdict (outcome_tree o) (tree l.value)) (take l.outcome-index l.outcomes)
