use Rattle.std.proofs.Common.{refl}
use Rattle.tp_eval.specs.Outcome.{outcome}
use Rattle.tp_verdict.proofs.examples.where_a_state_is_unknown.Goals as goal

pub returns-clause-value_is_unknown : goal.returns-clause-value_is_unknown
unfolding outcome
returns-clause-value_is_unknown c = refl

pub returns-clause-end_is_known : goal.returns-clause-end_is_known
unfolding outcome
returns-clause-end_is_known c = refl

pub returns-clause-parts_are_judged_alone : goal.returns-clause-parts_are_judged_alone
unfolding outcome
returns-clause-parts_are_judged_alone c = refl
