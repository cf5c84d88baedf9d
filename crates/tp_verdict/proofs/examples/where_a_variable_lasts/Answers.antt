use Rattle.std.proofs.Common.{refl}
use Rattle.tp_eval.specs.Outcome.{outcome}
use Rattle.tp_verdict.proofs.examples.where_a_variable_lasts.Goals as goal

pub returns-clause-later_facts_are_known : goal.returns-clause-later_facts_are_known
unfolding outcome
returns-clause-later_facts_are_known c = refl

pub returns-clause-two_values_are_torn : goal.returns-clause-two_values_are_torn
unfolding outcome
returns-clause-two_values_are_torn c = refl
