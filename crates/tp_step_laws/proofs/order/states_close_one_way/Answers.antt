use Rattle.tp_step_laws.proofs.Equivalence.{alike_is_equivalence}
use Rattle.tp_step_laws.proofs.AlikeStep.{alike_moments_step}
use Rattle.tp_step_laws.proofs.Rest.{one_rest_of}
use Rattle.tp_step_laws.proofs.CloseOneWay.{states_close_one_way}
use Rattle.tp_step_laws.proofs.order.states_close_one_way.Goals as goal

pub returns-clause-equivalence : goal.returns-clause-equivalence
returns-clause-equivalence c = alike_is_equivalence

pub returns-clause-steps : goal.returns-clause-steps
returns-clause-steps c = alike_moments_step

pub returns-clause-rest : goal.returns-clause-rest
returns-clause-rest c = one_rest_of

pub returns-clause-states : goal.returns-clause-states
returns-clause-states c = states_close_one_way
