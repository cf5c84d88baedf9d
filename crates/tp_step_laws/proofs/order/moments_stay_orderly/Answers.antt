use Rattle.tp_step_laws.proofs.Orderly.{begins_orderly, steps_stay_orderly, advances_stay_orderly}
use Rattle.tp_step_laws.proofs.order.moments_stay_orderly.Goals as goal

pub returns-clause-begins : goal.returns-clause-begins
returns-clause-begins c = begins_orderly

pub returns-clause-steps : goal.returns-clause-steps
returns-clause-steps c = steps_stay_orderly

pub returns-clause-advances : goal.returns-clause-advances
returns-clause-advances c = advances_stay_orderly
