use Rattle.tp_step_laws.proofs.Fuse.{edits_commute}
use Rattle.tp_step_laws.proofs.Bridge.{put_is_edit}
use Rattle.tp_step_laws.proofs.Stay.{remains}
use Rattle.tp_step_laws.proofs.Again.{failures_stay}
use Rattle.tp_step_laws.proofs.MutualFailures.{failures_are_mutual}
use Rattle.tp_step_laws.proofs.Commute.{commute}
use Rattle.tp_step_laws.proofs.order.steps_commute.Goals as goal

pub returns-clause-edits : goal.returns-clause-edits
returns-clause-edits c = edits_commute

pub returns-clause-puts : goal.returns-clause-puts
returns-clause-puts c = put_is_edit

pub returns-clause-remains : goal.returns-clause-remains
returns-clause-remains c = remains

pub returns-clause-failures : goal.returns-clause-failures
returns-clause-failures c = failures_stay

pub returns-clause-mutual : goal.returns-clause-mutual
returns-clause-mutual c = failures_are_mutual

pub returns-clause-steps : goal.returns-clause-steps
returns-clause-steps c = commute failures_are_mutual
