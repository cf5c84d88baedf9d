use Rattle.tp_scene.proofs.Begin.{runs_begin}
use Rattle.tp_scene.proofs.StepLaws.{steps_keep, refusals_mean}
use Rattle.tp_scene.proofs.EndLaws.{all_advances_keep, all_ends_stand}
use Rattle.tp_scene.proofs.laws.moments_stand.Goals as goal

pub returns-clause-begins : goal.returns-clause-begins
returns-clause-begins c = runs_begin

pub returns-clause-steps : goal.returns-clause-steps
returns-clause-steps c = steps_keep

pub returns-clause-refusals : goal.returns-clause-refusals
returns-clause-refusals c = refusals_mean

pub returns-clause-advances : goal.returns-clause-advances
returns-clause-advances c = all_advances_keep

pub returns-clause-ends : goal.returns-clause-ends
returns-clause-ends c = all_ends_stand
