use Rattle.tp_scene.proofs.StepsFit.{steps_fit}
use Rattle.tp_scene.proofs.AdvancesFit.{advances_fit}
use Rattle.tp_scene.proofs.laws.moments_stay_sound.Goals as goal

pub returns-clause-steps : goal.returns-clause-steps
returns-clause-steps c = steps_fit

pub returns-clause-advances : goal.returns-clause-advances
returns-clause-advances c = advances_fit
