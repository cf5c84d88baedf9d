use Rattle.tp_step.proofs.MeaningLemmas.{end_means}
use Rattle.tp_step.proofs.live.settled.Goals as goal

pub returns-in-Some-clause-ends : goal.returns-in-Some-clause-ends
returns-in-Some-clause-ends c = end_means c.args.scene.now

pub returns-in-None-clause-ends : goal.returns-in-None-clause-ends
returns-in-None-clause-ends c = end_means c.args.scene.now
