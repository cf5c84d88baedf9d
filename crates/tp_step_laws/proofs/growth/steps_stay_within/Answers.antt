use Rattle.tp_step_laws.proofs.Small.{values_within}
use Rattle.tp_step_laws.proofs.StaysWithin.{picks_stay_within}
use Rattle.tp_step_laws.proofs.growth.steps_stay_within.Goals as goal

pub returns-clause-values : goal.returns-clause-values
returns-clause-values c = values_within

pub returns-clause-picks : goal.returns-clause-picks
returns-clause-picks c = picks_stay_within
