use Rattle.tp_eval.proofs.OutcomesAre.{outcomes_mean as outcomes_mean_law}
use Rattle.tp_eval.proofs.Bound.{places_mean as places_mean_law}
use Rattle.tp_eval.proofs.laws.outcomes_mean.Goals as goal

pub returns-clause-outcomes : goal.returns-clause-outcomes
returns-clause-outcomes c = outcomes_mean_law

pub returns-clause-places : goal.returns-clause-places
returns-clause-places c = places_mean_law
