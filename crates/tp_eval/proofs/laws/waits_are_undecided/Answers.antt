use Rattle.tp_eval.proofs.OutcomesAre.{waits_are_undecided as law, place_waits_are_undecided}
use Rattle.tp_eval.proofs.laws.waits_are_undecided.Goals as goal

pub returns-clause-expressions : goal.returns-clause-expressions
returns-clause-expressions c = law

pub returns-clause-places : goal.returns-clause-places
returns-clause-places c = place_waits_are_undecided
