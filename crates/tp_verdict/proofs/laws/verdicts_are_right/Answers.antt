use Rattle.tp_verdict.proofs.Right.{verdicts_are_right as right_law, undecided_where_open}
use Rattle.tp_verdict.proofs.Limits.{undecided_by_limits}
use Rattle.tp_verdict.proofs.Torn.{torn_by_lasting}
use Rattle.tp_verdict.proofs.laws.verdicts_are_right.Goals as goal

pub returns : goal.returns
returns c = record { right = right_law; undecided = undecided_where_open; limits = undecided_by_limits; torn = torn_by_lasting }
