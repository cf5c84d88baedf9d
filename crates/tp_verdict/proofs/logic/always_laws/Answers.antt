use Rattle.tp_verdict.proofs.AlwaysLaws.{always_by_induction, not_not as not_not_law, sometimes_and_always}
use Rattle.tp_verdict.proofs.logic.always_laws.Goals as goal

pub returns : goal.returns
returns c = record { induction = always_by_induction; not_not = not_not_law; duals = sometimes_and_always }
