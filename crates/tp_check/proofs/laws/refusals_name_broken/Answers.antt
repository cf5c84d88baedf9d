use Rattle.tp_check.proofs.FirstBroken.{refusals_name_broken}
use Rattle.tp_check.proofs.laws.refusals_name_broken.Goals as goal

pub returns : goal.returns
returns c = refusals_name_broken
