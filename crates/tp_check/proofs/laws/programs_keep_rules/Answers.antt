use Rattle.tp_check.proofs.FirstBroken.{programs_keep_rules}
use Rattle.tp_check.proofs.laws.programs_keep_rules.Goals as goal

pub returns : goal.returns
returns c = programs_keep_rules
