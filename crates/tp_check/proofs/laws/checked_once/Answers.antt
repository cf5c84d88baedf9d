use Rattle.tp_check.proofs.Determined.{checks_once}
use Rattle.tp_check.proofs.laws.checked_once.Goals as goal

pub returns : goal.returns
returns c = checks_once
