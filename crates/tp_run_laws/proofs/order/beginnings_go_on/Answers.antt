use Rattle.tp_run_laws.proofs.Beginnings.{beginnings_go_on as law}
use Rattle.tp_run_laws.proofs.order.beginnings_go_on.Goals as goal

pub returns : goal.returns
returns c = law
