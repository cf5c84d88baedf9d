use Rattle.tp_run_laws.proofs.AlikeRuns.{runs_agree as law}
use Rattle.tp_run_laws.proofs.order.runs_agree.Goals as goal

pub returns : goal.returns
returns c = law
