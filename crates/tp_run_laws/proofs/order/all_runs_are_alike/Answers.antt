use Rattle.tp_run_laws.proofs.AlikeRuns.{all_runs_are_alike as law}
use Rattle.tp_run_laws.proofs.order.all_runs_are_alike.Goals as goal

pub returns : goal.returns
returns c = law
