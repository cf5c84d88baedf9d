use Rattle.tp_run.proofs.laws.runs_advance.Goals as goal
use Rattle.tp_run.proofs.HistoryLemmas.{runs_advance}

pub returns : goal.returns
returns c = runs_advance
