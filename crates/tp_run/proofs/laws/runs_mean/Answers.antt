use Rattle.tp_run.proofs.HistoryLemmas.{end_means}
use Rattle.tp_run.proofs.Given.{scene_laws, begin_laws, state_laws}
use Rattle.tp_run.proofs.laws.runs_mean.Goals as goal

pub returns : goal.returns
returns c = λ plan built ps turn w. end_means scene_laws begin_laws state_laws plan built ps turn w
