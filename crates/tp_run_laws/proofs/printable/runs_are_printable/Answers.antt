use Rattle.tp_run_laws.proofs.Runs.{runs_are_printable as law}
use Rattle.tp_run_laws.proofs.printable.runs_are_printable.Goals as goal

pub returns : goal.returns
returns c = law
