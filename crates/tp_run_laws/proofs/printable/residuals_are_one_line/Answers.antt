use Rattle.tp_run_laws.proofs.Phrases.{entries_one}
use Rattle.tp_run_laws.proofs.printable.residuals_are_one_line.Goals as goal

pub returns : goal.returns
returns c = λ variables definitions s h k p. entries_one variables definitions h k s.root.entries p
