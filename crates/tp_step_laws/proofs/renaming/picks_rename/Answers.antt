use Rattle.tp_step_laws.proofs.RenameEval.{outcomes_rename as outcomes_rename_law}
use Rattle.tp_step_laws.proofs.RenamePick.{picks_rename as picks_rename_law}
use Rattle.tp_step_laws.proofs.renaming.picks_rename.Goals as goal

pub returns-clause-outcomes : goal.returns-clause-outcomes
returns-clause-outcomes c = outcomes_rename_law

pub returns-clause-picks : goal.returns-clause-picks
returns-clause-picks c = picks_rename_law
