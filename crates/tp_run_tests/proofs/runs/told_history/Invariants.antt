use Rattle.tp_run_tests.proofs.runs.told_history.Given as goal

abbrev pub ghosts-history : goal.ghosts-history
ghosts-history a = record { name = a.blank.name; parts = a.blank.parts }
