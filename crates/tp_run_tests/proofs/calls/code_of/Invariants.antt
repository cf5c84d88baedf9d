use Rattle.tp_run_tests.proofs.calls.code_of.Given as goal

abbrev pub ghosts-call : goal.ghosts-call
ghosts-call g a = record { name = a.blank.name; parts = a.blank.parts }
