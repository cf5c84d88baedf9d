use Rattle.tp_tests.proofs.closing.closed_source.Given as goal

abbrev pub ghosts-closed_state : goal.ghosts-closed_state
ghosts-closed_state a = record { name = a.blank.name; parts = a.blank.parts }
