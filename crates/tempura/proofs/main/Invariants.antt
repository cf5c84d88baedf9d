use Rattle.tempura.proofs.main.Given as goal

abbrev pub ghosts-call : goal.ghosts-call
ghosts-call a = record { name = a.blank.name; parts = a.blank.parts }
