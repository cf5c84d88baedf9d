use Rattle.tp_store.proofs.Meaning.{clashes_agree_nowhere}
use Rattle.tp_store.proofs.States.{adding_adds_meaning, refused_agree_nowhere, no_clash_arises}
use Rattle.tp_store.proofs.laws.adding_is_right.Goals as goal

pub returns-clause-clashes : goal.returns-clause-clashes
returns-clause-clashes c = clashes_agree_nowhere

pub returns-clause-added : goal.returns-clause-added
returns-clause-added c = adding_adds_meaning

pub returns-clause-refused : goal.returns-clause-refused
returns-clause-refused c = refused_agree_nowhere

pub returns-clause-no_clash : goal.returns-clause-no_clash
returns-clause-no_clash c = no_clash_arises
