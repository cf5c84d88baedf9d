use Rattle.tp_store.proofs.Meaning.{facts_say_the_value, full_is_right, open_is_undecided}
use Rattle.tp_store.proofs.States.{same_shapes_same_store}
use Rattle.tp_store.proofs.laws.known_is_right.Goals as goal

pub returns-clause-says_the_value : goal.returns-clause-says_the_value
returns-clause-says_the_value c = facts_say_the_value

pub returns-clause-full : goal.returns-clause-full
returns-clause-full c = full_is_right

pub returns-clause-open_paths : goal.returns-clause-open_paths
returns-clause-open_paths c = open_is_undecided

pub returns-clause-same_shapes : goal.returns-clause-same_shapes
returns-clause-same_shapes c = same_shapes_same_store
