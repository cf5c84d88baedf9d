use Rattle.tp_meaning.proofs.MovePart.{meanings_move as meanings_move_law, meanings_read_their_part as meanings_read_their_part_law}
use Rattle.tp_meaning.proofs.Within.{nothing_shown_outside as nothing_shown_outside_law}
use Rattle.tp_meaning.proofs.ReadVariables.{meanings_read_variables as meanings_read_variables_law}
use Rattle.tp_meaning.proofs.ReadStates.{satisfying_reads_states as satisfying_reads_states_law}
use Rattle.tp_meaning.proofs.moving.meanings_read_their_part.Goals as goal

pub returns-clause-part : goal.returns-clause-part
returns-clause-part c = meanings_read_their_part_law

pub returns-clause-moved : goal.returns-clause-moved
returns-clause-moved c = meanings_move_law

pub returns-clause-outside : goal.returns-clause-outside
returns-clause-outside c = nothing_shown_outside_law

pub returns-clause-variables : goal.returns-clause-variables
returns-clause-variables c = meanings_read_variables_law

pub returns-clause-states : goal.returns-clause-states
returns-clause-states c = satisfying_reads_states_law
