use Rattle.tp_store.proofs.Chosen.{has_agreeing_state, lasting_extends}
use Rattle.tp_store.proofs.laws.agreeing_states_exist.Goals as goal

pub returns-clause-some : goal.returns-clause-some
returns-clause-some c = has_agreeing_state

pub returns-clause-lasting : goal.returns-clause-lasting
returns-clause-lasting c = lasting_extends
