use Rattle.tp_step.proofs.FirstWaiting.{first_waiting_is_named, none_named_none_waits}
use Rattle.tp_step.proofs.laws.first_waiting_is_named.Goals as goal

pub returns-clause-named : goal.returns-clause-named
returns-clause-named c = first_waiting_is_named

pub returns-clause-none : goal.returns-clause-none
returns-clause-none c = none_named_none_waits
