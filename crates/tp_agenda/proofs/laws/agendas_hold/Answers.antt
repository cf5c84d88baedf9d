use Rattle.tp_agenda.proofs.Held.{begins_held, held_tells_ready, rests_keep_held, steps_keep_held, waits_keep_held, waking_keeps_held}
use Rattle.tp_agenda.proofs.laws.agendas_hold.Goals as goal

pub returns-clause-begins : goal.returns-clause-begins
returns-clause-begins c = begins_held

pub returns-clause-ready : goal.returns-clause-ready
returns-clause-ready c = held_tells_ready

pub returns-clause-steps : goal.returns-clause-steps
returns-clause-steps c = steps_keep_held

pub returns-clause-waits : goal.returns-clause-waits
returns-clause-waits c = waits_keep_held

pub returns-clause-rests : goal.returns-clause-rests
returns-clause-rests c = rests_keep_held

pub returns-clause-woken : goal.returns-clause-woken
returns-clause-woken c = waking_keeps_held
