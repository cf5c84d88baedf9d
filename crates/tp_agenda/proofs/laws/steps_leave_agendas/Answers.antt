use Rattle.tp_agenda.proofs.Leaving.{held_comes_to_rest, steps_decide, steps_leave_others}
use Rattle.tp_agenda.proofs.laws.steps_leave_agendas.Goals as goal

pub returns-clause-others : goal.returns-clause-others
returns-clause-others c = steps_leave_others

pub returns-clause-decides : goal.returns-clause-decides
returns-clause-decides c = steps_decide

pub returns-clause-rest : goal.returns-clause-rest
returns-clause-rest c = held_comes_to_rest
