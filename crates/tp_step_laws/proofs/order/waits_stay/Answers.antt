use Rattle.tp_step_laws.proofs.Waiting.{waits_stay, rests_stay}
use Rattle.tp_step_laws.proofs.Woken.{waits_stay_until_woken}
use Rattle.tp_step_laws.proofs.Again.{others_stand_as_before}
use Rattle.tp_step_laws.proofs.Unmarked.{unmarked_steps_end_nothing}
use Rattle.tp_step_laws.proofs.OneAround.{one_stands_around}
use Rattle.tp_step_laws.proofs.Near.{marked_steps_end_near}
use Rattle.tp_step_laws.proofs.order.waits_stay.Goals as goal

pub returns-clause-stay : goal.returns-clause-stay
returns-clause-stay c = waits_stay

pub returns-clause-woken : goal.returns-clause-woken
returns-clause-woken c = waits_stay_until_woken

pub returns-clause-unmarked : goal.returns-clause-unmarked
returns-clause-unmarked c = unmarked_steps_end_nothing

pub returns-clause-near : goal.returns-clause-near
returns-clause-near c = marked_steps_end_near

pub returns-clause-around : goal.returns-clause-around
returns-clause-around c = one_stands_around

pub returns-clause-rests : goal.returns-clause-rests
returns-clause-rests c = rests_stay

pub returns-clause-stands : goal.returns-clause-stands
returns-clause-stands c = others_stand_as_before
