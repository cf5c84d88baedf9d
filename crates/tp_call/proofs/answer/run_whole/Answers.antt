use Rattle.tp_call.specs.Task.{plan_of}
use Rattle.tp_call.proofs.AnswerLemmas.{ended, closed, write_failed, memory_wanted, run_no_fault}
use Rattle.tp_call.proofs.OrderLemmas.{no_end_in_order, closed_in_order}
use Rattle.tp_call.proofs.WorkLemmas.{task_works}
use Rattle.tp_call.proofs.TurnLemmas.{end_seen}
use Rattle.tp_call.specs.declared.status.Status.TheVariants.{WriteFault, NoMemory}
use Rattle.tp_call.proofs.answer.run_whole.Goals as goal

pub returns-in-Err-Failed-clause-answer : goal.returns-in-Err-Failed-clause-answer
returns-in-Err-Failed-clause-answer g c = λ words held task.
    write_failed _ _ (plan_of c.args.task) task.fits task.names task.states task.asked_for _ (task.beside _ task.asked_for.accepted) _ _ (rw c.in-Err-Failed.field-0-is at c.in-Err-Failed.ensures.made)

pub returns-in-Err-NoMemory-clause-answer : goal.returns-in-Err-NoMemory-clause-answer
returns-in-Err-NoMemory-clause-answer g c = λ words held task.
    memory_wanted _ _ (plan_of c.args.task) task.fits task.names task.states task.asked_for _ (task.beside _ task.asked_for.accepted) _ _ (rw c.in-Err-NoMemory.field-0-is at c.in-Err-NoMemory.ensures.made)

pub finish-requires : goal.finish-requires
finish-requires g c = (ended (plan_of c.args.task) c.args.task.beside _ _ c.in-Ok.ended c.in-Ok.ensures.made).2

pub returns-in-Ok-clause-answer : goal.returns-in-Ok-clause-answer
returns-in-Ok-clause-answer g c = λ words held task.
    let end = c.in-Ok.ended in
    closed _ _ (plan_of c.args.task) task.fits task.names task.states task.asked_for _ (task.beside _ task.asked_for.accepted) _ _ _ end _ (ended (plan_of c.args.task) c.args.task.beside _ _ end c.in-Ok.ensures.made) c.finish.ensures.written

pub returns-in-Err-Failed-clause-in_order : goal.returns-in-Err-Failed-clause-in_order
returns-in-Err-Failed-clause-in_order g c = no_end_in_order _ _ _ (λ end. end)

pub returns-in-Err-NoMemory-clause-in_order : goal.returns-in-Err-NoMemory-clause-in_order
returns-in-Err-NoMemory-clause-in_order g c = no_end_in_order _ _ _ (λ end. end)

pub returns-in-Ok-clause-in_order : goal.returns-in-Ok-clause-in_order
returns-in-Ok-clause-in_order g c = closed_in_order _ _ _ c.in-Ok.ended _ _ _ c.finish.ensures.written c.in-Ok.ensures.in_order

pub returns-in-Ok-clause-read : goal.returns-in-Ok-clause-read
returns-in-Ok-clause-read g c = λ which e. run_no_fault _ c.in-Ok.ended _ _ _ c.finish.ensures.written which e

pub returns-in-Ok-clause-work : goal.returns-in-Ok-clause-work
returns-in-Ok-clause-work g c = λ words held task end. task_works words held c.args.task _ _ _ _ _ c.in-Ok.ended _ task c.in-Ok.ensures.work c.finish.ensures.written end

pub returns-in-Err-Failed-clause-work : goal.returns-in-Err-Failed-clause-work
returns-in-Err-Failed-clause-work g c = λ words held task end. absurd (end_seen WriteFault end)

pub returns-in-Err-NoMemory-clause-work : goal.returns-in-Err-NoMemory-clause-work
returns-in-Err-NoMemory-clause-work g c = λ words held task end. absurd (end_seen NoMemory end)
