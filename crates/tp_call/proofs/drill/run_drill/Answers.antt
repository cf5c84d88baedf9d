use Rattle.std.proofs.Common.{ap, sym, ◌∙◌}
use Rattle.tp_run.specs.declared.limits.Limits.{Limits}
use Rattle.tp_call.proofs.DrillLemmas.{drill_refused}
use Rattle.tp_call.proofs.drill.run_drill.Goals as goal

pub returns-in-Ok-clause-answer : goal.returns-in-Ok-clause-answer
returns-in-Ok-clause-answer g c = λ words job.
    let task = c.in-Ok.ensures in
    c.run_sized.ensures.answer words (record {
      asks = job.asks;
      source = task.program;
      inputs = task.inputs;
      states = ap (λ (l : Limits). l.states) task.limits ∙ job.states;
      reductions = ap (λ (l : Limits). l.reductions) task.limits ∙ job.reductions;
    }) (sym (task.order ∙ job.order))

pub returns-in-Err-clause-answer : goal.returns-in-Err-clause-answer
returns-in-Err-clause-answer g c = λ words job.
    drill_refused words c.args.drill.size _ _ _ _ job.asks c.in-Err.status c.refuse.result c.in-Err.ensures.refused c.refuse.ensures.memory c.refuse.ensures.written
