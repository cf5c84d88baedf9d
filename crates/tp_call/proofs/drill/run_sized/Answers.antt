use Rattle.std.proofs.Common.{refl}
use Rattle.tp_call.specs.Task.{plan_of}
use Rattle.tp_call.proofs.DrillLemmas.{drilled_last, drill_closed}
use Rattle.tp_call.proofs.drill.run_sized.Goals as goal

pub close_drill-requires : goal.close_drill-requires
close_drill-requires g c = drilled_last (plan_of c.args.task) c.args.task.order _ _ c.in-Ok.drilled c.in-Ok.ensures

pub returns-in-Ok-clause-answer : goal.returns-in-Ok-clause-answer
returns-in-Ok-clause-answer g c = λ words asked ordered.
    drill_closed words c.args.size _ _ _ _ (plan_of c.args.task) asked c.requires.fits c.args.task.order ordered c.in-Ok.drilled c.in-Ok.ensures c.close_drill.result c.close_drill.ensures.written

pub returns-in-Err-clause-answer : goal.returns-in-Err-clause-answer
returns-in-Err-clause-answer g c = λ words asked ordered. refl
