use Rattle.std.proofs.Common.{sym, ◌∙◌}
use Rattle.tp_call.proofs.drill.close_drill.Goals as goal

pub returns-in-Some-clause-written : goal.returns-in-Some-clause-written
returns-in-Some-clause-written g c = rw (sym c.finished_length.ensures ∙ c.in-Some.is) c.write_line.ensures.written

pub returns-in-None-clause-written : goal.returns-in-None-clause-written
returns-in-None-clause-written g c = rw (sym c.finished_length.ensures ∙ c.in-None.is) c.finish.ensures.written
