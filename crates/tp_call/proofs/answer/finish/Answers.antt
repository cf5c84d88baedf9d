use Rattle.std.proofs.Common.{refl}
use Rattle.tp_call.proofs.TurnLemmas.{status_there}
use Rattle.tp_call.proofs.answer.finish.Goals as goal

pub returns-in-Err-clause-written : goal.returns-in-Err-clause-written
returns-in-Err-clause-written g c = let s = status_there c.args.ended.turn c.requires in (s.0, s.1, refl)

pub returns-in-Ok-clause-written : goal.returns-in-Ok-clause-written
returns-in-Ok-clause-written g c = rw (c.as_slice.ensures, c.in-Ok.ensures) at c.close_run.ensures.written
