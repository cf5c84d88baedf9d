use Rattle.tp_residual.proofs.Always.{next_written}
use Rattle.tp_residual.proofs.formula.append_nexts.Goals as goal

pub loop-preserved : goal.loop-preserved
loop-preserved c = next_written c.args.out.now c.loop.out c.append.new.self c.loop.counter c.loop.invariant c.in_ok-append.ensures.ok
