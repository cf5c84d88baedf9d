use Rattle.std.proofs.Common.{arith}
use Rattle.tp_show.proofs.TraceRead.{reads_printed, reads_arranged}
use Rattle.tp_show.proofs.trace.read_trace.Goals as goal

pub returns-clause-printed : goal.returns-clause-printed
returns-clause-printed c = reads_printed c.args.bytes.now _ (omega arith) c.states_of.ensures.trace c.states_of.ensures.refused

pub returns-clause-arranged : goal.returns-clause-arranged
returns-clause-arranged c = reads_arranged c.args.bytes.now _ (omega arith) c.states_of.ensures.trace c.states_of.ensures.refused
