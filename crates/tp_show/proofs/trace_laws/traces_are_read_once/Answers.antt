use Rattle.tp_show.proofs.TraceOnce.{one_trace, one_bad_line, no_bad_trace}
use Rattle.tp_show.proofs.trace_laws.traces_are_read_once.Goals as goal

pub returns : goal.returns
returns c = record { trace = one_trace; bad_line = one_bad_line; apart = no_bad_trace }
