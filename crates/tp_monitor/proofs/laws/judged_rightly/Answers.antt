use Rattle.tp_monitor.proofs.TraceRight.{trace_verdicts_are_right, undecided_by_trace_limits}
use Rattle.tp_monitor.proofs.laws.judged_rightly.Goals as goal

pub returns-clause-right : goal.returns-clause-right
returns-clause-right c = trace_verdicts_are_right

pub returns-clause-limits : goal.returns-clause-limits
returns-clause-limits c = undecided_by_trace_limits
