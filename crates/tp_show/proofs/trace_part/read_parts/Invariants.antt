use Rattle.std.proofs.Common.{length}
use Rattle.tp_show.specs.TraceReading.{trace_parts_of}
use Rattle.tp_show.proofs.TraceSpelled.{PartsGoOn}
use Rattle.tp_show.proofs.trace_part.read_parts.Given as goal

abbrev pub invariant-loop-rest : goal.invariant-loop-rest
invariant-loop-rest l = PartsGoOn l.text l.rest (trace_parts_of l.parts.items)

abbrev pub decreases-loop-rest : goal.decreases-loop-rest
decreases-loop-rest l = length l.rest
