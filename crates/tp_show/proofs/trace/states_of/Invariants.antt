use Rattle.std.proofs.Common.{◌+◌, ◌≤◌, length}
use Rattle.std.specs.Str.Lines.{lines}
use Rattle.tp_show.proofs.TraceRuns.{TraceSoFar}
use Rattle.tp_show.proofs.trace.states_of.Given as goal

abbrev pub invariant-loop-rest : goal.invariant-loop-rest
invariant-loop-rest l = record {
  short : l.line + length l.rest ≤ length l.bytes + 1;
  so_far : TraceSoFar (lines l.bytes) (lines l.rest) l.line l.states.items;
}

abbrev pub decreases-loop-rest : goal.decreases-loop-rest
decreases-loop-rest l = length l.rest
