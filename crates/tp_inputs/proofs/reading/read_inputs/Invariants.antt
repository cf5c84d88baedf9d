use Rattle.std.proofs.Common.{◌≡◌, ◌+◌, ◌≤◌, true, length}
use Rattle.std.specs.Str.Lines.{lines}
use Rattle.tp_inputs.specs.Spans.{are_ports, has_ranges}
use Rattle.tp_inputs.specs.Model.{table_of}
use Rattle.tp_inputs.proofs.TableLemmas.{ReadsSoFar}
use Rattle.tp_inputs.proofs.reading.read_inputs.Given as goal

abbrev pub invariant-loop-rest : goal.invariant-loop-rest
invariant-loop-rest l = record {
  so_far : ReadsSoFar (has_ranges (lines l.bytes)) (lines l.bytes) l.number (table_of l.ports) (lines l.rest);
  apart : are_ports (table_of l.ports) ≡ true;
  few : l.number + length l.rest ≤ length l.bytes;
}

abbrev pub decreases-loop-rest : goal.decreases-loop-rest
decreases-loop-rest l = length l.rest
