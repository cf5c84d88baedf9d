use Rattle.std.proofs.Common.{◌≡◌, true, length}
use Rattle.tp_inputs.specs.Spans.{are_ports}
use Rattle.tp_inputs.specs.Model.{table_of}
use Rattle.tp_inputs.proofs.LineLemmas.{Continues}
use Rattle.tp_inputs.proofs.line.take_pairs.Given as goal

abbrev pub invariant-loop-rest : goal.invariant-loop-rest
invariant-loop-rest l = record {
  so_far : Continues l.span l.text (table_of l.fn.ports) l.rest (table_of l.ports);
  apart : are_ports (table_of l.ports) ≡ true;
}

abbrev pub decreases-loop-rest : goal.decreases-loop-rest
decreases-loop-rest l = length l.rest
