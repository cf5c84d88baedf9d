use Rattle.std.proofs.Common.{◌≡◌, ◌+◌, ◌-◌, ◌≤◌, length, drop}
use Rattle.std.specs.List.{prefix_len}
use Rattle.tp_inputs.specs.Spans.{is_range_byte}
use Rattle.tp_inputs.proofs.head.range_len.Given as goal

abbrev pub invariant-loop-end : goal.invariant-loop-end
invariant-loop-end l = record { within : l.end ≤ length l.text; so_far : prefix_len is_range_byte l.text ≡ l.end + prefix_len is_range_byte (drop l.end l.text) }

abbrev pub decreases-loop-end : goal.decreases-loop-end
decreases-loop-end l = length l.text - l.end
