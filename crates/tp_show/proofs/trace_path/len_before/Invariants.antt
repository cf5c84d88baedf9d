use Rattle.std.proofs.Common.{◌≡◌, ◌+◌, ◌-◌, ◌≤◌, length, drop}
use Rattle.tp_show.specs.TraceReading.{len_before}
use Rattle.tp_show.proofs.trace_path.len_before.Given as goal

abbrev pub invariant-loop-end : goal.invariant-loop-end
invariant-loop-end l = record { within : l.end ≤ length l.text; so_far : len_before l.stop l.text ≡ l.end + len_before l.stop (drop l.end l.text) }

abbrev pub decreases-loop-end : goal.decreases-loop-end
decreases-loop-end l = length l.text - l.end
