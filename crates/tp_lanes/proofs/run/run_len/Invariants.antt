use Rattle.std.proofs.Common.{◌≡◌, ◌+◌, ◌-◌, ◌≤◌, length, drop}
use Rattle.std.specs.List.{prefix_len}
use Rattle.tp_lanes.specs.Classes.{in_class}
use Rattle.tp_lanes.proofs.run.run_len.Given as goal

-- what stands before is of the class
abbrev pub invariant-by_block : goal.invariant-by_block
invariant-by_block l = record { within : l.end ≤ length l.bytes; so_far : prefix_len (in_class l.class) l.bytes ≡ l.end + prefix_len (in_class l.class) (drop l.end l.bytes) }

abbrev pub decreases-by_block : goal.decreases-by_block
decreases-by_block l = length l.bytes - l.end

abbrev pub invariant-loop-end : goal.invariant-loop-end
invariant-loop-end l = record { within : l.end ≤ length l.bytes; so_far : prefix_len (in_class l.class) l.bytes ≡ l.end + prefix_len (in_class l.class) (drop l.end l.bytes) }

abbrev pub decreases-loop-end : goal.decreases-loop-end
decreases-loop-end l = length l.bytes - l.end
