use Rattle.std.proofs.Common.{◌≡◌, ◌-◌, ◌≤◌, length, take, count_by, nat_eq}
use Rattle.tp_lanes.proofs.count.count_byte.Given as goal

abbrev pub invariant-by_block : goal.invariant-by_block
invariant-by_block l = (l.at ≤ length l.bytes) × (l.total ≡ count_by (λ b. nat_eq b l.byte) (take l.at l.bytes))

abbrev pub decreases-by_block : goal.decreases-by_block
decreases-by_block l = length l.bytes - l.at

abbrev pub invariant-loop-at : goal.invariant-loop-at
invariant-loop-at l = (l.at ≤ length l.bytes) × (l.total ≡ count_by (λ b. nat_eq b l.byte) (take l.at l.bytes))

abbrev pub decreases-loop-at : goal.decreases-loop-at
decreases-loop-at l = length l.bytes - l.at
