use Rattle.std.proofs.Common.{◌≡◌, ◌+◌, ◌-◌, length, take}
use Rattle.std.specs.List.{sum}
use Rattle.tp_lanes.proofs.rows.row_of_place.Given as goal

abbrev pub invariant-loop-row : goal.invariant-loop-row
invariant-loop-row l = sum (take l.row l.counts) + l.left ≡ l.place

abbrev pub decreases-loop-row : goal.decreases-loop-row
decreases-loop-row l = length l.counts - l.row
