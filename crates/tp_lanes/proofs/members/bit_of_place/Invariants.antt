use Rattle.std.proofs.Common.{◌≡◌, ◌+◌, ◌-◌, ◌<◌}
use Rattle.tp_lanes.specs.Planes.{passing_below, bit_of}
use Rattle.tp_lanes.proofs.members.bit_of_place.Given as goal

abbrev pub invariant-loop-left : goal.invariant-loop-left
invariant-loop-left l = record { within : l.at < 64; before : passing_below (bit_of l.word) l.at + l.left ≡ l.place }

abbrev pub decreases-loop-left : goal.decreases-loop-left
decreases-loop-left l = 64 - l.at
