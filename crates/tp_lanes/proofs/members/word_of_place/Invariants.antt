use Rattle.std.proofs.Common.{◌≡◌, ◌+◌, ◌*◌, ◌-◌, ◌<◌}
use Rattle.tp_lanes.specs.Planes.{passing_below, bit_in}
use Rattle.tp_lanes.proofs.members.word_of_place.Given as goal

abbrev pub invariant-loop-left : goal.invariant-loop-left
invariant-loop-left l = record { within : l.word < 8 * l.row + 8; before : passing_below (bit_in l.words) (64 * l.word) + l.left ≡ passing_below (bit_in l.words) (512 * l.row) + l.place }

abbrev pub decreases-loop-left : goal.decreases-loop-left
decreases-loop-left l = 8 * l.row + 8 - l.word
