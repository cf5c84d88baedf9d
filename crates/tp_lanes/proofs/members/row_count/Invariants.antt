use Rattle.std.proofs.Common.{◌*◌}
use Rattle.tp_lanes.specs.Planes.{HasBetween, bit_in}
use Rattle.tp_lanes.proofs.members.row_count.Given as goal

abbrev pub invariant-loop-word : goal.invariant-loop-word
invariant-loop-word l = HasBetween (bit_in l.words) (512 * l.row) (64 * l.word) l.total
