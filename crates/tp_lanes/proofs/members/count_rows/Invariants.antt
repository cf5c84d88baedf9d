use Rattle.std.proofs.Common.{◌≡◌, ◌*◌, ◌+◌, ◌<◌, ℕ, length}
use Rattle.std.specs.Prelude.{slice_index}
use Rattle.tp_lanes.specs.Planes.{HasBetween, passing_below, bit_in}
use Rattle.tp_lanes.proofs.members.count_rows.Given as goal

abbrev pub invariant-loop-row : goal.invariant-loop-row
invariant-loop-row l = record {
  len : length l.rows.items ≡ length l.initial.rows.items;
  counts : (r : ℕ) → r < l.row → HasBetween (bit_in l.words) (512 * r) (512 * r + 512) (slice_index l.rows.items r);
  total : l.total ≡ passing_below (bit_in l.words) (512 * l.row);
}
