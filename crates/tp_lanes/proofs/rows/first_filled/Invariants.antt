use Rattle.std.proofs.Common.{◌≡◌, ◌<◌, ◌≤◌, ◌-◌, ℕ, length}
use Rattle.std.specs.Prelude.{slice_index}
use Rattle.tp_lanes.proofs.rows.first_filled.Given as goal

abbrev pub invariant-by_eight : goal.invariant-by_eight
invariant-by_eight l = record { within : l.at ≤ length l.counts; before : (k : ℕ) → k < l.at → slice_index l.counts k ≡ 0 }

abbrev pub decreases-by_eight : goal.decreases-by_eight
decreases-by_eight l = length l.counts - l.at

abbrev pub invariant-rest : goal.invariant-rest
invariant-rest l = record { within : l.at ≤ length l.counts; before : (k : ℕ) → k < l.at → slice_index l.counts k ≡ 0 }

abbrev pub decreases-rest : goal.decreases-rest
decreases-rest l = length l.counts - l.at
