use Rattle.std.proofs.Common.{◌≡◌, ◌≤◌, ◌<◌, ◌-◌, ◌%◌, ℕ, length, bit_or}
use Rattle.std.specs.Prelude.{slice_index}
use Rattle.tp_lanes.proofs.rows.join_words.Given as goal

abbrev pub invariant-loop-at : goal.invariant-loop-at
invariant-loop-at l = record {
  within : l.at ≤ length l.other;
  by_eight : l.at % 8 ≡ 0;
  len : length l.words.items ≡ length l.initial.words.items;
  joined : (k : ℕ) → k < l.at → slice_index l.words.items k ≡ bit_or (slice_index l.initial.words.items k) (slice_index l.other k);
  left : (k : ℕ) → l.at ≤ k → slice_index l.words.items k ≡ slice_index l.initial.words.items k;
}

abbrev pub decreases-loop-at : goal.decreases-loop-at
decreases-loop-at l = length l.other - l.at
