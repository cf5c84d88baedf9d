use Rattle.std.proofs.Common.{◌≡◌, ◌<◌, ◌≤◌, ℕ, length, get_or}
use Rattle.std.specs.Prelude.{bit_or}
use Rattle.tp_verdict.proofs.bit_row.BitRow.join.Given as goal

abbrev pub invariant-words : goal.invariant-words
invariant-words l = record {
  before : (k : ℕ) → k < l.i → get_or l.self.words.items k 0 ≡ bit_or (get_or l.initial.self.words.items k 0) (get_or l.other.words.items k 0);
  after : (k : ℕ) → l.i ≤ k → get_or l.self.words.items k 0 ≡ get_or l.initial.self.words.items k 0;
  length : length l.self.words.items ≡ length l.initial.self.words.items;
}
