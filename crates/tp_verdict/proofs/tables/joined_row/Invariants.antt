use Rattle.std.proofs.Common.{◌≡◌, ◌-◌, ◌≤◌, ℕ, length}
use Rattle.tp_verdict.specs.Stored.{verdict_at, width_of, words_for, stored, joined_from}
use Rattle.tp_verdict.proofs.tables.joined_row.Given as goal

abbrev pub invariant-cuts : goal.invariant-cuts
invariant-cuts l = record {
  width : width_of l.row ≡ words_for (length l.rows);
  low : l.from ≤ l.k;
  high : l.k ≤ length l.rows;
  verdicts : (j : ℕ) → verdict_at l.row j ≡ joined_from (length l.rows - l.k) l.k (stored l.first.rows.items l.i) l.rows j;
}

abbrev pub decreases-cuts : goal.decreases-cuts
decreases-cuts l = l.k
