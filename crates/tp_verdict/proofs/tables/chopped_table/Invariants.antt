use Rattle.std.proofs.Common.{◌≡◌, ◌-◌, ℕ, length}
use Rattle.tp_verdict.specs.Stored.{verdict_at, HaveWidth, OfEachRow, stored, joined_from}
use Rattle.tp_verdict.proofs.tables.chopped_table.Given as goal

abbrev pub invariant-starts : goal.invariant-starts
invariant-starts l = record {
  many : length l.rows.items ≡ l.i;
  width : HaveWidth (length l.second.rows.items) l.rows.items;
  verdicts : OfEachRow (λ i r. (j : ℕ) → verdict_at r j
      ≡ joined_from (length l.second.rows.items - i) i (stored l.first.rows.items i) l.second.rows.items j) l.rows.items;
}
