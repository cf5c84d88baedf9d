use Rattle.std.proofs.Common.{◌≡◌, ◌<◌, ◌≤◌, ℕ, length}
use Rattle.tp_verdict.specs.Verdict.{no}
use Rattle.tp_verdict.specs.Stored.{verdict_at, HaveWidth, OfEachRow}
use Rattle.tp_verdict.specs.Ruled.{ruled}
use Rattle.tp_verdict.proofs.tables.ruled_table.Given as goal

abbrev pub invariant-starts : goal.invariant-starts
invariant-starts l = record {
  many : length l.rows.items ≡ l.i;
  width : HaveWidth l.n l.rows.items;
  before : OfEachRow (λ i r. (j : ℕ) → j < i → verdict_at r j ≡ no) l.rows.items;
  parts : OfEachRow (λ i r. (j : ℕ) → i ≤ j → j < l.n → verdict_at r j ≡ ruled l.rule i j) l.rows.items;
}
