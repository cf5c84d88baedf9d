use Rattle.std.proofs.Common.{◌-◌, ◌≤◌, length}
use Rattle.tp_verdict.specs.Stored.{HaveWidth}
use Rattle.tp_verdict.proofs.tables.empty_rows.Given as goal

abbrev pub invariant-starts : goal.invariant-starts
invariant-starts l = record {
  many : length l.rows.items ≤ l.n;
  width : HaveWidth l.n l.rows.items;
}

abbrev pub decreases-starts : goal.decreases-starts
decreases-starts l = l.n - length l.rows.items
