use Rattle.std.proofs.Common.{◌≡◌, ◌≤◌, length}
use Rattle.tp_verdict.specs.Stored.{HaveWidth, verdict_listed}
use Rattle.tp_verdict.proofs.LoopLemmas.{LoopsFrom}
use Rattle.tp_verdict.proofs.tables.looped_table.Given as goal

abbrev pub invariant-starts : goal.invariant-starts
invariant-starts l = record {
  many : length l.rows.items ≡ length l.body.rows.items;
  high : l.i ≤ length l.body.rows.items;
  width : HaveWidth (length l.body.rows.items) l.rows.items;
  verdicts : LoopsFrom (verdict_listed l.is_true) (verdict_listed l.is_false) l.body.rows.items l.rows.items (length l.body.rows.items) l.i;
}

abbrev pub decreases-starts : goal.decreases-starts
decreases-starts l = l.i
