use Rattle.std.proofs.Common.{◌≡◌, ◌≤◌, length}
use Rattle.tp_verdict.specs.Stored.{HaveWidth}
use Rattle.tp_verdict.proofs.LoopLemmas.{SuffixFrom}
use Rattle.tp_verdict.proofs.tables.suffix_table.Given as goal

abbrev pub invariant-starts : goal.invariant-starts
invariant-starts l = record {
  many : length l.rows.items ≡ length l.body.rows.items;
  high : l.i ≤ length l.body.rows.items;
  width : HaveWidth (length l.body.rows.items) l.rows.items;
  verdicts : SuffixFrom l.body.rows.items l.rows.items (length l.body.rows.items) l.i;
}

abbrev pub decreases-starts : goal.decreases-starts
decreases-starts l = l.i
