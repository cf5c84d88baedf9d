use Rattle.std.proofs.Common.{◌≡◌, ◌<◌, ◌≤◌, ℕ}
use Rattle.tp_verdict.specs.Verdict.{no}
use Rattle.tp_verdict.specs.Stored.{verdict_at, width_of, words_for}
use Rattle.tp_verdict.specs.Ruled.{ruled}
use Rattle.tp_verdict.proofs.tables.ruled_row.Given as goal

abbrev pub invariant-ends : goal.invariant-ends
invariant-ends l = record {
  width : width_of l.row ≡ words_for l.n;
  before : (j : ℕ) → j < l.i → verdict_at l.row j ≡ no;
  parts : (j : ℕ) → l.i ≤ j → j < l.j → verdict_at l.row j ≡ ruled l.rule l.i j;
  after : (j : ℕ) → l.j ≤ j → verdict_at l.row j ≡ no;
}
