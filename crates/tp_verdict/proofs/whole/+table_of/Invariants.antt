use Rattle.std.proofs.Common.{◌≡◌, length}
use Rattle.tp_verdict.specs.Stored.{HaveVerdicts}
use Rattle.tp_verdict.specs.Found.{found_in}
use Rattle.tp_verdict.proofs.WholeLemmas.{first_verdicts}
use Rattle.tp_verdict.proofs.whole.+table_of.Given as goal

-- the table is that of the formulas before
abbrev pub invariant-table_of_all-loop-formula : goal.invariant-table_of_all-loop-formula
invariant-table_of_all-loop-formula l = record {
  many : length l.all.rows.items ≡ length l.fn.states;
  items : l.formula-items ≡ l.fn.formulas.items.items;
  verdicts : HaveVerdicts (first_verdicts (found_in l.fn.states) l.formula-items l.formula-index) l.all.rows.items;
}
