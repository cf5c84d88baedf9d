use Rattle.std.proofs.Common.{◌≡◌, ◌++◌}
use Rattle.tp_residual.specs.Parts.{nexts_spelling}
use Rattle.tp_residual.proofs.formula.append_nexts.Given as goal

abbrev pub invariant-loop : goal.invariant-loop
invariant-loop l = l.out ≡ l.fn.out ++ nexts_spelling l.counter
