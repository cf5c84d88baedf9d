use Rattle.std.proofs.Common.{◌≡◌}
use Rattle.tp_kernel.specs.Read.{formula_tree}
use Rattle.tp_meaning.specs.Nexts.{nexts}
use Rattle.tp_decide.proofs.evaluated.under_nexts.Given as goal

abbrev pub invariant-loop : goal.invariant-loop
invariant-loop l = formula_tree l.whole.value ≡ nexts l.counter (formula_tree l.fn.formula)
