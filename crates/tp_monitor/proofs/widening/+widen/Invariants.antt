use Rattle.std.proofs.Common.{◌≡◌, map, drop}
use Rattle.tp_meaning.specs.Syntax.{formulas_of}
use Rattle.tp_kernel.specs.Read.{formula_trees}
use Rattle.tp_check.specs.Building.{formula_seen}
use Rattle.tp_verdict.specs.Widened.{all_widened}
use Rattle.tp_verdict.specs.Read.{wide_tree}
use Rattle.tp_monitor.proofs.InOrder.{behind}
use Rattle.tp_monitor.proofs.widening.+widen.Given as goal

-- those before are wider ones, and stand in order
abbrev pub invariant-widen_all-loop-formula : goal.invariant-widen_all-loop-formula
invariant-widen_all-loop-formula l =
    all_widened (formula_trees l.fn.formulas) ≡ behind (map wide_tree l.items.items) (all_widened (formulas_of (map formula_seen (drop l.formula-index l.formula-items))))
