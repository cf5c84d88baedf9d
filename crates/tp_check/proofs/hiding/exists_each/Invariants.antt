use Rattle.std.proofs.Common.{◌≡◌}
use Rattle.tp_kernel.specs.Read.{formula_tree}
use Rattle.tp_check.specs.Positions.{exists_of}
use Rattle.tp_check.proofs.hiding.exists_each.Given as goal

-- the names that are left
abbrev pub invariant-loop-name : goal.invariant-loop-name
invariant-loop-name l = exists_of l.name-iterator.iter.rest.now (formula_tree l.whole) ≡ exists_of l.fn.names (formula_tree l.fn.body)
