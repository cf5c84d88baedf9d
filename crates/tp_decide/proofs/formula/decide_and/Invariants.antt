use Rattle.std.proofs.Common.{◌≡◌, map, take}
use Rattle.tp_kernel.specs.Read.{bindings_of}
use Rattle.tp_decide.specs.Decided.{plain_leaf}
use Rattle.tp_decide.specs.NewLeaves.{leaf_list}
use Rattle.tp_decide.proofs.RowLemmas.{due_of}
use Rattle.tp_decide.proofs.formula.decide_and.Given as goal

abbrev pub invariant-loop-operand : goal.invariant-loop-operand
invariant-loop-operand l = map plain_leaf (leaf_list l.news) ≡ map (due_of (bindings_of l.env.value)) (take l.operand-index l.operands.items.items)
