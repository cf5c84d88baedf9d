use Rattle.std.proofs.Common.{◌≡◌, ◌++◌, [], map, drop}
use Rattle.tp_tree.specs.Tree.{phrases_of}
use Rattle.tp_tree.specs.Read.{phrase_tree, phrase_trees}
use Rattle.tp_tree.specs.Spelling.{operands_spelling}
use Rattle.tp_tree.proofs.printing.+spelling.Given as goal

-- those that are left come behind
abbrev pub invariant-append_operands-loop-operand : goal.invariant-append_operands-loop-operand
invariant-append_operands-loop-operand l =
    l.out ++ operands_spelling l.opening l.fn.separator l.fn.most (phrases_of (map phrase_tree (drop l.operand-index l.operand-items))) ≡ l.fn.out ++ operands_spelling [] l.fn.separator l.fn.most (phrase_trees l.fn.operands)
