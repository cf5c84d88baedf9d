use Rattle.std.proofs.Common.{◌≡◌, ◌++◌, [], map, drop}
use Rattle.tp_meaning.specs.Syntax.{exprs_of}
use Rattle.tp_kernel.specs.Read.{expr_tree, expr_trees}
use Rattle.tp_residual.specs.Parts.{exprs_spelling}
use Rattle.tp_residual.specs.Read.{vocabulary_of}
use Rattle.tp_residual.proofs.expr.+exprs.Given as goal

-- those that are left come behind
abbrev pub invariant-append_exprs-loop-operand : goal.invariant-append_exprs-loop-operand
invariant-append_exprs-loop-operand l =
    let v = vocabulary_of l.fn.words in
    l.out ++ exprs_spelling v l.opening l.fn.separator l.fn.most (exprs_of (map expr_tree (drop l.operand-index l.operand-items))) ≡ l.fn.out ++ exprs_spelling v [] l.fn.separator l.fn.most (expr_trees l.fn.operands)
