use Rattle.std.proofs.Common.{◌≡◌, ◌++◌, [], map, drop}
use Rattle.tp_meaning.specs.Syntax.{formulas_of}
use Rattle.tp_kernel.specs.Read.{formula_tree, formula_trees}
use Rattle.tp_residual.specs.Parts.{formulas_spelling}
use Rattle.tp_residual.specs.Read.{vocabulary_of}
use Rattle.tp_residual.proofs.formula.+formulas.Given as goal

-- those that are left come behind
abbrev pub invariant-append_operands-loop-operand : goal.invariant-append_operands-loop-operand
invariant-append_operands-loop-operand l =
    let v = vocabulary_of l.fn.words in
    l.out ++ formulas_spelling v l.opening (formulas_of (map (λ w. formula_tree w.value) (drop l.operand-index l.operand-items))) ≡ l.fn.out ++ formulas_spelling v [] (formula_trees l.fn.operands)
