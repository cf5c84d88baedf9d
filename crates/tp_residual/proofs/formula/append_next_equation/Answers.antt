use Rattle.std.proofs.Common.{◌≡◌, rules}
use Rattle.std.proofs.lemmas.Result.{on_ok_weaker}
use Rattle.tp_kernel.specs.Read.{expr_tree}
use Rattle.tp_residual.specs.Read.{vocabulary_of}
use Rattle.tp_residual.proofs.Always.{next_equation_written}
use Rattle.tp_residual.proofs.formula.append_next_equation.Goals as goal

pub returns : goal.returns
returns c =
    let some : c.args.count ≡ 0 → ⊥ = search rules in
    on_ok_weaker c.append_after.result (next_equation_written c.args.out.now c.append_nexts.new.out c.append_operand.new.out c.append_after.new.out (vocabulary_of c.args.words.now) c.args.count (expr_tree c.args.left.now) (expr_tree c.args.right.now) some c.in_ok-append_nexts.ensures c.in_ok-append_operand.ensures) c.append_after.ensures
