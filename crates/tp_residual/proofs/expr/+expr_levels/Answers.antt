use Rattle.std.proofs.Common.{◌≤◌, length, rules}
use Rattle.tp_residual.proofs.Conjunctions.{exprs_level_is}
use Rattle.tp_residual.proofs.expr.+expr_levels.Goals as goal

pub exprs_level-returns-in_default : goal.exprs_level-returns-in_default
exprs_level-returns-in_default t c =
    let n : 2 ≤ length c.args.operands.now.items.items = search rules in
    λ v. exprs_level_is v c.args.operands.now n
