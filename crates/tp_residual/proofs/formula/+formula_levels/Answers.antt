use Rattle.std.proofs.Common.{◌≤◌, length, rules}
use Rattle.tp_residual.proofs.Conjunctions.{formulas_level_is}
use Rattle.tp_residual.proofs.formula.+formula_levels.Goals as goal

pub formulas_level-returns-in_default : goal.formulas_level-returns-in_default
formulas_level-returns-in_default t c =
    let n : 2 ≤ length c.args.operands.now.items.items = search rules in
    λ v. formulas_level_is v c.args.operands.now n
