use Rattle.std.proofs.Common.{subst, None, arith}
use Rattle.tp_inputs.specs.Model.{rows_of, IsLastBegun}
use Rattle.tp_inputs.proofs.RowLemmas.{unmet}
use Rattle.tp_inputs.proofs.LastEntry.{unmet_above}
use Rattle.tp_inputs.proofs.ranges.Ranges.row.Goals as goal

pub returns-in_default : goal.returns-in_default
returns-in_default c =
    let same = c.from.ensures in
    let over = c.if-state-from.false in
    unmet_above (rows_of c.args.self.now) c.args.state c.in-Some.row.last (c.in-Some.ensures.2 c.args.state) (omega arith)

pub returns-in_default-2 : goal.returns-in_default-2
returns-in_default-2 c =
    let none : IsLastBegun c.args.self.now c.args.state None = subst (IsLastBegun c.args.self.now c.args.state) c.in_default.is c.last_begun.ensures in
    unmet (rows_of c.args.self.now) c.args.state (none c.args.state)
