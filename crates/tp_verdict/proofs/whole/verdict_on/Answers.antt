use Rattle.std.proofs.Common.{◌∙◌, ◌-◌, zero, length, arith}
use Rattle.tp_verdict.proofs.whole.verdict_on.Goals as goal

pub returns : goal.returns
returns c =
    let m = c.in_ok-table.ensures.many in
    let some = c.requires in
    let last = length c.args.states.now - 1 in
    c.at.ensures ∙ c.in_ok-table.ensures.verdicts.parts zero last (omega arith) (omega (arith, m, some))
