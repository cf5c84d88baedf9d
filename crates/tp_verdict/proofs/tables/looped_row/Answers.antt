use Rattle.std.proofs.Common.{◌≡◌, ◌∙◌, ◌+◌, ◌-◌, suc, length, ap, arith}
use Rattle.tp_verdict.specs.Verdict.{one_of}
use Rattle.tp_verdict.specs.Code.{verdict_of}
use Rattle.tp_verdict.specs.Stored.{verdict_at, stored, joined_from}
use Rattle.tp_verdict.proofs.TableLemmas.{under}
use Rattle.tp_verdict.proofs.tables.looped_row.Goals as goal

pub returns-clause-here : goal.returns-clause-here
returns-clause-here c =
    let i = c.args.i in
    let next : i + 1 ≡ suc i = omega arith in
    c.add.ensures.here ∙ ap (one_of (verdict_of c.args.conditions.1))
    (under (verdict_of c.args.conditions.0) (verdict_at c.in_ok-turns.turns i) (verdict_at c.in_ok-row.row i) (verdict_at c.join.new.self i) _
    (c.join.ensures.verdicts i) (c.in_ok-row.ensures.verdicts i)
    (c.in_ok-turns.ensures.verdicts i ∙ ap (λ x. joined_from (length c.args.rows.now - x) x (stored c.args.body.now.rows.items i) c.args.rows.now i) next))

pub returns-clause-others : goal.returns-clause-others
returns-clause-others c = λ j o.
    let i = c.args.i in
    let next : i + 1 ≡ suc i = omega arith in
    c.add.ensures.others j o ∙
    under (verdict_of c.args.conditions.0) (verdict_at c.in_ok-turns.turns j) (verdict_at c.in_ok-row.row j) (verdict_at c.join.new.self j) _
    (c.join.ensures.verdicts j) (c.in_ok-row.ensures.verdicts j)
    (c.in_ok-turns.ensures.verdicts j ∙ ap (λ x. joined_from (length c.args.rows.now - x) x (stored c.args.body.now.rows.items i) c.args.rows.now j) next)
