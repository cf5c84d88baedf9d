use Rattle.std.proofs.Common.{arith}
use Rattle.tp_verdict.proofs.KindLemmas.{next_kind, from_both}
use Rattle.tp_verdict.proofs.kinds.next_table.Goals as goal

pub returns-clause-verdicts : goal.returns-clause-verdicts
returns-clause-verdicts c =
    from_both c.ruled_table.result _ _ _
    (λ table many all. λ found w b. next_kind found table.rows.items w c.args.body.now.rows.items (omega (arith, many)) b all)
    c.ruled_table.ensures.many c.ruled_table.ensures.verdicts
