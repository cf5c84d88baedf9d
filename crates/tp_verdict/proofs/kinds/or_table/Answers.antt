use Rattle.std.proofs.Common.{arith}
use Rattle.tp_verdict.specs.Trace.{verdict}
use Rattle.tp_verdict.proofs.KindLemmas.{or_kind, from_both}
use Rattle.tp_verdict.proofs.kinds.or_table.Goals as goal

pub returns-clause-verdicts : goal.returns-clause-verdicts
returns-clause-verdicts c =
    from_both c.ruled_table.result _ _ _
    (λ table many all. λ found w v a b.
    or_kind (verdict found w) (verdict found v) c.args.first.now.rows.items c.args.second.now.rows.items table.rows.items c.requires (omega (arith, many)) a b all)
    c.ruled_table.ensures.many c.ruled_table.ensures.verdicts
