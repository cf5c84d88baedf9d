use Rattle.std.proofs.lemmas.Result.{IfOk-weaker}
use Rattle.tp_verdict.specs.Wide.{negation, sometimes}
use Rattle.tp_verdict.specs.Trace.{verdict}
use Rattle.tp_verdict.proofs.KindLemmas.{always_kind}
use Rattle.tp_verdict.proofs.kinds.always_table.Goals as goal

pub returns-clause-verdicts : goal.returns-clause-verdicts
returns-clause-verdicts c =
    IfOk-weaker c.not_table-2.result _ _
    (λ table all. λ found w b. always_kind (verdict found w) table.rows.items (all found (sometimes (negation w))
    (c.in_ok-somewhere.ensures.verdicts (verdict found (negation w)) (c.in_ok-without.ensures.verdicts found w b))))
    c.not_table-2.ensures.verdicts
