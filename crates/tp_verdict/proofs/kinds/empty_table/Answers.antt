use Rattle.std.proofs.lemmas.Result.{IfOk-weaker}
use Rattle.tp_verdict.proofs.KindLemmas.{empty_kind}
use Rattle.tp_verdict.proofs.kinds.empty_table.Goals as goal

pub returns-clause-verdicts : goal.returns-clause-verdicts
returns-clause-verdicts c =
    IfOk-weaker c.ruled_table.result _ _
    (λ table all. λ found. empty_kind found table.rows.items all)
    c.ruled_table.ensures.verdicts
