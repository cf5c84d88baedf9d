use Rattle.std.proofs.lemmas.Result.{IfOk-weaker}
use Rattle.tp_verdict.proofs.KindLemmas.{more_kind}
use Rattle.tp_verdict.proofs.kinds.more_table.Goals as goal

pub returns-clause-verdicts : goal.returns-clause-verdicts
returns-clause-verdicts c =
    IfOk-weaker c.ruled_table.result _ _
    (λ table all. λ found. more_kind found table.rows.items all)
    c.ruled_table.ensures.verdicts
