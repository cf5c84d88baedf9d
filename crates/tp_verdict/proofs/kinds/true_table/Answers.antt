use Rattle.std.proofs.lemmas.Result.{IfOk-weaker}
use Rattle.tp_verdict.proofs.kinds.true_table.Goals as goal

pub returns-clause-verdicts : goal.returns-clause-verdicts
returns-clause-verdicts c =
    IfOk-weaker c.ruled_table.result _ _
    (λ table all. λ found. all)
    c.ruled_table.ensures.verdicts
