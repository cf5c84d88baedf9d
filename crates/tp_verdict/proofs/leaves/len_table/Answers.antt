use Rattle.std.proofs.Common.{◌∙◌, map, ap, arith}
use Rattle.tp_eval.specs.Answers.{outcome_tree}
use Rattle.tp_kernel.specs.Read.{expr_tree}
use Rattle.tp_verdict.proofs.KindLemmas.{from_both}
use Rattle.tp_verdict.proofs.LeafLemmas.{len_kind}
use Rattle.tp_verdict.proofs.leaves.len_table.Goals as goal

pub returns-clause-verdicts : goal.returns-clause-verdicts
returns-clause-verdicts c =
    from_both c.ruled_table.result _ _ _
    (λ table many all. len_kind c.args.states.now table.rows.items (omega (arith, many)) (expr_tree c.args.expr.now) c.as_slice.result.now
    (ap (map outcome_tree) c.as_slice.ensures.value ∙ c.in_ok-found.ensures) all)
    c.ruled_table.ensures.many c.ruled_table.ensures.verdicts
