use Rattle.std.proofs.Common.{◌∙◌, map, ap, true, arith}
use Rattle.tp_eval.specs.Answers.{outcome_tree}
use Rattle.tp_eval.specs.declared.outcome.Outcome.{Outcome}
use Rattle.tp_kernel.specs.Read.{expr_tree}
use Rattle.tp_value.specs.Tree.{truth}
use Rattle.tp_verdict.specs.Verdict.{value_verdict}
use Rattle.tp_verdict.specs.Code.{verdict_of}
use Rattle.tp_verdict.proofs.KindLemmas.{from_both}
use Rattle.tp_verdict.proofs.LeafLemmas.{test_kind, listed_is}
use Rattle.tp_verdict.proofs.leaves.test_table.Goals as goal

pub returns-clause-verdicts : goal.returns-clause-verdicts
returns-clause-verdicts c =
    let states = c.args.states.now in
    let e = expr_tree c.args.expr.now in
    let vs = c.as_slice-2.result.now in
    let told = listed_is e (truth true) states c.in_ok-found.found.items vs c.in_ok-found.ensures
    (ap (map verdict_of) c.as_slice-2.ensures.value ∙ c.in_ok-verdicts.ensures
    ∙ ap (map (λ (o : Outcome). value_verdict (outcome_tree o) (truth true))) c.as_slice.ensures.value) in
    from_both c.ruled_table.result _ _ _
    (λ table many all. test_kind states table.rows.items (omega (arith, many)) e vs told all)
    c.ruled_table.ensures.many c.ruled_table.ensures.verdicts
