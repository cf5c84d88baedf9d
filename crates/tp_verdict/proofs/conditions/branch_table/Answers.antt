use Rattle.std.proofs.Common.{◌∙◌, map, ap, true, false, arith}
use Rattle.tp_eval.specs.Answers.{outcome_tree}
use Rattle.tp_eval.specs.declared.outcome.Outcome.{Outcome}
use Rattle.tp_kernel.specs.Read.{expr_tree}
use Rattle.tp_value.specs.Tree.{truth}
use Rattle.tp_verdict.specs.Verdict.{value_verdict}
use Rattle.tp_verdict.specs.Code.{verdict_of}
use Rattle.tp_verdict.proofs.KindLemmas.{from_both}
use Rattle.tp_verdict.proofs.LeafLemmas.{branch_kind, listed_is}
use Rattle.tp_verdict.proofs.conditions.branch_table.Goals as goal

pub returns-clause-verdicts : goal.returns-clause-verdicts
returns-clause-verdicts c =
    let states = c.args.states.now in
    let e = expr_tree c.args.condition.now in
    let when = listed_is e (truth true) states c.in_ok-found.found.items c.as_slice-3.result.now c.in_ok-found.ensures
    (ap (map verdict_of) c.as_slice-3.ensures.value ∙ c.in_ok-when.ensures ∙ ap (map (λ (o : Outcome). value_verdict (outcome_tree o) (truth true))) c.as_slice.ensures.value) in
    let unless = listed_is e (truth false) states c.in_ok-found.found.items c.as_slice-4.result.now c.in_ok-found.ensures
    (ap (map verdict_of) c.as_slice-4.ensures.value ∙ c.in_ok-unless.ensures ∙ ap (map (λ (o : Outcome). value_verdict (outcome_tree o) (truth false))) c.as_slice-2.ensures.value) in
    from_both c.ruled_table.result _ _ _
    (λ table many all. λ w v a b.
    branch_kind states table.rows.items (omega (arith, many)) e w v c.as_slice-3.result.now c.as_slice-4.result.now c.args.first.now.rows.items c.args.second.now.rows.items c.requires.first c.requires.second
    when unless a b all)
    c.ruled_table.ensures.many c.ruled_table.ensures.verdicts
