use Rattle.std.proofs.Common.{◌∙◌, map, ap, true, false, arith}
use Rattle.tp_eval.specs.Answers.{outcome_tree}
use Rattle.tp_eval.specs.declared.outcome.Outcome.{Outcome}
use Rattle.tp_kernel.specs.Read.{expr_tree}
use Rattle.tp_value.specs.Tree.{truth}
use Rattle.tp_verdict.specs.Verdict.{value_verdict}
use Rattle.tp_verdict.specs.Trace.{verdict}
use Rattle.tp_verdict.specs.Code.{verdict_of}
use Rattle.tp_verdict.specs.Found.{found_in}
use Rattle.tp_verdict.proofs.KindLemmas.{from_both}
use Rattle.tp_verdict.proofs.LeafLemmas.{while_kind, listed_is}
use Rattle.tp_verdict.proofs.conditions.while_table.Goals as goal

pub returns-clause-verdicts : goal.returns-clause-verdicts
returns-clause-verdicts c =
    let states = c.args.states.now in
    let e = expr_tree c.args.condition.now in
    let n = c.requires in
    let when = listed_is e (truth true) states c.in_ok-found.found.items c.as_slice-3.result.now c.in_ok-found.ensures
    (ap (map verdict_of) c.as_slice-3.ensures.value ∙ c.in_ok-is_true.ensures ∙ ap (map (λ (o : Outcome). value_verdict (outcome_tree o) (truth true))) c.as_slice.ensures.value) in
    let unless = listed_is e (truth false) states c.in_ok-found.found.items c.as_slice-4.result.now c.in_ok-found.ensures
    (ap (map verdict_of) c.as_slice-4.ensures.value ∙ c.in_ok-is_false.ensures ∙ ap (map (λ (o : Outcome). value_verdict (outcome_tree o) (truth false))) c.as_slice-2.ensures.value) in
    from_both c.looped_table.result _ _ _
    (λ table many all. λ w b. while_kind states table.rows.items (omega (arith, many, n)) e w c.as_slice-3.result.now c.as_slice-4.result.now when unless (all (verdict (found_in states) w) b))
    c.looped_table.ensures.many c.looped_table.ensures.verdicts
