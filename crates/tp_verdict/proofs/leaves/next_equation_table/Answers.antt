use Rattle.std.proofs.Common.{◌≡◌, ◌∙◌, ◌+◌, List, map, ap, arith}
use Rattle.tp_eval.specs.Answers.{outcome_tree}
use Rattle.tp_kernel.specs.Read.{expr_tree}
use Rattle.tp_verdict.specs.Stored.{verdict_listed}
use Rattle.tp_verdict.specs.Ruled.{paired}
use Rattle.tp_verdict.specs.declared.verdict.Verdict.{Verdict}
use Rattle.tp_verdict.proofs.KindLemmas.{from_both}
use Rattle.tp_verdict.proofs.LeafLemmas.{next_equation_kind, paired_is, outcomes_length}
use Rattle.tp_verdict.proofs.leaves.next_equation_table.Goals as goal

pub returns-clause-verdicts : goal.returns-clause-verdicts
returns-clause-verdicts c =
    let states = c.args.states.now in
    let t = expr_tree c.args.first.now in
    let e = expr_tree c.args.second.now in
    let ts = c.as_slice.result.now in
    let es = c.as_slice-2.result.now in
    let vs = c.as_slice-3.result.now in
    let h = ap (map outcome_tree) c.as_slice.ensures.value ∙ c.in_ok-firsts.ensures in
    let k = ap (map outcome_tree) c.as_slice-2.ensures.value ∙ c.in_ok-seconds.ensures in
    let same = outcomes_length e states es k in
    from_both c.ruled_table.result _ _ _
    (λ table many all. next_equation_kind states table.rows.items (omega (arith, many)) c.args.ahead t e vs
    (λ i l. ap (λ (xs : List Verdict). verdict_listed xs i) c.as_slice-3.ensures.value
    ∙ c.in_ok-verdicts.ensures i (omega (arith, l, same))
    ∙ ap (paired ts es i) (let z : i + c.args.ahead ≡ c.args.ahead + i = omega arith in z)
    ∙ paired_is t e states ts es h k i (c.args.ahead + i) (omega (arith, l)) l)
    all)
    c.ruled_table.ensures.many c.ruled_table.ensures.verdicts
