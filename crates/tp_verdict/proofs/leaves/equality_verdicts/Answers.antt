use Rattle.std.proofs.Common.{◌+◌, ◌∷◌, [], List, length, ap, ◌∙◌, arith, length-append}
use Rattle.tp_verdict.specs.Stored.{verdict_listed}
use Rattle.tp_verdict.specs.Ruled.{paired}
use Rattle.tp_verdict.specs.declared.verdict.Verdict.{Verdict}
use Rattle.tp_verdict.proofs.LeafLemmas.{listed_more}
use Rattle.tp_verdict.proofs.leaves.equality_verdicts.Goals as goal

pub states-preserved : goal.states-preserved
states-preserved c =
    let before = c.states.invariant in
    let old = c.states.verdicts.items in
    let verdict = c.paired-verdict.result in
    let items = c.in_ok-push.ensures.items in
    let more = length-append old (verdict ∷ []) in
    let longer = ap length items in
    let many = before.many in
    record {
      many = omega (arith, more, longer, many);
      each = λ k h. ap (λ (vs : List Verdict). verdict_listed vs k) items
          ∙ listed_more (λ x. paired c.args.firsts.now c.args.seconds.now x (x + c.args.ahead)) old verdict c.states.i many c.paired-verdict.ensures before.each k h;
    }

pub returns : goal.returns
returns c = λ i h. c.states.invariant.each i (let out = c.states-test.false in omega (arith, out, h))
