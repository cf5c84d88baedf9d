use Rattle.std.proofs.Common.{◌≡◌, ◌<◌, ◌≤◌, ℕ, arith}
use Rattle.tp_verdict.specs.Verdict.{no}
use Rattle.tp_verdict.specs.Stored.{verdict_at, width_of, words_for}
use Rattle.tp_verdict.specs.Ruled.{ruled}
use Rattle.tp_verdict.proofs.TableLemmas.{length_more, pushed, have_verdicts}
use Rattle.tp_verdict.proofs.tables.ruled_table.Goals as goal

pub starts-preserved : goal.starts-preserved
starts-preserved c =
    let before = c.starts.invariant in
    let old = c.starts.rows.items in
    let new = c.push.new.self.items in
    let row = c.in_ok-row.row in
    let items = c.in_ok-push.ensures.items in
    record {
      many = length_more old new row c.starts.i items before.many;
      width = pushed (λ i r. width_of r ≡ words_for c.args.n) old new row c.starts.i items before.many before.width c.in_ok-row.ensures.width;
      before = pushed (λ i r. (j : ℕ) → j < i → verdict_at r j ≡ no) old new row c.starts.i items before.many before.before c.in_ok-row.ensures.before;
      parts = pushed (λ i r. (j : ℕ) → i ≤ j → j < c.args.n → verdict_at r j ≡ ruled c.args.rule.now i j) old new row c.starts.i items before.many before.parts c.in_ok-row.ensures.parts;
    }

pub returns-clause-verdicts : goal.returns-clause-verdicts
returns-clause-verdicts c =
    let before = c.starts.invariant in
    let many = before.many in
    let end = c.starts.auto.i-end in
    have_verdicts (ruled c.args.rule.now) c.starts.rows.items before.before
    (λ i r e j lo hi. before.parts i r e j lo (omega (arith, hi, many, end)))
