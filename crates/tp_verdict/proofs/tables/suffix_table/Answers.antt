use Rattle.std.proofs.Common.{◌≡◌, ◌∙◌, ◌+◌, ◌-◌, zero, suc, List, length, ap, sym, subst, arith}
use Rattle.std.proofs.lemmas.List.{length-set}
use Rattle.tp_verdict.specs.Verdict.{one_of}
use Rattle.tp_verdict.specs.Stored.{verdict_at, stored, width_of, words_for}
use Rattle.tp_verdict.specs.declared.verdict_row.VerdictRow.{VerdictRow}
use Rattle.tp_verdict.proofs.TableLemmas.{of_set, one_of-no}
use Rattle.tp_verdict.proofs.LoopLemmas.{SuffixFrom, suffix_set, suffixes}
use Rattle.tp_verdict.proofs.tables.suffix_table.Goals as goal

pub starts-preserved : goal.starts-preserved
starts-preserved c =
    let before = c.starts.invariant in
    let high = before.high in
    let test = c.starts-test.true in
    let body = c.args.body.now.rows.items in
    let rows = c.starts.rows.items in
    let now = c.as_slice.result.now in
    let k = c.starts.i - 1 in
    let row = c.join_stored-in-starts.new.row in
    let this : c.starts.i ≡ suc k = omega (arith, test) in
    let next : k + 1 ≡ suc k = omega arith in
    let own = c.as_slice-in-starts.ensures.value in
    record {
      many = length-set rows k row ∙ before.many;
      high = omega (arith, high);
      width = of_set (λ i r. width_of r ≡ words_for (length body)) rows k row (λ i r o e. before.width i r e)
          (c.join_stored-in-starts.ensures.width ∙ ap (λ (s : List VerdictRow). words_for (length s)) own);
      verdicts = suffix_set body rows (length body) k (sym before.many) (omega (arith, test, high)) (subst (SuffixFrom body rows (length body)) this before.verdicts) row
          (λ j. c.join_stored-in-starts.ensures.verdicts j
          ∙ ap (λ (s : List VerdictRow). one_of (stored s k j) (verdict_at c.join_stored.new.row j)) own
          ∙ ap (one_of (stored body k j))
          (c.join_stored.ensures.verdicts j ∙ ap (one_of (stored now (k + 1) j)) (c.in_ok-row.ensures.verdicts j)
          ∙ one_of-no (stored now (k + 1) j) ∙ ap (λ (s : List VerdictRow). stored s (k + 1) j) c.as_slice.ensures.value ∙ ap (λ x. stored rows x j) next));
    }

pub returns-clause-verdicts : goal.returns-clause-verdicts
returns-clause-verdicts c = λ f b.
    let body = c.args.body.now.rows.items in
    let rows = c.starts.rows.items in
    let out = c.starts-test.false in
    let first : c.starts.i ≡ zero = omega (arith, out) in
    suffixes f body rows b c.starts.invariant.many (subst (SuffixFrom body rows (length body)) first c.starts.invariant.verdicts)
