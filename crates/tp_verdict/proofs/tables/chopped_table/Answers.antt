use Rattle.std.proofs.Common.{◌≡◌, ◌∙◌, ◌-◌, ℕ, List, length, ap, arith}
use Rattle.tp_verdict.specs.Stored.{verdict_at, width_of, words_for, stored, joined_from}
use Rattle.tp_verdict.specs.declared.verdict_row.VerdictRow.{VerdictRow}
use Rattle.tp_verdict.proofs.TableLemmas.{length_more, pushed, chopped}
use Rattle.tp_verdict.proofs.tables.chopped_table.Goals as goal

pub starts-preserved : goal.starts-preserved
starts-preserved c =
    let before = c.starts.invariant in
    let first = c.args.first.now.rows.items in
    let second = c.args.second.now.rows.items in
    let old = c.starts.rows.items in
    let new = c.push.new.self.items in
    let row = c.in_ok-row.row in
    let items = c.in_ok-push.ensures.items in
    let same = c.as_slice.ensures.value in
    record {
      many = length_more old new row c.starts.i items before.many;
      width = pushed (λ i r. width_of r ≡ words_for (length second)) old new row c.starts.i items before.many before.width
          (c.in_ok-row.ensures.width ∙ ap (λ (s : List VerdictRow). words_for (length s)) same);
      verdicts = pushed (λ i r. (j : ℕ) → verdict_at r j ≡ joined_from (length second - i) i (stored first i) second j) old new row c.starts.i items before.many before.verdicts
          (λ j. c.in_ok-row.ensures.verdicts j ∙ ap (λ (s : List VerdictRow). joined_from (length s - c.starts.i) c.starts.i (stored first c.starts.i) s j) same);
    }

pub returns-clause-verdicts : goal.returns-clause-verdicts
returns-clause-verdicts c = λ f g a b.
    chopped f g c.args.first.now.rows.items c.args.second.now.rows.items c.requires a b c.starts.rows.items (omega arith) c.starts.invariant.verdicts
