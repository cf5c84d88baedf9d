use Rattle.std.proofs.Common.{◌≡◌, ◌∙◌, ◌-◌, ◌<◌, ℕ, zero, suc, List, length, ap, sym, subst, arith}
use Rattle.std.proofs.lemmas.List.{length-set}
use Rattle.tp_verdict.specs.Verdict as told
use Rattle.tp_verdict.specs.Code.{verdict_of}
use Rattle.tp_verdict.specs.Stored.{verdict_at, stored, verdict_listed, width_of, words_for, joined_from}
use Rattle.tp_verdict.specs.declared.verdict_row.VerdictRow.{VerdictRow}
use Rattle.tp_verdict.proofs.TableLemmas.{of_set}
use Rattle.tp_verdict.proofs.LoopLemmas.{LoopsFrom, loops_set, loops, alike_here, alike_there}
use Rattle.tp_verdict.proofs.tables.looped_table.Goals as goal

pub starts-preserved : goal.starts-preserved
starts-preserved c =
    let before = c.starts.invariant in
    let body = c.args.body.now.rows.items in
    let rows = c.starts.rows.items in
    let row = c.in_ok-row.row in
    let k = c.starts.i - 1 in
    let t = verdict_listed c.args.is_true.now in
    let s = verdict_listed c.args.is_false.now in
    let high = before.high in
    let test = c.starts-test.true in
    let next : c.starts.i ≡ suc k = omega (arith, test) in
    let start : k < length body = omega (arith, test, high) in
    let same = c.as_slice.ensures.value in
    let now = c.as_slice.result.now in
    let J : List VerdictRow → ℕ → ℕ → told.Verdict = λ xs n j. joined_from (n - suc k) (suc k) (stored body k) xs j in
    let joined : (j : ℕ) → J now (length now) j ≡ J rows (length body) j =
    λ j. ap (λ (xs : List VerdictRow). J xs (length xs) j) same ∙ ap (λ n. J rows n j) before.many in
    record {
      many = length-set rows k row ∙ before.many;
      high = omega (arith, high);
      width = of_set (λ i r. width_of r ≡ words_for (length body)) rows k row (λ i r o e. before.width i r e)
          (c.in_ok-row.ensures.width ∙ ap (λ (xs : List VerdictRow). words_for (length xs)) same ∙ ap words_for before.many);
      verdicts = loops_set t s body rows (length body) k (sym before.many) start (subst (LoopsFrom t s body rows (length body)) next before.verdicts) row
          (alike_here (verdict_of c.listed-in-starts.result) (verdict_of c.listed.result) (J now (length now) k) (s k) (t k) (J rows (length body) k) (verdict_at row k)
          c.in_ok-row.ensures.here c.listed-in-starts.ensures c.listed.ensures (joined k))
          (λ j o. alike_there (verdict_of c.listed.result) (J now (length now) j) (t k) (J rows (length body) j) (verdict_at row j)
          (c.in_ok-row.ensures.others j o) c.listed.ensures (joined j));
    }

pub returns-clause-verdicts : goal.returns-clause-verdicts
returns-clause-verdicts c = λ f b.
    let body = c.args.body.now.rows.items in
    let rows = c.starts.rows.items in
    let t = verdict_listed c.args.is_true.now in
    let s = verdict_listed c.args.is_false.now in
    let out = c.starts-test.false in
    let first : c.starts.i ≡ zero = omega (arith, out) in
    loops t s f body rows b c.starts.invariant.many (subst (LoopsFrom t s body rows (length body)) first c.starts.invariant.verdicts)
