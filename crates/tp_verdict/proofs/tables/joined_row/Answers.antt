use Rattle.std.proofs.Common.{◌-◌, arith, length}
use Rattle.tp_verdict.specs.Code.{verdict_of}
use Rattle.tp_verdict.specs.Stored.{verdict_at, stored}
use Rattle.tp_verdict.proofs.TableLemmas.{joined_more}
use Rattle.tp_verdict.proofs.tables.joined_row.Goals as goal

pub cuts-preserved : goal.cuts-preserved
cuts-preserved c =
    let before = c.cuts.invariant in
    let low = before.low in
    let high = before.high in
    let test = c.cuts-test.true in
    record {
      width = c.join_stored.ensures.width;
      low = omega (arith, test);
      high = omega (arith, high);
      verdicts = λ j. joined_more (stored c.args.first.now.rows.items c.args.i) c.args.rows.now (length c.args.rows.now) c.cuts.k (c.cuts.k - 1) j
          (verdict_at c.cuts.row j) (verdict_at c.join_stored.new.row j) (verdict_of c.at-verdict.result) (omega (arith, test)) high
          (c.join_stored.ensures.verdicts j) c.at-verdict.ensures (before.verdicts j);
    }
