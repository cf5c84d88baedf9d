use Rattle.std.proofs.Common.{◌≡◌, length, refl, arith}
use Rattle.tp_verdict.specs.Stored.{width_of, words_for}
use Rattle.tp_verdict.proofs.TableLemmas.{length_more, pushed}
use Rattle.tp_verdict.proofs.tables.empty_rows.Goals as goal

pub starts-preserved : goal.starts-preserved
starts-preserved c =
    let rows = c.starts.rows.items in
    let items = c.in_ok-push.ensures.items in
    let more = length_more rows c.push.new.self.items c.in_ok-row.row (length rows) items refl in
    record {
      many = omega (arith, more);
      width = pushed (λ i r. width_of r ≡ words_for c.args.n) rows c.push.new.self.items c.in_ok-row.row (length rows) items refl c.starts.invariant.width c.in_ok-row.ensures.width;
    }
