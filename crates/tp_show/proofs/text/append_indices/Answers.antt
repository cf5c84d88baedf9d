use Rattle.std.proofs.lemmas.List.Elements.{All-more}
use Rattle.tp_show.specs.Texts.{index_text}
use Rattle.tp_show.specs.Told.{FitsIn64Bits}
use Rattle.tp_show.proofs.LineLemmas.{flat_more}
use Rattle.tp_show.proofs.text.append_indices.Goals as goal

pub loop-index-preserved : goal.loop-index-preserved
loop-index-preserved c =
    let items = c.deref-index-items.result.now in
    let at = c.loop-index.index-index in (
      flat_more index_text items at 0 c.args.out.now c.loop-index.out c.append_index.new.out c.loop-index-test.true c.loop-index.invariant.0 c.in_ok-append_index.ensures.text,
      All-more FitsIn64Bits items at 0 c.loop-index-test.true c.loop-index.invariant.1 c.append_index.ensures.range,
    )
