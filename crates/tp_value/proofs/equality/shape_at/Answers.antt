use Rattle.std.proofs.Common.{◌≡◌, ◌+◌, refl, ap, sym, ◌∙◌, arith, Some, suc, get_or, drop}
use Rattle.tp_value.specs.Read.{tree}
use Rattle.tp_value.specs.Shape.{shape_at_path, at_item, item_of}
use Rattle.tp_value.proofs.Shapes.{short_item, one_further}
use Rattle.tp_value.proofs.equality.shape_at.Goals as goal

pub loop-index-preserved : goal.loop-index-preserved
loop-index-preserved c =
    let i = c.loop-index.index-index in
    let path = c.args.at.now in
    let found : Some (tree c.in-Some.inner.now) ≡ item_of (tree c.loop-index.here.now) (get_or path i 0) = c.in-Some.ensures in
    let next : i + 1 ≡ suc i = omega arith in (
      short_item _ _ _ c.loop-index.invariant.0 (sym found),
      ap (λ n. shape_at_path (drop n path) (tree c.in-Some.inner.now)) next ∙ ap (λ o. at_item o (shape_at_path (drop (suc i) path))) found
          ∙ sym (one_further path i _ (tree c.loop-index.here.now) c.loop-index-test.true refl) ∙ c.loop-index.invariant.1,
    )
