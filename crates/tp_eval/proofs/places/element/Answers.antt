use Rattle.std.proofs.Common.{◌≡◌, ◌+◌, refl, ap, sym, ◌∙◌, arith, Some, suc, get_or, drop}
use Rattle.tp_value.specs.Read.{tree}
use Rattle.tp_value.specs.Shape.{item_of, item_at}
use Rattle.tp_meaning.specs.Value.{◌>>=◌}
use Rattle.tp_eval.proofs.Found.{one_further}
use Rattle.tp_eval.proofs.places.element.Goals as goal

pub loop-index-preserved : goal.loop-index-preserved
loop-index-preserved c =
    let i = c.loop-index.index-index in
    let path = c.args.at.now in
    let found : Some (tree c.in-Some.inner.now) ≡ item_of (tree c.loop-index.here.now) (get_or path i 0) = c.in-Some.ensures in
    let next : i + 1 ≡ suc i = omega arith in
    ap (λ n. item_at (drop n path) (tree c.in-Some.inner.now)) next ∙ ap (λ o. o >>= item_at (drop (suc i) path)) found
    ∙ sym (one_further path i _ (tree c.loop-index.here.now) c.loop-index-test.true refl) ∙ c.loop-index.invariant
