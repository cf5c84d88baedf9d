use Rattle.std.proofs.Common.{◌≡◌, Some, ap, sym, ◌∙◌}
use Rattle.std.proofs.lemmas.Bool.{both_ways}
use Rattle.tp_store.specs.Facts.{same_shape}
use Rattle.tp_store.proofs.Paths.{same_shape-decides}
use Rattle.tp_store.proofs.wholes.has_shape.Goals as goal

pub returns-in-Some-clause-same : goal.returns-in-Some-clause-same
returns-in-Some-clause-same c = λ t.
    sym c.shape_inside.ensures ∙ c.in-Some.is ∙ ap Some ((same_shape-decides c.in-Some.kept c.args.shape).0 (sym c.same_shape.ensures ∙ t))

pub returns-in-Some-clause-other : goal.returns-in-Some-clause-other
returns-in-Some-clause-other c = λ f e.
    let same : Some c.in-Some.kept ≡ Some c.args.shape = sym c.in-Some.is ∙ c.shape_inside.ensures ∙ e in
    both_ways (same_shape c.in-Some.kept c.args.shape) (sym c.same_shape.ensures ∙ f) ((same_shape-decides c.in-Some.kept c.args.shape).1 (cc same))
