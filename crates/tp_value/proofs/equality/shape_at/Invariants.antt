use Rattle.std.proofs.Common.{◌≡◌, drop}
use Rattle.tp_value.specs.Read.{tree}
use Rattle.tp_value.specs.Shape.{shape_at_path}
use Rattle.tp_value.specs.ShortLists.{HasShortLists}
use Rattle.tp_value.proofs.equality.shape_at.Given as goal

abbrev pub invariant-loop-index : goal.invariant-loop-index
invariant-loop-index l = HasShortLists (tree l.here) × (shape_at_path (drop l.index-index l.at) (tree l.here) ≡ shape_at_path l.at (tree l.fn.value))
