use Rattle.std.proofs.Common.{◌≡◌, drop}
use Rattle.tp_value.specs.Read.{tree}
use Rattle.tp_value.specs.Shape.{item_at}
use Rattle.tp_store.proofs.wholes.item_inside.Given as goal

abbrev pub invariant-loop-index : goal.invariant-loop-index
invariant-loop-index l = item_at (drop l.index-index l.at) (tree l.here) ≡ item_at l.at (tree l.fn.value)
