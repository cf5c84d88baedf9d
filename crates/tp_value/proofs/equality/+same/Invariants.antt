use Rattle.std.proofs.Common.{◌≡◌, map, take}
use Rattle.tp_value.specs.Read.{tree}
use Rattle.tp_value.proofs.equality.+same.Given as goal

abbrev pub decreases-same : goal.decreases-same
decreases-same l = goal.size-same l

abbrev pub invariant-loop-i : goal.invariant-loop-i
invariant-loop-i l = map tree (take l.i l.xs.items.items) ≡ map tree (take l.i l.ys.items.items)
