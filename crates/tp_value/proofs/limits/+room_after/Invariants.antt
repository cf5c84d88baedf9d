use Rattle.std.proofs.Common.{◌≡◌, map, drop}
use Rattle.tp_value.specs.Tree.{list, of_items}
use Rattle.tp_value.specs.Read.{tree}
use Rattle.tp_value.specs.Room.{room_left}
use Rattle.tp_value.proofs.limits.+room_after.Given as goal

abbrev pub invariant-loop-item : goal.invariant-loop-item
invariant-loop-item l = room_left l.depth l.left (list (of_items (map tree (drop l.item-index l.item-items)))) ≡ room_left l.fn.depth l.fn.room (tree l.fn.value)
