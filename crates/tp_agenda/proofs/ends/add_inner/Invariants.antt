use Rattle.std.proofs.Common.{◌≡◌, ◌++◌, take}
use Rattle.tp_agenda.specs.Outward.{held_by_items}
use Rattle.tp_agenda.proofs.ends.add_inner.Given as goal

abbrev pub invariant-loop-item : goal.invariant-loop-item
invariant-loop-item l = l.left.items ≡ l.fn.left.items ++ held_by_items l.scene (take l.item-index l.item-items)
