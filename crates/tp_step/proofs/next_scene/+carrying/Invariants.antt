use Rattle.std.proofs.Common.{◌≡◌, ◌+◌, ◌*◌, ◌-◌, length, take}
use Rattle.tp_slots.specs.Read.{slots_of, item_home}
use Rattle.tp_step.specs.Successors.{left_by, all_items, AreUnlinked, IsExtended, next_ids}
use Rattle.tp_step.proofs.next_scene.+carrying.Given as goal

-- A region is inside of the one whose item holds it, so fewer come after it.
abbrev pub decreases-carry : goal.decreases-carry
decreases-carry l = 3 * (length l.old.now.regions.items - l.region)

abbrev pub decreases-carry_held : goal.decreases-carry_held
decreases-carry_held l = 3 * (length l.old.now.regions.items - l.region) + 1

abbrev pub decreases-carry_second : goal.decreases-carry_second
decreases-carry_second l = 3 * (length l.old.now.regions.items - l.region) + 1

abbrev pub decreases-carry_item : goal.decreases-carry_item
decreases-carry_item l = 3 * (length l.old.now.regions.items - item_home l.old.now l.item) - 1

-- What the items before leave is added, and they are listed.
abbrev pub invariant-carry-loop-i : goal.invariant-carry-loop-i
invariant-carry-loop-i l =
    IsExtended l.home (left_by l.extent (all_items (slots_of l.old) (take l.i l.ids.items))) l.initial.new l.new
    × (l.roots.items ≡ next_ids l.initial.new (left_by l.extent (all_items (slots_of l.old) (take l.i l.ids.items))))
    × (l.new.looks ≡ l.initial.new.looks)
    × (AreUnlinked l.initial.new → AreUnlinked l.new)
