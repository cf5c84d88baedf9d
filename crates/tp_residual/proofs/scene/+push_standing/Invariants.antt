use Rattle.std.proofs.Common.{◌≡◌, ◌++◌, ◌+◌, ◌-◌, length}
use Rattle.std.specs.List.{range_with_len}
use Rattle.tp_slots.specs.Own.{own_in, own_for}
use Rattle.tp_slots.specs.Read.{slots_of}
use Rattle.tp_residual.proofs.scene.+push_standing.Given as goal

-- what stands in an item's place comes later
abbrev pub decreases-push_standing : goal.decreases-push_standing
decreases-push_standing l = length l.scene.now.slots.items - l.item

-- those that are left come behind
abbrev pub invariant-loop-i : goal.invariant-loop-i
invariant-loop-i l = l.out.items ++ own_in (slots_of l.scene) (range_with_len (l.first + l.i) (l.i-end - l.i)) ≡ l.fn.out.items ++ own_for (slots_of l.scene) l.fn.item
