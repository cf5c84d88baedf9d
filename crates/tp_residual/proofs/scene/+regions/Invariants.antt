use Rattle.std.proofs.Common.{◌≡◌, ◌+◌, ◌*◌, ◌-◌, ◌++◌, [], length, drop}
use Rattle.tp_slots.specs.Read.{item_home}
use Rattle.tp_residual.specs.Seen.{items_spelling}
use Rattle.tp_residual.proofs.scene.+regions.Given as goal

-- A region is inside of the one whose item holds it, so fewer come after it.
abbrev pub decreases-append_region : goal.decreases-append_region
decreases-append_region l = 4 * (length l.residue.now.scene.now.regions.items - l.region) + 3

abbrev pub decreases-append_items : goal.decreases-append_items
decreases-append_items l = 4 * (length l.residue.now.scene.now.regions.items - l.region) + 2

abbrev pub decreases-append_operand : goal.decreases-append_operand
decreases-append_operand l = 4 * (length l.residue.now.scene.now.regions.items - item_home l.residue.now.scene.now l.item) + 1

abbrev pub decreases-append_item : goal.decreases-append_item
decreases-append_item l = 4 * (length l.residue.now.scene.now.regions.items - item_home l.residue.now.scene.now l.item)

-- those that are left come behind
abbrev pub invariant-append_items-loop-i : goal.invariant-append_items-loop-i
invariant-append_items-loop-i l = l.out ++ items_spelling l.fn.residue l.opening (drop l.i l.fn.items) ≡ l.fn.out ++ items_spelling l.fn.residue [] l.fn.items
