use Rattle.std.proofs.Common.{◌≡◌, ◌++◌}
use Rattle.tp_slots.specs.Cost.{sum_over, cost_of}
use Rattle.tp_slots.specs.Own.{own_ids}
use Rattle.tp_step.specs.Listing.{own_stacked}
use Rattle.tp_slots.specs.Plain.{entries_at, AreIn}
use Rattle.tp_slots.specs.Read.{slots_of}
use Rattle.tp_step.proofs.own.own_items.Given as goal

-- What is listed, and what the stack leads to, are the items of the region.
abbrev pub invariant-list : goal.invariant-list
invariant-list l = (l.out.items ++ own_stacked (slots_of l.scene) l.stack.items ≡ own_ids (entries_at (slots_of l.scene) l.region)) × AreIn (slots_of l.scene) 0 l.region l.stack.items

abbrev pub decreases-list : goal.decreases-list
decreases-list l = sum_over (cost_of (slots_of l.scene)) l.stack.items
