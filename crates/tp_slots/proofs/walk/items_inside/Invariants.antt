use Rattle.std.proofs.Common.{◌≡◌, ◌++◌}
use Rattle.tp_scene.specs.LiveItems.{live_items}
use Rattle.tp_slots.specs.Plain.{entries_at}
use Rattle.tp_slots.specs.Cost.{tasks_cost}
use Rattle.tp_slots.specs.Walk.{todo, AreTasks}
use Rattle.tp_slots.specs.Read.{slots_of}
use Rattle.tp_slots.proofs.walk.items_inside.Given as goal

abbrev pub invariant-walk : goal.invariant-walk
invariant-walk l = (l.out.items ++ todo (slots_of l.scene) l.stack.items ≡ live_items (entries_at (slots_of l.scene) l.region)) × AreTasks (slots_of l.scene) l.stack.items

abbrev pub decreases-walk : goal.decreases-walk
decreases-walk l = tasks_cost (slots_of l.scene) l.stack.items
