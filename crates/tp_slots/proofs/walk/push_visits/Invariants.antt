use Rattle.std.proofs.Common.{◌≡◌, ◌++◌, ◌≤◌, length, drop}
use Rattle.tp_slots.specs.Walk.{visits}
use Rattle.tp_slots.proofs.walk.push_visits.Given as goal

abbrev pub invariant-loop-left : goal.invariant-loop-left
invariant-loop-left l = (l.left ≤ length l.items) × (l.stack.items ≡ l.fn.stack.items ++ visits (drop l.left l.items))

abbrev pub decreases-loop-left : goal.decreases-loop-left
decreases-loop-left l = l.left
