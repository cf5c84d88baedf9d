use Rattle.std.proofs.Common.{◌≡◌, ◌++◌, ◌≤◌, length, drop}
use Rattle.tp_step.specs.Listing.{backward}
use Rattle.tp_step.proofs.own.push_backward.Given as goal

abbrev pub invariant-loop-left : goal.invariant-loop-left
invariant-loop-left l = (l.left ≤ length l.items) × (l.stack.items ≡ l.fn.stack.items ++ backward (drop l.left l.items))

abbrev pub decreases-loop-left : goal.decreases-loop-left
decreases-loop-left l = l.left
