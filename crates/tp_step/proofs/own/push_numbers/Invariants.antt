use Rattle.std.proofs.Common.{◌≡◌, ◌+◌, ◌-◌, ◌++◌, ◌≤◌}
use Rattle.std.specs.List.{range_with_len}
use Rattle.tp_step.specs.Listing.{backward}
use Rattle.tp_step.proofs.own.push_numbers.Given as goal

abbrev pub invariant-loop-left : goal.invariant-loop-left
invariant-loop-left l = (l.left ≤ l.count) × (l.stack.items ≡ l.fn.stack.items ++ backward (range_with_len (l.first + l.left) (l.count - l.left)))

abbrev pub decreases-loop-left : goal.decreases-loop-left
decreases-loop-left l = l.left
