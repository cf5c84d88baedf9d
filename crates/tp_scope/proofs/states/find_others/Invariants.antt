use Rattle.std.proofs.Common.{◌≡◌, ◌↔◌, ◌<◌, ℕ, false, Some, slice_get}
use Rattle.std.specs.List.{Contains}
use Rattle.tp_scope.proofs.states.find_others.Given as goal

abbrev pub invariant-loop-i : goal.invariant-loop-i
invariant-loop-i l = (i : ℕ) → Contains l.others.items i ↔ ((i < l.i) × (slice_get l.states i ≡ Some false))
