use Rattle.std.proofs.Common.{◌≡◌, ◌<◌, length, ℕ, count_by}
use Rattle.tp_lanes.specs.Planes.{flag}
use Rattle.tp_slots.proofs.number_set.NumberSet.leave_below.Given as goal

abbrev pub invariant-from : goal.invariant-from
invariant-from l = record {
  bound : l.self-inside.bound ≡ length l.self-inside.members;
  below : (n : ℕ) → n < l.least → flag l.self-inside.members n ≡ flag l.fn.self n;
}

abbrev pub decreases-from : goal.decreases-from
decreases-from l = count_by (λ b. b) l.self-inside.members
