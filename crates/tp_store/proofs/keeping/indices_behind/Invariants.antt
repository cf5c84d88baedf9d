use Rattle.std.proofs.Common.{length, drop, ◌-◌, ◌≡◌, ◌≤◌}
use Rattle.tp_store.specs.Nodes.{steps_behind}
use Rattle.tp_store.proofs.keeping.indices_behind.Given as goal

abbrev pub invariant-loop-shared : goal.invariant-loop-shared
invariant-loop-shared l = record {
  first : l.shared ≤ length l.first;
  second : l.shared ≤ length l.second;
  behind : steps_behind (drop l.shared l.first) (drop l.shared l.second) ≡ steps_behind l.first l.second;
}

abbrev pub decreases-loop-shared : goal.decreases-loop-shared
decreases-loop-shared l = length l.first - l.shared
