use Rattle.std.proofs.Common.{◌≡◌, ◌+◌, drop}
use Rattle.tp_store.specs.Nodes.{way_of, room_behind, room_for}
use Rattle.tp_store.proofs.keeping.room_for.Given as goal

abbrev pub invariant-loop-fact : goal.invariant-loop-fact
invariant-loop-fact l = record {
  room : l.room + room_behind (way_of l.before) (drop l.fact-index l.facts) ≡ room_for l.facts;
}
