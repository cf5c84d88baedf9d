use Rattle.std.proofs.Common.{◌≡◌, ◌≤◌, ◌++◌, [], Bool, length, take, drop}
use Rattle.indexmap.specs.IndexMap.{spare}
use Rattle.tp_store.specs.Known.{NoClash}
use Rattle.tp_store.specs.FactMap.{AreOfKind}
use Rattle.tp_store.specs.Nodes.{edges_in, facts_in_tree, room_behind, IsTree, HasNode}
use Rattle.tp_store.proofs.Room.{last_way}
use Rattle.tp_store.proofs.Kept.{AreKept}
use Rattle.tp_store.proofs.keeping.keep_all.Given as goal

abbrev pub invariant-loop-fact : goal.invariant-loop-fact
invariant-loop-fact l = record {
  tree : IsTree l.nodes;
  places : length l.nodes.places.items ≡ length l.initial.nodes.places.items;
  way : HasNode (edges_in l.nodes) (last_way [] (take l.fact-index l.facts));
  room : room_behind (last_way [] (take l.fact-index l.facts)) (drop l.fact-index l.facts) ≤ spare l.nodes.below;
  kept : (b : Bool) → AreOfKind b l.facts → NoClash (facts_in_tree b l.initial.nodes ++ l.facts)
      → AreKept (facts_in_tree b l.initial.nodes) (take l.fact-index l.facts) (facts_in_tree b l.nodes);
}
