use Rattle.std.proofs.Common.{◌≡◌, ◌<◌, ◌≤◌, ◌+◌, ◌∷◌, length, take, drop, Some}
use Rattle.std.specs.List.{IsDistinct}
use Rattle.indexmap.specs.IndexMap.{spare}
use Rattle.tp_store.specs.Nodes.{edges_in, nodes_in, node_from, missing_nodes, same_edge, IsTree, HasMoreNodes}
use Rattle.tp_store.proofs.nodes.Nodes.make_way.Given as goal

abbrev pub invariant-loop-index : goal.invariant-loop-index
invariant-loop-index l = record {
  tree : IsTree l.self;
  more : HasMoreNodes l.initial.self l.self;
  room : spare l.initial.self.below + missing_nodes (edges_in l.self) (drop l.index-index l.path.at) l.node ≤ spare l.self.below + missing_nodes (edges_in l.initial.self) l.path.at l.initial.node;
  unique : IsDistinct same_edge (edges_in l.self);
  within : l.node < length (nodes_in l.self);
  way : node_from (edges_in l.self) (l.path.var.number ∷ take l.index-index l.path.at) 0 ≡ Some l.node;
}
