use Rattle.std.proofs.Common.{◌≡◌, drop}
use Rattle.tp_store.specs.Nodes.{edges_in, node_from, way_of}
use Rattle.tp_store.proofs.nodes.Nodes.find.Given as goal

abbrev pub invariant-loop-index : goal.invariant-loop-index
invariant-loop-index l = node_from (edges_in l.self) (drop l.index-index l.path.at) l.node ≡ node_from (edges_in l.self) (way_of l.path) 0
