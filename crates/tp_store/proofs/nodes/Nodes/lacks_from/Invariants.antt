use Rattle.std.proofs.Common.{◌≡◌, drop}
use Rattle.tp_store.specs.Nodes.{edges_in, nodes_in, lacks_way}
use Rattle.tp_store.proofs.nodes.Nodes.lacks_from.Given as goal

abbrev pub invariant-loop-i : goal.invariant-loop-i
invariant-loop-i l =
    lacks_way (edges_in l.self) (nodes_in l.self) (drop l.i l.at) l.node ≡ lacks_way (edges_in l.self) (nodes_in l.self) l.at l.from
