use Rattle.std.proofs.Common.{◌≡◌, ◌++◌, suc, drop}
use Rattle.tp_store.specs.FactMap.{facts_asked}
use Rattle.tp_store.specs.Nodes.{edges_in, nodes_in, routes, facts_along, facts_in_tree}
use Rattle.tp_store.proofs.copies.copy_facts.Given as goal

abbrev pub invariant-loop-number : goal.invariant-loop-number
invariant-loop-number l =
    l.facts.items ++ facts_asked l.which (facts_along l.lasting (drop (suc l.number) (routes (edges_in l.nodes))) (drop (suc l.number) (nodes_in l.nodes)))
    ≡ l.initial.facts.items ++ facts_asked l.which (facts_in_tree l.lasting l.nodes)
