use Rattle.std.proofs.Common.{◌≡◌, ◌-◌, length}
use Rattle.tp_store.specs.Changes.{HasAppended}
use Rattle.tp_store.specs.Nodes.{nodes_in, facts_in_tree}
use Rattle.tp_store.proofs.Walks.{those, is_before}
use Rattle.tp_store.proofs.walk.+copy_from.Given as goal

abbrev pub decreases-copy_from : goal.decreases-copy_from
decreases-copy_from l = length (nodes_in l.nodes.now) - l.node

abbrev pub invariant-loop-index : goal.invariant-loop-index
invariant-loop-index l = record {
  path : l.path ≡ l.fn.path;
  facts : HasAppended (those (is_before l.fn.path l.index) (facts_in_tree l.fn.path.var.lasting l.nodes)) l.fn.facts.items l.facts.items;
}
