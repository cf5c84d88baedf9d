use Rattle.tp_store.specs.Known.{facts_below}
use Rattle.tp_store.specs.Changes.{HasAppended}
use Rattle.tp_store.specs.Nodes.{facts_in_tree}
use Rattle.tp_store.proofs.walk.copy_variables.Given as goal

abbrev pub invariant-loop-number : goal.invariant-loop-number
invariant-loop-number l = HasAppended (facts_below l.number (facts_in_tree l.lasting l.nodes)) l.fn.facts.items l.facts.items
