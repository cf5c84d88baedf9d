use Rattle.tp_store.proofs.nodes.Nodes.+index_after.Given as goal

abbrev pub decreases-index_after : goal.decreases-index_after
decreases-index_after l = l.second
