use Rattle.tp_store.proofs.nodes.Nodes.+path.Given as goal

abbrev pub decreases-path : goal.decreases-path
decreases-path l = l.number
