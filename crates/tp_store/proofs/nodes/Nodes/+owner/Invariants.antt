use Rattle.tp_store.proofs.nodes.Nodes.+owner.Given as goal

abbrev pub decreases-owner : goal.decreases-owner
decreases-owner l = l.number
