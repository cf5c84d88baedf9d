use Rattle.std.proofs.Common.{refl}
use Rattle.tp_store.proofs.Growth.{moved_tree}
use Rattle.tp_store.proofs.nodes.Nodes.place.Goals as goal

pub returns-clause-tree : goal.returns-clause-tree
returns-clause-tree c = moved_tree c.args.self.now (record { below = c.args.self.now.below; places = c.lengthen.new.places }) refl c.lengthen.ensures.kept c.requires
