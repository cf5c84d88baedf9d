-- The root is there.
use Rattle.tp_slots.proofs.WalkLemmas.{root_within}
use Rattle.tp_slots.proofs.walk.items.Goals as goal

pub items_inside-requires-clause-region : goal.items_inside-requires-clause-region
items_inside-requires-clause-region c = root_within c.args.scene.now c.requires.shape.ordered
