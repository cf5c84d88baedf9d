use Rattle.std.proofs.Common.{Some, refl, ap, ◌∙◌}
use Rattle.tp_slots.proofs.Marks.{mark_live}
use Rattle.tp_slots.proofs.WalkLemmas.{root_within}
use Rattle.tp_slots.proofs.status.root_mark.Goals as goal

pub mark_within-requires-clause-region : goal.mark_within-requires-clause-region
mark_within-requires-clause-region c = root_within c.args.scene.now c.requires.shape.ordered

pub returns : goal.returns
returns c = ap Some c.mark_within.ensures ∙ mark_live c.args.scene.now c.requires 0 (root_within c.args.scene.now c.requires.shape.ordered) refl
