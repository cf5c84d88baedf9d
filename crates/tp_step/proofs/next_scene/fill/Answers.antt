-- Only the holder and the roots of that region change.
use Rattle.std.proofs.Common.{refl}
use Rattle.tp_step.proofs.Carried.{refilled_is}
use Rattle.tp_step.proofs.next_scene.fill.Goals as goal

pub returns : goal.returns
returns c = refilled_is c.args.list.now c.args.at c.args.holder c.args.roots.items c.index-list-at.result _ c.requires refl
