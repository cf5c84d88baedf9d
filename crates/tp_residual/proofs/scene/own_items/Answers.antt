use Rattle.std.proofs.Common.{◌++◌, ◌∙◌}
use Rattle.tp_slots.specs.Own.{own_in}
use Rattle.tp_slots.specs.Read.{slots_of}
use Rattle.tp_residual.proofs.Standing.{roots_own, root_item}
use Rattle.tp_residual.proofs.scene.own_items.Goals as goal

pub loop-item-init : goal.loop-item-init
loop-item-init c =
    let s = c.args.scene.now in
    let x = (roots_own s c.args.region c.index.result.now c.requires.sound c.requires.region c.index.ensures).0 in
    (λ i. c.new-out.ensures.items i ++ own_in (slots_of s) (c.deref-item-items.ensures.value i)) ∙ x

pub push_standing-requires : goal.push_standing-requires
push_standing-requires c = record {
  sound = c.requires.sound;
  item = root_item c.args.scene.now c.args.region c.loop-item.item-index c.index.result.now c.deref-item-items.result.now c.requires.sound c.requires.region c.index.ensures c.deref-item-items.ensures.value c.loop-item-test.true;
}
