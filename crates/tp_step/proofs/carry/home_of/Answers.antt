use Rattle.std.proofs.Common.{◌<◌, length, ap, ◌∙◌, rules}
use Rattle.tp_slots.specs.Plain as plain
use Rattle.tp_slots.specs.Read.{slot_of}
use Rattle.tp_slots.proofs.Changing.{lives_within}
use Rattle.tp_slots.proofs.Seeing.{slot_read}
use Rattle.tp_step.proofs.CarryLemmas.{home_is}
use Rattle.tp_step.proofs.carry.home_of.Goals as goal

pub index-slot-requires : goal.index-slot-requires
index-slot-requires c = let l : c.args.item < length c.args.scene.now.slots.items = lives_within c.args.scene.now c.args.item c.requires.kept.shape.ordered c.requires.lives in search rules

pub returns : goal.returns
returns c =
    let s = c.args.scene.now in
    let within = lives_within s c.args.item c.requires.kept.shape.ordered c.requires.lives in
    ap (λ (x : plain.Slot). x.home) (ap slot_of c.index-slot.ensures ∙ slot_read s c.args.item c.index-slot.result.now within) ∙ home_is s c.args.item c.requires.kept c.requires.lives
