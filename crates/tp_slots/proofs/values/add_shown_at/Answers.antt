-- By what stands in the slot.
use Rattle.std.proofs.Common.{◌<◌, ◌++◌, map, length, ap, sym, ◌∙◌, rules}
use Rattle.std.proofs.lemmas.List.{append-nil}
use Rattle.tp_decide.specs.Read.{values_of}
use Rattle.tp_slots.specs.Plain as plain
use Rattle.tp_slots.specs.Settled.{what_shows}
use Rattle.tp_slots.specs.Read.{slot_of}
use Rattle.tp_slots.proofs.Seeing.{slot_past, slot_read}
use Rattle.tp_slots.proofs.values.add_shown_at.Goals as goal

pub returns-then-item-len : goal.returns-then-item-len
returns-then-item-len c = sym (ap (λ (x : plain.Slot). map values_of c.args.all.now.items ++ what_shows x.what) (slot_past c.args.scene.now c.args.item (search rules)) ∙ append-nil (map values_of c.args.all.now.items))

pub returns : goal.returns
returns c =
    let s = c.args.scene.now in
    let within : c.args.item < length s.slots.items = search rules in
    c.in_ok-add_shown.ensures ∙ ap (λ (x : plain.Slot). map values_of c.args.all.now.items ++ what_shows x.what) (ap slot_of c.index-slot.ensures ∙ slot_read s c.args.item c.index-slot.result.now within)
