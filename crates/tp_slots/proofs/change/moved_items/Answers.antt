-- The outer region of a projection is one of the regions.
use Rattle.std.proofs.Common.{◌<◌, length, ap, sym, ◌∙◌, subst, arith}
use Rattle.std.proofs.lemmas.List.{length-map}
use Rattle.tp_slots.specs.Plain as plain
use Rattle.tp_slots.specs.Plain.{slot_at}
use Rattle.tp_slots.specs.Row.{AreBelow}
use Rattle.tp_slots.specs.Read.{plain_holder, region_slot_of, slot_of, slots_of, what_of}
use Rattle.tp_slots.proofs.Seeing.{slot_read}
use Rattle.tp_slots.proofs.Settling.{what_below}
use Rattle.tp_slots.proofs.change.moved_items.Goals as goal

pub items_inside-requires-clause-region : goal.items_inside-requires-clause-region
items_inside-requires-clause-region c =
    let s = c.args.scene.now in
    let within : c.args.item < length s.slots.items = c.requires.item in
    let e = length-map s.slots.items slot_of in
    let at = ap (λ (x : plain.Slot). x.what) (ap slot_of c.index.ensures ∙ slot_read s c.args.item c.index.result.now within) in
    let fit = (c.requires.kept.shape.ordered.items c.args.item (omega (arith, within, e))).1 in
    let below = subst (λ n. AreBelow n (what_of c.index.result.now.what)) (length-map s.regions.items region_slot_of)
    (subst (AreBelow (length (slots_of s).regions)) (sym at) (what_below (slots_of s) (slot_at (slots_of s) c.args.item).home c.args.item (slot_at (slots_of s) c.args.item).what fit)) in
    let inside = subst (λ w. AreBelow (length s.regions.items) (what_of w)) c.in-Holder.is below in
    (subst (λ h. AreBelow (length s.regions.items) (plain_holder h)) c.in-SplitProject.is inside).1
