-- What comes of picking an item is what its slot says at that place.
use Rattle.std.proofs.Common.{◌≤◌, ◌<◌, length, ap, sym, ◌∙◌, subst, arith, refl, rules}
use Rattle.std.proofs.lemmas.List.{length-map}
use Rattle.tp_scene.specs.Scene.{Place}
use Rattle.tp_scene.specs.Step.{region_limit}
use Rattle.tp_scene.specs.Pick.{numbers_of}
use Rattle.tp_slots.specs.Plain as plain
use Rattle.tp_slots.specs.Plain.{entries_at, slot_at}
use Rattle.tp_slots.specs.Picked.{what_step}
use Rattle.tp_slots.specs.Places.{place_outward}
use Rattle.tp_slots.specs.Read.{holders_of, region_slot_of, scene_of, slot_of, slots_of}
use Rattle.tp_slots.proofs.Changing.{lives_within}
use Rattle.tp_slots.proofs.Moving.{stepped_as}
use Rattle.tp_slots.proofs.Seeing.{region_is, slot_read}
use Rattle.tp_slots.proofs.Showing.{all_shown, has_shown}
use Rattle.tp_slots.proofs.live.place_of_item.Goals as goal

pub index-slot-requires : goal.index-slot-requires
index-slot-requires c = let l : c.args.item < length c.args.scene.now.slots.items = lives_within c.args.scene.now c.args.item c.requires.kept.shape.ordered c.requires.lives in search rules

pub place-requires-clause-region : goal.place-requires-clause-region
place-requires-clause-region c =
    let s = c.args.scene.now in
    let within = lives_within s c.args.item c.requires.kept.shape.ordered c.requires.lives in
    let e = length-map s.slots.items slot_of in
    let f = length-map s.regions.items region_slot_of in
    let h = (c.requires.kept.shape.ordered.items c.args.item (omega (arith, e, within))).0 in
    let i = ap (λ (x : plain.Slot). x.home) (ap slot_of c.index-slot.ensures ∙ slot_read s c.args.item c.index-slot.result.now within) in
    omega (arith, f, h, i)

pub place-requires-clause-shallow : goal.place-requires-clause-shallow
place-requires-clause-shallow c =
    let s = c.args.scene.now in
    let within = lives_within s c.args.item c.requires.kept.shape.ordered c.requires.lives in
    let i = ap (λ (x : plain.Slot). x.home) (ap slot_of c.index-slot.ensures ∙ slot_read s c.args.item c.index-slot.result.now within) in
    subst (λ h. (place_outward (slots_of s) (holders_of s) h).depth ≤ region_limit) (sym i) c.requires.shallow

pub returns-clause-outcome : goal.returns-clause-outcome
returns-clause-outcome c w k =
    let s = c.args.scene.now in
    let within = lives_within s c.args.item c.requires.kept.shape.ordered c.requires.lives in
    let i = ap (λ (x : plain.Slot). x.home) (ap slot_of c.index-slot.ensures ∙ slot_read s c.args.item c.index-slot.result.now within) in
    stepped_as s c.args.item c.requires.kept c.requires.lives w k (slot_at (slots_of s) c.args.item).what refl
    ∙ ap (λ p. what_step w k.facts (slots_of s) (slot_at (slots_of s) c.args.item).what p (numbers_of (scene_of s) k.variables)) (sym (c.place.ensures ∙ ap (place_outward (slots_of s) (holders_of s)) i))

pub returns-clause-home : goal.returns-clause-home
returns-clause-home c =
    let s = c.args.scene.now in
    let kept = c.requires.kept.shape in
    let within = lives_within s c.args.item kept.ordered c.requires.lives in
    let e = length-map s.slots.items slot_of in
    let i = ap (λ (x : plain.Slot). x.home) (ap slot_of c.index-slot.ensures ∙ slot_read s c.args.item c.index-slot.result.now within) in
    let h = (kept.ordered.items c.args.item (omega (arith, e, within))).0 in
    let stands = (has_shown (slots_of s) kept.ordered c.args.item 0 (entries_at (slots_of s) 0) (all_shown (slots_of s) kept.ordered 0 kept.ordered.root) c.requires.lives).1 in
    ap (λ (p : Place). p.region) (c.place.ensures ∙ ap (place_outward (slots_of s) (holders_of s)) i)
    ∙ (region_is (slots_of s) (holders_of s) kept.ordered kept.held (slot_at (slots_of s) c.args.item).home h ∙ sym stands)
