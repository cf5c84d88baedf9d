-- What comes of picking a holder is what its slot says at its region's place.
use Rattle.std.proofs.Common.{◌≡◌, ℕ, ◌≤◌, ◌<◌, length, get_or, ap, sym, ◌∙◌, subst, refl, rules}
use Rattle.tp_scene.specs.Step.{region_limit}
use Rattle.tp_scene.specs.Pick.{numbers_of}
use Rattle.tp_slots.specs.Plain as plain
use Rattle.tp_slots.specs.Plain.{slot_at}
use Rattle.tp_slots.specs.Looks.{looked_at, looked_into}
use Rattle.tp_slots.specs.Picked.{IsHolding, first_held, held_step}
use Rattle.tp_slots.specs.Places.{place_outward}
use Rattle.tp_slots.specs.Read.{holders_of, scene_of, slot_of, slots_of}
use Rattle.tp_slots.specs.declared.scene.Scene.{Scene}
use Rattle.tp_slots.specs.declared.scene.Slot.{Slot}
use Rattle.tp_slots.proofs.Changing.{lives_within}
use Rattle.tp_slots.proofs.Moving.{held_as, held_within}
use Rattle.tp_slots.proofs.Seeing.{slot_read}
use Rattle.tp_slots.proofs.live.place_inside.Goals as goal

-- a try of an item that holds a region looks there
looks_inside : (home : ℕ) (x : plain.What) → IsHolding x → looked_into home x ≡ first_held x
looks_inside home (plain.bare l) h = absurd h
looks_inside home (plain.holds k r q) h = refl
looks_inside home (plain.gone by) h = absurd h

tried : (s : Scene) (t : ℕ) (x : Slot) (r : ℕ) → t < length s.slots.items → IsHolding (slot_at (slots_of s) t).what → x ≡ get_or s.slots.items t x → r ≡ looked_at (slot_of x) → r ≡ first_held (slot_at (slots_of s) t).what
tried s t x r within holding read is =
    let y = slot_at (slots_of s) t in
    is ∙ ap looked_at (ap slot_of read ∙ slot_read s t x within) ∙ looks_inside y.home y.what holding

pub index-requires : goal.index-requires
index-requires c = let l : c.args.item < length c.args.scene.now.slots.items = lives_within c.args.scene.now c.args.item c.requires.kept.shape.ordered c.requires.lives in search rules

pub place-requires-clause-region : goal.place-requires-clause-region
place-requires-clause-region c =
    let s = c.args.scene.now in
    let within = lives_within s c.args.item c.requires.kept.shape.ordered c.requires.lives in
    let i = tried s c.args.item c.index.result.now c.region_tried-region.result within c.requires.holding c.index.ensures c.region_tried-region.ensures in
    subst (λ r. r < length s.regions.items) (sym i) (held_within s c.args.item c.requires.kept c.requires.lives (slot_at (slots_of s) c.args.item).what refl c.requires.holding)

pub place-requires-clause-shallow : goal.place-requires-clause-shallow
place-requires-clause-shallow c =
    let s = c.args.scene.now in
    let within = lives_within s c.args.item c.requires.kept.shape.ordered c.requires.lives in
    let i = tried s c.args.item c.index.result.now c.region_tried-region.result within c.requires.holding c.index.ensures c.region_tried-region.ensures in
    subst (λ r. (place_outward (slots_of s) (holders_of s) r).depth ≤ region_limit) (sym i) c.requires.shallow

pub returns : goal.returns
returns c w k =
    let s = c.args.scene.now in
    let within = lives_within s c.args.item c.requires.kept.shape.ordered c.requires.lives in
    let i = tried s c.args.item c.index.result.now c.region_tried-region.result within c.requires.holding c.index.ensures c.region_tried-region.ensures in
    held_as s c.args.item c.requires.kept c.requires.lives w k (slot_at (slots_of s) c.args.item).what refl c.requires.holding
    ∙ ap (λ p. held_step w k.facts (slots_of s) (slot_at (slots_of s) c.args.item).what p (numbers_of (scene_of s) k.variables)) (sym (c.place.ensures ∙ ap (place_outward (slots_of s) (holders_of s)) i))
