-- An item is live that isn't gone and whose region is live.
use Rattle.std.proofs.Common.{◌≡◌, ℕ, ◌<◌, ◌&&◌, Bool, true, false, [], length, get_or, ap, sym, ◌∙◌, arith, rules}
use Rattle.std.proofs.lemmas.List.{length-map}
use Rattle.tp_scene.specs.Scene.{has}
use Rattle.tp_slots.specs.Plain as plain
use Rattle.tp_slots.specs.Plain.{slot_at}
use Rattle.tp_slots.specs.Kept.{IsShaped}
use Rattle.tp_slots.specs.Lives.{is_item, lives_in}
use Rattle.tp_slots.specs.Read.{holders_of, region_slot_of, scene_of, slot_of, slots_of, what_of}
use Rattle.tp_slots.specs.declared.scene.Scene.{Scene}
use Rattle.tp_slots.specs.declared.scene.Slot.{Slot}
use Rattle.tp_slots.proofs.Living.{has_is}
use Rattle.tp_slots.proofs.Seeing.{slot_past, slot_read}
use Rattle.tp_slots.proofs.live.has_item.Goals as goal

-- whether an item is live, by its slot
live_at : (s : Scene) (t : ℕ) → IsShaped (slots_of s) (holders_of s) → (x : plain.Slot) → x ≡ slot_at (slots_of s) t → (is_item x.what && lives_in (slots_of s) (holders_of s) x.home) ≡ has t (scene_of s).root.entries
live_at s t shape x e = ap (λ (y : plain.Slot). is_item y.what && lives_in (slots_of s) (holders_of s) y.home) e ∙ has_is (slots_of s) (holders_of s) shape.ordered shape.held shape.own t

read_live : (s : Scene) (t : ℕ) → IsShaped (slots_of s) (holders_of s) → (x : Slot) → x ≡ get_or s.slots.items t x → t < length s.slots.items → (b : Bool) → b ≡ is_item (what_of x.what)
    → (b && lives_in (slots_of s) (holders_of s) x.home) ≡ has t (scene_of s).root.entries
read_live s t shape x e within b is = ap (λ a. a && lives_in (slots_of s) (holders_of s) x.home) is ∙ live_at s t shape (slot_of x) (ap slot_of e ∙ slot_read s t x within)

pub returns-then-item-len : goal.returns-then-item-len
returns-then-item-len c = live_at c.args.scene.now c.args.item c.requires.shape (record { home = 0; what = plain.gone [] }) (sym (slot_past c.args.scene.now c.args.item (search rules)))

pub lives-requires-clause-region : goal.lives-requires-clause-region
lives-requires-clause-region c =
    let s = c.args.scene.now in
    let within : c.args.item < length s.slots.items = search rules in
    let e = length-map s.slots.items slot_of in
    let f = length-map s.regions.items region_slot_of in
    let h = (c.requires.shape.ordered.items c.args.item (omega (arith, e, within))).0 in
    let i = ap (λ (x : plain.Slot). x.home) (ap slot_of c.index-slot.ensures ∙ slot_read s c.args.item c.index-slot.result.now within) in
    omega (arith, f, h, i)

pub returns-then-is_kept : goal.returns-then-is_kept
returns-then-is_kept c = c.lives.ensures ∙ read_live c.args.scene.now c.args.item c.requires.shape c.index-slot.result.now c.index-slot.ensures (search rules) true (sym c.if-is_kept.true ∙ c.is_kept.ensures)

pub returns-else-is_kept : goal.returns-else-is_kept
returns-else-is_kept c = read_live c.args.scene.now c.args.item c.requires.shape c.index-slot.result.now c.index-slot.ensures (search rules) false (sym c.if-is_kept.false ∙ c.is_kept.ensures)
