-- The items that stand in a region itself.
use Rattle.std.proofs.Common.{◌≡◌, ℕ, zero, suc, ◌<◌, List, [], ◌∷◌, ◌++◌, length, get_or, refl, ap, sym, ◌∙◌, subst, arith}
use Rattle.std.proofs.lemmas.List.{length-map, get_or-map}
use Rattle.tp_scene.specs.Scene.{Entries, none, leaf, node, append}
use Rattle.tp_slots.specs.Plain as plain
use Rattle.tp_slots.specs.Plain.{Slots, slot_at, in_order, region_entries, entries_at, AreIn, IsOrdered}
use Rattle.tp_slots.specs.Shown.{AreShown}
use Rattle.tp_slots.specs.Walk.{item_front}
use Rattle.tp_slots.specs.Own.{own_ids, own_for, own_in, own_inside}
use Rattle.tp_slots.specs.Read.{slot_of, region_slot_of, slots_of, what_of, item_what, item_home}
use Rattle.tp_slots.specs.declared.scene.Scene.{Scene}
use Rattle.tp_slots.specs.declared.scene.Slot.{Slot}
use Rattle.tp_slots.proofs.Walking.{stands_in_front}
use Rattle.tp_slots.proofs.Showing.{all_shown}

pub own_append : (xs ys : Entries) → own_ids (append xs ys) ≡ own_ids xs ++ own_ids ys
own_append none ys = refl
own_append (leaf id l rest) ys = ap (λ ns. id ∷ ns) (own_append rest ys)
own_append (node id k h held g second rest) ys = ap (λ ns. id ∷ ns) (own_append rest ys)

pub in_order_own : (s : Slots) (ids : List ℕ) → own_ids (in_order (item_front s) ids none) ≡ own_in s ids
in_order_own s [] = refl
in_order_own s (t ∷ ts) =
    ap own_ids (stands_in_front s (region_entries s (length s.regions)) (length s.slots) t (in_order (item_front s) ts none))
    ∙ (own_append (item_front s t none) (in_order (item_front s) ts none) ∙ ap (λ ns. own_for s t ++ ns) (in_order_own s ts))

pub own_in_region : (s : Slots) (r : ℕ) (es : Entries) → AreShown s r es → AreIn s 0 r (own_ids es)
own_in_region s r none a = tt
own_in_region s r (leaf id l rest) a = (omega arith, a.0, ap (λ (x : plain.Slot). x.home) a.1, own_in_region s r rest a.2)
own_in_region s r (node id k h held g second rest) a = (omega arith, a.0, ap (λ (x : plain.Slot). x.home) a.2, own_in_region s r rest a.9)

-- an item of the region
pub item_of_region : (old : Scene) (r i : ℕ) (ids : List ℕ) (x : ℕ) → IsOrdered (slots_of old) → r < length old.regions.items → ids ≡ own_inside old r → i < length ids → x ≡ get_or ids i x → (x < length old.slots.items) × (item_home old x ≡ r)
item_of_region old r i ids x sound l e n is =
    let s = slots_of old in
    let c = length-map old.regions.items region_slot_of in
    let d = length-map old.slots.items slot_of in
    let a = in_at s r ids i x (subst (AreIn s 0 r) (sym e) (own_in_region s r (entries_at s r) (all_shown s sound r (omega (arith, l, c))))) n in
    let f = subst (λ y. y < length s.slots) (sym is) a.0 in
    (omega (arith, f, d), ap (item_home old) is ∙ a.1)
  where
    in_at : (s : Slots) (r : ℕ) (ids : List ℕ) (i d : ℕ) → AreIn s 0 r ids → i < length ids → (get_or ids i d < length s.slots) × ((slot_at s (get_or ids i d)).home ≡ r)
    in_at s r [] i d a l = absurd (omega (arith, l))
    in_at s r (y ∷ ys) zero d a l = (a.1, a.2)
    in_at s r (y ∷ ys) (suc i) d a l = in_at s r ys i d a.3 (omega (arith, l))

-- what stands in an item's slot, as the code reads it
pub slot_is : (s : Scene) (t : ℕ) (x : Slot) → t < length s.slots.items → x ≡ get_or s.slots.items t x → what_of x.what ≡ item_what s t
slot_is s t x l e = ap (λ (y : Slot). what_of y.what) e ∙ ap (λ (y : plain.Slot). y.what) (sym (get_or-map slot_of s.slots.items t x (record { home = 0; what = plain.gone [] }) l))
