-- What stands in the next state for an item.
use Rattle.std.proofs.Common.{◌≡◌, ℕ, ◌<◌, true, false, [], length, get_or, Some, None, refl, ap, sym, ◌∙◌, subst, arith}
use Rattle.std.proofs.lemmas.Bool.{both_ways}
use Rattle.std.proofs.lemmas.List.{length-map, get_or-map}
use Rattle.tp_scene.specs.Scene.{Split, SplitProject, Closed, Opened, Running, Do, Later, Shown, none}
use Rattle.tp_slots.specs.Plain as plain
use Rattle.tp_slots.specs.Plain.{What, bare, holds, gone, Slots, slot_at, has_second, WhatFits, IsOrdered}
use Rattle.tp_step.specs.Successors.{left_by, Successor, successor_in, successor_entries, SuccessorFits, item_then, IsExtended, next_ids}
use Rattle.tp_slots.specs.Read.{slot_of, slots_of, what_of, item_what, item_home}
use Rattle.tp_slots.specs.declared.scene.Scene.{Scene}
use Rattle.tp_slots.specs.declared.scene.Slot.{Slot}
use Rattle.tp_step.specs.declared.next_scene.Extent.{Extent}
use Rattle.tp_step.specs.declared.next_scene.Extent.TheVariants.{Whole, Due}

-- It is what is left of the item: numbers and marks of the old scene make no difference.
pub record IsSame (s : Slots) (e : Extent) (t : ℕ) (x : Successor) (w : What) (home : ℕ) (a b : Scene) : Type 0 where
  pub added : IsExtended home (successor_entries s e x) a b → IsExtended home (left_by e (item_then s t w none)) a b
  pub ids : next_ids a (successor_entries s e x) ≡ next_ids a (left_by e (item_then s t w none))

same_left : (s : Slots) (e : Extent) (u t : ℕ) (w : What) (home : ℕ) (a b : Scene) → WhatFits s u t w → IsSame s e t (successor_in e w) w home a b
same_left s Whole u t (bare l) home a b f = record { added = λ x. record { slots = x.slots; regions = x.regions }; ids = refl }
same_left s Whole u t (holds k r None) home a b f = record { added = λ x. record { slots = x.slots; regions = x.regions }; ids = refl }
same_left s Whole u t (holds k r (Some q)) home a b f = record { added = λ x. record { slots = x.slots; regions = x.regions }; ids = refl }
same_left s Whole u t (gone by) home a b f = record { added = λ x. x; ids = refl }
same_left s Due u t (bare (Do f env)) home a b i = record { added = λ x. x; ids = refl }
same_left s Due u t (bare (Later f env)) home a b i = record { added = λ x. record { slots = x.slots; regions = x.regions }; ids = refl }
same_left s Due u t (bare (Shown vs)) home a b i = record { added = λ x. x; ids = refl }
same_left s Due u t (holds (Split f env) r None) home a b i = record { added = λ x. record { slots = x.slots; regions = x.regions }; ids = refl }
same_left s Due u t (holds (Split f env) r (Some q)) home a b i = absurd (both_ways false refl i.1.0)
same_left s Due u t (holds (SplitProject f env) r None) home a b i = absurd (both_ways true i.1 refl)
same_left s Due u t (holds (SplitProject f env) r (Some q)) home a b i = record { added = λ x. record { slots = x.slots; regions = x.regions }; ids = refl }
same_left s Due u t (holds Closed r q) home a b i = record { added = λ x. x; ids = refl }
same_left s Due u t (holds (Opened f env) r q) home a b i = record { added = λ x. x; ids = refl }
same_left s Due u t (holds (Running f env) r None) home a b i = absurd (both_ways true i.1 refl)
same_left s Due u t (holds (Running f env) r (Some q)) home a b i = record { added = λ x. record { slots = x.slots; regions = x.regions }; ids = refl }
same_left s Due u t (gone by) home a b i = record { added = λ x. x; ids = refl }

successor_fits : (s : Slots) (e : Extent) (u t : ℕ) (w : What) → WhatFits s u t w → SuccessorFits s u (successor_in e w)
successor_fits s Whole u t (bare l) f = tt
successor_fits s Whole u t (holds k r None) f = (f.1, f.0)
successor_fits s Whole u t (holds k r (Some q)) f = (f.1.0, f.0, f.1.1)
successor_fits s Whole u t (gone by) f = tt
successor_fits s Due u t (bare (Do f env)) i = tt
successor_fits s Due u t (bare (Later f env)) i = tt
successor_fits s Due u t (bare (Shown vs)) i = tt
successor_fits s Due u t (holds (Split f env) r None) i = (refl, i.0)
successor_fits s Due u t (holds (Split f env) r (Some q)) i = tt
successor_fits s Due u t (holds (SplitProject f env) r None) i = tt
successor_fits s Due u t (holds (SplitProject f env) r (Some q)) i = (refl, i.0, i.1.1)
successor_fits s Due u t (holds Closed r q) i = tt
successor_fits s Due u t (holds (Opened f env) r q) i = tt
successor_fits s Due u t (holds (Running f env) r None) i = tt
successor_fits s Due u t (holds (Running f env) r (Some q)) i = (refl, i.0, i.1.1)
successor_fits s Due u t (gone by) i = tt

-- The same of an item by its slot, as the code reads it.
module _ (old : Scene) (e : Extent) (t : ℕ) (y : Slot) (x : Successor) (sound : IsOrdered (slots_of old)) (l : t < length old.slots.items) (is : y ≡ get_or old.slots.items t y) (so : x ≡ successor_in e (what_of y.what)) where
  what_is : what_of y.what ≡ item_what old t
  what_is = ap (λ (z : Slot). what_of z.what) is ∙ ap (λ (z : plain.Slot). z.what) (sym (get_or-map slot_of old.slots.items t y (record { home = 0; what = gone [] }) l))

  fits : WhatFits (slots_of old) (item_home old t) t (item_what old t)
  fits = let n = length-map old.slots.items slot_of in (sound.items t (omega (arith, n, l))).1

  item_same : (home : ℕ) (a b : Scene) → IsSame (slots_of old) e t x (item_what old t) home a b
  item_same home a b = subst (λ z. IsSame (slots_of old) e t z (item_what old t) home a b) (sym (so ∙ ap (successor_in e) what_is)) (same_left (slots_of old) e (item_home old t) t (item_what old t) home a b fits)

  item_fits : SuccessorFits (slots_of old) (item_home old t) x
  item_fits = subst (λ z. SuccessorFits (slots_of old) (item_home old t) z) (sym (so ∙ ap (successor_in e) what_is)) (successor_fits (slots_of old) e (item_home old t) t (item_what old t) fits)

  pub item_is_left : (home : ℕ) (a b : Scene) → SuccessorFits (slots_of old) (item_home old t) x × IsSame (slots_of old) e t x (item_what old t) home a b
  item_is_left home a b = (item_fits, item_same home a b)
