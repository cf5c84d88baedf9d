-- Listing the items of a region itself.
use Rattle.std.proofs.Common.{◌≡◌, ℕ, suc, ◌+◌, ◌<◌, List, [], ◌∷◌, ◌++◌, length, get_or, refl, ap, sym, ◌∙◌, subst, arith}
use Rattle.std.proofs.lemmas.List.{append_assoc, append-nil, length-map}
use Rattle.tp_scene.specs.Scene.{none}
use Rattle.tp_slots.specs.Plain as plain
use Rattle.tp_slots.specs.Plain.{Slots, slot_at, region_slot, second_of, in_order, of_what, item_entries, region_entries, entries_at, AreIn, WhatFits, IsOrdered}
use Rattle.tp_slots.specs.Walk.{item_front}
use Rattle.tp_slots.specs.Cost.{sum_over, what_cost, cost_of, cost_at}
use Rattle.tp_slots.specs.Own.{own_ids, own_for, own_in}
use Rattle.tp_step.specs.Listing.{own_stacked, backward}
use Rattle.tp_slots.specs.Read.{slot_of, region_slot_of, slots_of}
use Rattle.tp_slots.specs.declared.scene.Scene.{Scene}
use Rattle.tp_slots.specs.declared.scene.Region.{Region}
use Rattle.tp_slots.proofs.Walking.{item_is, entries_are}
use Rattle.tp_slots.proofs.WalkLemmas.{roots_are}
use Rattle.tp_slots.proofs.CostLemmas.{less}
use Rattle.tp_slots.proofs.OwnItems.{in_order_own}

-- an item that isn't gone is listed
abbrev pub own_by : Slots → (t : ℕ) → plain.What → List ℕ
own_by s t (plain.bare l) = t ∷ []
own_by s t (plain.holds k r q) = t ∷ []
own_by s t (plain.gone by) = own_in s by

module _ (s : Slots) (sound : IsOrdered s) where
  region_own : (r : ℕ) → r < length s.regions → own_ids (entries_at s r) ≡ own_in s (region_slot s r).roots
  region_own r l = ap own_ids (entries_are s sound r l) ∙ in_order_own s (region_slot s r).roots

  what_own : (t : ℕ) (w : plain.What) → own_ids (of_what s (entries_at s) (item_front s) t w none) ≡ own_by s t w
  what_own t (plain.bare l) = refl
  what_own t (plain.holds k r q) = refl
  what_own t (plain.gone by) = in_order_own s by

  item_own : (t : ℕ) → t < length s.slots → own_for s t ≡ own_by s t (slot_at s t).what
  item_own t l = ap own_ids (item_is s sound t none l) ∙ what_own t (slot_at s t).what

stacked_append : (s : Slots) (xs ys : List ℕ) → own_stacked s (xs ++ ys) ≡ own_stacked s ys ++ own_stacked s xs
stacked_append s [] ys = sym (append-nil (own_stacked s ys))
stacked_append s (x ∷ xs) ys = ap (λ ns. ns ++ own_for s x) (stacked_append s xs ys) ∙ append_assoc (own_stacked s ys) (own_stacked s xs) (own_for s x)

stacked_backward : (s : Slots) (ids : List ℕ) → own_stacked s (backward ids) ≡ own_in s ids
stacked_backward s [] = refl
stacked_backward s (t ∷ ts) = stacked_append s (backward ts) (t ∷ []) ∙ ap (λ ns. own_for s t ++ ns) (stacked_backward s ts)

sum_append : (f : ℕ → ℕ) (xs ys : List ℕ) → sum_over f (xs ++ ys) ≡ sum_over f xs + sum_over f ys
sum_append f [] ys = omega arith
sum_append f (x ∷ xs) ys = let q = sum_append f xs ys in omega (arith, q)

sum_backward : (f : ℕ → ℕ) (ids : List ℕ) → sum_over f (backward ids) ≡ sum_over f ids
sum_backward f [] = refl
sum_backward f (t ∷ ts) = let p = sum_append f (backward ts) (t ∷ []) in let q = sum_backward f ts in omega (arith, p, q)

in_append : (s : Slots) (from home : ℕ) (xs ys : List ℕ) → AreIn s from home xs → AreIn s from home ys → AreIn s from home (xs ++ ys)
in_append s from home [] ys a b = b
in_append s from home (x ∷ xs) ys a b = (a.0, a.1, a.2, in_append s from home xs ys a.3 b)

in_backward : (s : Slots) (from home : ℕ) (ids : List ℕ) → AreIn s from home ids → AreIn s 0 home (backward ids)
in_backward s from home [] a = tt
in_backward s from home (t ∷ ts) a = in_append s 0 home (backward ts) (t ∷ []) (in_backward s from home ts a.3) (omega arith, a.1, a.2, tt)

in_front : (s : Slots) (from home : ℕ) (xs ys : List ℕ) → AreIn s from home (xs ++ ys) → AreIn s from home xs
in_front s from home [] ys a = tt
in_front s from home (x ∷ xs) ys a = (a.0, a.1, a.2, in_front s from home xs ys a.3)

in_back : (s : Slots) (from home : ℕ) (xs ys : List ℕ) → AreIn s from home (xs ++ ys) → AreIn s from home ys
in_back s from home [] ys a = a
in_back s from home (x ∷ xs) ys a = in_back s from home xs ys a.3

pub roots_listed : (s : Scene) (r : ℕ) (x : Region) (new : List ℕ) → IsOrdered (slots_of s) → r < length s.regions.items → x ≡ get_or s.regions.items r x → new ≡ backward x.roots.items
    → (own_stacked (slots_of s) new ≡ own_ids (entries_at (slots_of s) r)) × AreIn (slots_of s) 0 r new
roots_listed s r x new sound l e f =
    let z = slots_of s in
    let n = length-map s.regions.items region_slot_of in
    let within : r < length z.regions = omega (arith, n, l) in
    let g : new ≡ backward (region_slot z r).roots = f ∙ ap backward (roots_are s r x l e) in (
      ap (own_stacked z) g ∙ (stacked_backward z (region_slot z r).roots ∙ sym (region_own z sound r within)),
      subst (AreIn z 0 r) (sym g) (in_backward z 0 r (region_slot z r).roots (sound.regions r within)),
    )

pub gone_listed : (s : Scene) (t : ℕ) (by : List ℕ) (w : plain.What) (old new : List ℕ) → IsOrdered (slots_of s) → t < length s.slots.items → w ≡ (slot_at (slots_of s) t).what → w ≡ plain.gone by
    → AreIn (slots_of s) 0 (slot_at (slots_of s) t).home old → new ≡ old ++ backward by
    → (own_stacked (slots_of s) new ≡ own_for (slots_of s) t ++ own_stacked (slots_of s) old) × AreIn (slots_of s) 0 (slot_at (slots_of s) t).home new × (sum_over (cost_of (slots_of s)) new < cost_of (slots_of s) t + sum_over (cost_of (slots_of s)) old)
gone_listed s t by w old new sound a e f i g =
    let z = slots_of s in
    let n = length-map s.slots.items slot_of in
    let within : t < length z.slots = omega (arith, n, a) in
    let is = sym e ∙ f in
    let fits = subst (λ w. WhatFits z (slot_at z t).home t w) is (sound.items t within).1 in
    let c = less s t w sound a e in
    let d = ap (what_cost (cost_at z) (cost_of z)) f in
    let b = ap (sum_over (cost_of z)) g ∙ sum_append (cost_of z) old (backward by) in
    let h = sum_backward (cost_of z) by in (
      ap (own_stacked z) g ∙ (stacked_append z old (backward by) ∙ ap (λ ns. ns ++ own_stacked z old) (stacked_backward z by ∙ sym (item_own z sound t within ∙ ap (own_by z t) is))),
      subst (AreIn z 0 (slot_at z t).home) (sym g) (in_append z 0 (slot_at z t).home old (backward by) i (in_backward z (suc t) (slot_at z t).home by fits)),
      omega (arith, b, c, d, h),
    )

-- the last one is taken off the stack
pub taken_off : (s : Scene) (home t : ℕ) (old new : List ℕ) → AreIn (slots_of s) 0 home old → old ≡ new ++ t ∷ []
    → (own_stacked (slots_of s) old ≡ own_for (slots_of s) t ++ own_stacked (slots_of s) new) × (t < length s.slots.items) × ((slot_at (slots_of s) t).home ≡ home) × AreIn (slots_of s) 0 home new
    × (sum_over (cost_of (slots_of s)) old ≡ cost_of (slots_of s) t + sum_over (cost_of (slots_of s)) new)
taken_off s home t old new a e =
    let z = slots_of s in
    let n = length-map s.slots.items slot_of in
    let b = subst (AreIn z 0 home) e a in
    let last = in_back z 0 home new (t ∷ []) b in
    let l = last.1 in
    let c = ap (sum_over (cost_of z)) e ∙ sum_append (cost_of z) new (t ∷ []) in
    (ap (own_stacked z) e ∙ stacked_append z new (t ∷ []), omega (arith, n, l), last.2, in_front z 0 home new (t ∷ []) b, omega (arith, c))
