-- What is carried over, as the code has it.
use Rattle.std.proofs.Common.{◌≡◌, ℕ, ◌+◌, ◌<◌, List, [], ◌∷◌, ◌++◌, length, take, get_or, ap, sym, ◌∙◌, subst, arith}
use Rattle.std.specs.Prelude.{slice_set}
use Rattle.std.proofs.lemmas.List.{map-set, get_or-map, length-map}
use Rattle.tp_scene.specs.Scene.{Entries, none}
use Rattle.tp_slots.specs.Plain.{slot_at, entries_at, IsOrdered}
use Rattle.tp_slots.specs.Own.{own_inside}
use Rattle.tp_step.specs.Successors.{left_by, item_then, all_items, FullRegion, full_regions, full_region_of, unmarked_region, refilled, IsExtended, HasRegion, next_ids, inside_ids, item_left, region_left}
use Rattle.tp_slots.specs.Read.{region_slot_of, slots_of}
use Rattle.tp_slots.specs.declared.scene.Scene.{Scene}
use Rattle.tp_slots.specs.declared.scene.Region.{Region}
use Rattle.tp_step.specs.declared.next_scene.Extent.{Extent}
use Rattle.tp_slots.proofs.Showing.{all_shown}
use Rattle.tp_step.proofs.Carrying.{shown_items, one_item_more, left_append, extended_more, ids_more}
use Rattle.tp_step.proofs.CarriedRegions.{region_begun, ids_begun}

-- a region that is filled
pub refilled_is : (xs : List Region) (at holder : ℕ) (roots : List ℕ) (d y : Region) → at < length xs
    → full_region_of y ≡ record { holder = holder; slot = record { ends = (get_or xs at d).ends; goes = (get_or xs at d).goes; roots = roots }; ends_now = (get_or xs at d).ends_now; goes_now = (get_or xs at d).goes_now }
    → full_regions (slice_set xs at y) ≡ slice_set (full_regions xs) at (refilled (full_regions xs) at holder roots)
refilled_is xs at holder roots d y l e =
    map-set full_region_of xs at y
    ∙ ap (slice_set (full_regions xs) at)
    (e ∙ ap (λ (z : FullRegion). record { holder = holder; slot = record { ends = z.slot.ends; goes = z.slot.goes; roots = roots }; ends_now = z.ends_now; goes_now = z.goes_now }) (sym (get_or-map full_region_of xs at d (unmarked_region 0 []) l)))

module _ (old : Scene) (e : Extent) (home : ℕ) (ids : List ℕ) (m : Scene) where
  -- what the first items leave
  abbrev pub first_left : ℕ → Entries
  first_left n = left_by e (all_items (slots_of old) (take n ids))

  pub item_carried : (i x : ℕ) (mid new : Scene) (roots next number : List ℕ) → take i ids ++ x ∷ [] ≡ take (i + 1) ids → IsExtended home (first_left i) m mid → roots ≡ next_ids m (first_left i)
      → IsExtended home (item_left old e x) mid new → number ≡ next_ids mid (item_left old e x) → next ≡ roots ++ number → IsExtended home (first_left (i + 1)) m new × (next ≡ next_ids m (first_left (i + 1)))
  item_carried i x mid new roots next number t a b c d f =
      let s = slots_of old in
      let xs = all_items s (take i ids) in
      let w = item_then s x (slot_at s x).what none in
      let g = sym (left_append e xs w) ∙ ap (left_by e) (sym (one_item_more s (take i ids) x) ∙ ap (all_items s) t) in (
        subst (λ fs. IsExtended home fs m new) g (extended_more home (first_left i) (item_left old e x) m mid new a c),
        f ∙ ((λ j. b j ++ d j) ∙ (sym (ids_more home (first_left i) (item_left old e x) m mid new a c) ∙ ap (next_ids m) g)),
      )

-- All items of the region are carried over.
pub record IsRegionCarried (old : Scene) (e : Extent) (r : ℕ) (roots : List ℕ) (begin new : Scene) : Type 0 where
  pub added : HasRegion 0 [] (region_left old e r) begin new
  pub listed : roots ≡ inside_ids begin (region_left old e r)

pub region_carried : (old : Scene) (e : Extent) (r home : ℕ) (ids roots : List ℕ) (begin m new : Scene) → IsOrdered (slots_of old) → r < length old.regions.items → ids ≡ own_inside old r → home ≡ length begin.regions.items
    → m.slots.items ≡ begin.slots.items → full_regions m.regions.items ≡ full_regions begin.regions.items ++ unmarked_region 0 [] ∷ []
    → IsExtended home (left_by e (all_items (slots_of old) ids)) m new → roots ≡ next_ids m (left_by e (all_items (slots_of old) ids)) → IsRegionCarried old e r roots begin new
region_carried old e r home ids roots begin m new sound l is h f g x y =
    let s = slots_of old in
    let c = length-map old.regions.items region_slot_of in
    let all : left_by e (all_items s ids) ≡ region_left old e r = ap (λ ns. left_by e (all_items s ns)) is ∙ ap (left_by e) (sym (shown_items s r (entries_at s r) (all_shown s sound r (omega (arith, l, c))))) in
    let z = subst (λ fs. IsExtended (length begin.regions.items) fs m new) all (subst (λ j. IsExtended j (left_by e (all_items s ids)) m new) h x) in
    record {
      added = region_begun (region_left old e r) begin m new f g z;
      listed = y ∙ (ap (next_ids m) all ∙ ids_begun (region_left old e r) begin m new f g z);
    }
