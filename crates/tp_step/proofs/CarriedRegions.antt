-- Regions and their holders are added to the scene of the next state.
use Rattle.std.proofs.Common.{◌≡◌, ℕ, ◌+◌, true, false, cond, List, [], ◌∷◌, ◌++◌, map, length, Some, None, refl, ap, sym, ◌∙◌, arith}
use Rattle.std.specs.Prelude.{slice_set}
use Rattle.std.proofs.lemmas.Bool.{both_ways}
use Rattle.std.proofs.lemmas.List.{append_assoc, append-nil, length-append, length-map}
use Rattle.std.proofs.Math.Seq.{get_or-append_seam}
use Rattle.tp_scene.specs.Scene.{Head, Leaf, Holder, Split, SplitProject, Closed, Opened, Running, Entries, none, leaf, node, no_region}
use Rattle.tp_scene.specs.Advance.{items_in, regions_in, regions_held, second_head, numbered}
use Rattle.tp_slots.specs.Plain.{bare, holds, Slot, has_second}
use Rattle.tp_slots.specs.Own.{own_ids}
use Rattle.tp_step.specs.Successors.{slots_for, FullRegion, full_regions, full_region_of, unmarked_region, refilled, regions_for, next_numbered, inside_numbered, IsExtended, HasRegion, next_ids, inside_ids}
use Rattle.tp_slots.specs.Read.{slot_of}
use Rattle.tp_slots.specs.declared.scene.Scene.{Scene}
use Rattle.tp_step.proofs.Carrying.{slots_count, regions_count}

-- A region is added, and then what stands in it.
module _ (fs : Entries) (old mid new : Scene) (same : mid.slots.items ≡ old.slots.items) (more : full_regions mid.regions.items ≡ full_regions old.regions.items ++ unmarked_region 0 [] ∷ []) (x : IsExtended (length old.regions.items) fs mid new) where
  is_inside : next_numbered mid fs ≡ inside_numbered old fs
  is_inside =
      let n = length-map old.regions.items full_region_of in
      let m = length-map mid.regions.items full_region_of in
      let l = ap length more ∙ length-append (full_regions old.regions.items) (unmarked_region 0 [] ∷ []) in
      let r : length mid.regions.items ≡ length old.regions.items + 1 = omega (arith, n, m, l) in
      λ i. numbered (length (same i)) (r i) fs

  pub region_begun : HasRegion 0 [] fs old new
  region_begun = record {
    slots = x.slots ∙ (let e = is_inside in λ i. map slot_of (same i) ++ slots_for (length old.regions.items) (e i));
    regions = x.regions ∙ ((let e = is_inside in λ i. more i ++ regions_for (e i)) ∙ append_assoc (full_regions old.regions.items) (unmarked_region 0 [] ∷ []) (regions_for (inside_numbered old fs)));
  }

  pub ids_begun : next_ids mid fs ≡ inside_ids old fs
  ids_begun = ap own_ids is_inside

set_seam : {A : Type 0} (xs : List A) (x y : A) (zs : List A) → slice_set (xs ++ x ∷ zs) (length xs) y ≡ xs ++ y ∷ zs
set_seam [] x y zs = refl
set_seam (w ∷ ws) x y zs = ap (λ l. w ∷ l) (set_seam ws x y zs)

-- It gets its holder and its roots.
pub region_filled : (fs : Entries) (holder : ℕ) (roots : List ℕ) (old mid new : Scene) → HasRegion 0 [] fs old mid → new.slots.items ≡ mid.slots.items
    → full_regions new.regions.items ≡ slice_set (full_regions mid.regions.items) (length old.regions.items) (refilled (full_regions mid.regions.items) (length old.regions.items) holder roots)
    → HasRegion holder roots fs old new
region_filled fs holder roots old mid new x same f = record {
  slots = ap (map slot_of) same ∙ x.slots;
  regions =
      let before = full_regions old.regions.items in
      let after = regions_for (inside_numbered old fs) in
      let d = unmarked_region 0 [] in
      let n = length-map old.regions.items full_region_of in
      f ∙ ((λ i. slice_set (x.regions i) (sym n i) (refilled (x.regions i) (sym n i) holder roots))
      ∙ (ap (λ (y : FullRegion). slice_set (before ++ d ∷ after) (length before) (record { holder = holder; slot = record { ends = y.slot.ends; goes = y.slot.goes; roots = roots }; ends_now = y.ends_now; goes_now = y.goes_now })) (get_or-append_seam before d after d)
      ∙ set_seam before d (unmarked_region holder roots) after));
}

-- an item without a region
pub bare_added : (home : ℕ) (l : Leaf) (a b : Scene) → map slot_of b.slots.items ≡ map slot_of a.slots.items ++ record { home = home; what = bare l } ∷ [] → b.regions.items ≡ a.regions.items → IsExtended home (leaf 0 l none) a b
bare_added home l a b e f = record { slots = e; regions = ap full_regions f ∙ sym (append-nil (full_regions a.regions.items)) }

-- How many items and regions there are with a region.
pub number_is : (holder : ℕ) (roots : List ℕ) (fs : Entries) (a b : Scene) → HasRegion holder roots fs a b → length b.slots.items ≡ length a.slots.items + items_in fs
number_is holder roots fs a b x =
    let n = length-map a.slots.items slot_of in
    let m = length-map b.slots.items slot_of in
    let l = ap length x.slots ∙ length-append (map slot_of a.slots.items) (slots_for (length a.regions.items) (inside_numbered a fs)) in
    let d = slots_count (length a.regions.items) (length a.slots.items) (length a.regions.items + 1) fs in
    omega (arith, n, m, l, d)

region_is : (holder : ℕ) (roots : List ℕ) (fs : Entries) (a b : Scene) → HasRegion holder roots fs a b → length b.regions.items ≡ length a.regions.items + 1 + regions_in fs
region_is holder roots fs a b x =
    let n = length-map a.regions.items full_region_of in
    let m = length-map b.regions.items full_region_of in
    let l = ap length x.regions ∙ length-append (full_regions a.regions.items) (unmarked_region holder roots ∷ regions_for (inside_numbered a fs)) in
    let d = regions_count (length a.slots.items) (length a.regions.items + 1) fs in
    omega (arith, n, m, l, d)

-- An item that holds the region that was added.
module _ (home : ℕ) (k : Holder) (h : Head) (fs : Entries) (a b c : Scene) (one : has_second k ≡ false) (x : HasRegion (length b.slots.items) (inside_ids a fs) fs a b)
    (s : map slot_of c.slots.items ≡ map slot_of b.slots.items ++ record { home = home; what = holds k (length a.regions.items) None } ∷ []) (same : c.regions.items ≡ b.regions.items) where
  pub one_added : IsExtended home (node 0 k h fs no_region none none) a c
  one_added = record {
    slots =
        let r = length a.regions.items in
        let before = map slot_of a.slots.items in
        let held = slots_for r (inside_numbered a fs) in
        let n = (second_head k (r + 1 + regions_in fs) no_region).number in
        s ∙ (ap (λ zs. zs ++ record { home = home; what = holds k r None } ∷ []) x.slots
        ∙ (append_assoc before held (record { home = home; what = holds k r None } ∷ [])
        ∙ ap (λ y. before ++ (held ++ record { home = home; what = holds k r (cond y (Some n) None) } ∷ [])) (sym one)));
    regions =
        let before = full_regions a.regions.items in
        let held = regions_for (inside_numbered a fs) in
        let m = number_is (length b.slots.items) (inside_ids a fs) fs a b x in
        ap full_regions same ∙ (x.regions
        ∙ ((λ i. before ++ unmarked_region (m i) (inside_ids a fs) ∷ sym (append-nil held) i)
        ∙ ap (λ y. before ++ unmarked_region (length a.slots.items + items_in fs) (inside_ids a fs) ∷ (held ++ cond y (unmarked_region (length a.slots.items + items_in fs) [] ∷ []) [])) (sym one)
        ∙ ap (λ zs. before ++ unmarked_region (length a.slots.items + items_in fs) (inside_ids a fs) ∷ (held ++ zs)) (sym (append-nil (cond (has_second k) (unmarked_region (length a.slots.items + items_in fs) [] ∷ []) [])))));
  }

  pub one_id : length b.slots.items ∷ [] ≡ next_ids a (node 0 k h fs no_region none none)
  one_id = ap (λ n. n ∷ []) (number_is (length b.slots.items) (inside_ids a fs) fs a b x)

-- An item that holds the two regions that were added.
module _ (home : ℕ) (k : Holder) (h g : Head) (fs gs : Entries) (a b c d : Scene) (two : has_second k ≡ true) (x : HasRegion (length b.slots.items) (inside_ids a fs) fs a b)
    (s : map slot_of c.slots.items ≡ map slot_of b.slots.items ++ record { home = home; what = holds k (length a.regions.items) (Some (length b.regions.items)) } ∷ [])
    (same : c.regions.items ≡ b.regions.items) (y : HasRegion (length b.slots.items) (inside_ids c gs) gs c d) where
  abbrev at : ℕ
  at = length a.slots.items + items_in fs

  abbrev r : ℕ
  r = length a.regions.items

  abbrev outer : ℕ
  outer = length a.regions.items + 1 + regions_in fs

  region_count : length b.regions.items ≡ outer
  region_count = region_is (length b.slots.items) (inside_ids a fs) fs a b x

  here : length b.slots.items ≡ at
  here = number_is (length b.slots.items) (inside_ids a fs) fs a b x

  next_item : length c.slots.items ≡ at + 1
  next_item =
      let n = length-map b.slots.items slot_of in
      let m = length-map c.slots.items slot_of in
      let e = here in
      let l = ap length s ∙ length-append (map slot_of b.slots.items) (record { home = home; what = holds k r (Some (length b.regions.items)) } ∷ []) in
      omega (arith, n, m, l, e)

  abbrev after : Entries
  after = numbered (at + 1) (outer + 1) gs

  inside_is : inside_numbered c gs ≡ after
  inside_is = let n = next_item in let m = ap length same ∙ region_count in λ i. numbered (n i) (m i + 1) gs

  second_is : (k : Holder) → has_second k ≡ true → (second_head k outer g).number ≡ outer
  second_is (Split f env) e = absurd (both_ways false refl e)
  second_is (SplitProject f env) e = refl
  second_is Closed e = absurd (both_ways false refl e)
  second_is (Opened f env) e = absurd (both_ways false refl e)
  second_is (Running f env) e = refl

  holds_two : (k : Holder) → has_second k ≡ true → regions_held k ≡ 2
  holds_two (Split f env) e = absurd (both_ways false refl e)
  holds_two (SplitProject f env) e = refl
  holds_two Closed e = absurd (both_ways false refl e)
  holds_two (Opened f env) e = absurd (both_ways false refl e)
  holds_two (Running f env) e = refl

  inner : outer + 1 ≡ r + regions_held k + regions_in fs
  inner = let e = holds_two k two in omega (arith, e)

  pub two_added : IsExtended home (node 0 k h fs g gs none) a d
  two_added = record {
    slots =
        let before = map slot_of a.slots.items in
        let held = slots_for r (inside_numbered a fs) in
        let seconds = slots_for outer after in
        let m = region_count in
        let e = inside_is in
        let o = ap length same ∙ m in
        let n = second_is k two in
        let i2 = inner in
        let item : Slot = record { home = home; what = holds k r (Some outer) } in
        y.slots ∙ ((λ i. (s ∙ (λ j. x.slots j ++ record { home = home; what = holds k r (Some (m j)) } ∷ [])) i ++ slots_for (o i) (e i))
        ∙ (append_assoc (before ++ held) (item ∷ []) seconds
        ∙ (append_assoc before held (item ∷ seconds)
        ∙ (ap (λ zs. before ++ (held ++ item ∷ zs)) (sym (append-nil seconds))
        ∙ (λ i. before ++ (held ++ record { home = home; what = holds k r (cond (sym two i) (Some (sym n i)) None) } ∷ (slots_for (sym n i) (numbered (at + 1) (i2 i) gs) ++ [])))))));
    regions =
        let before = full_regions a.regions.items in
        let held = regions_for (inside_numbered a fs) in
        let seconds = regions_for after in
        let first = unmarked_region at (inside_ids a fs) in
        let then = unmarked_region at (own_ids after) in
        let n = here in
        let e = inside_is in
        let i2 = inner in
        y.regions ∙ ((λ i. (ap full_regions same ∙ (x.regions ∙ (λ j. before ++ unmarked_region (n j) (inside_ids a fs) ∷ held))) i ++ unmarked_region (n i) (own_ids (e i)) ∷ regions_for (e i))
        ∙ (append_assoc before (first ∷ held) (then ∷ seconds)
        ∙ (ap (λ zs. before ++ first ∷ (held ++ then ∷ zs)) (sym (append-nil seconds))
        ∙ (λ i. before ++ first ∷ (held ++ (cond (sym two i) (unmarked_region at (own_ids (numbered (at + 1) (i2 i) gs)) ∷ []) [] ++ (regions_for (numbered (at + 1) (i2 i) gs) ++ [])))))));
  }

  pub two_id : length b.slots.items ∷ [] ≡ next_ids a (node 0 k h fs g gs none)
  two_id = ap (λ n. n ∷ []) here
