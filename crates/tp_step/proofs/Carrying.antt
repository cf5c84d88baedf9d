-- What is added to the scene of the next state.
use Rattle.std.proofs.Common.{◌≡◌, ℕ, suc, ◌+◌, cond, List, [], ◌∷◌, ◌++◌, map, length, Some, None, refl, ap, sym, ◌∙◌, arith}
use Rattle.std.proofs.lemmas.List.{append_assoc, append-nil, length-append, length-map}
use Rattle.tp_scene.specs.Scene.{Holder, Split, SplitProject, Closed, Opened, Running, Do, Later, Shown, Entries, none, leaf, node, append}
use Rattle.tp_scene.specs.Advance.{unmarked, due, items_in, regions_in, regions_held, numbered_head, second_head, numbered}
use Rattle.tp_slots.specs.Plain.{What, bare, holds, gone, Slot, Slots, slot_at, has_second}
use Rattle.tp_slots.specs.Shown.{AreShown}
use Rattle.tp_slots.specs.Own.{own_ids}
use Rattle.tp_step.specs.Successors.{left_by, item_then, all_items, slots_for, FullRegion, full_regions, full_region_of, unmarked_region, regions_for, next_numbered, IsExtended, next_ids}
use Rattle.tp_slots.specs.Read.{slot_of}
use Rattle.tp_slots.specs.declared.scene.Scene.{Scene}
use Rattle.tp_step.specs.declared.next_scene.Extent.{Extent}
use Rattle.tp_step.specs.declared.next_scene.Extent.TheVariants.{Whole, Due}
use Rattle.tp_slots.proofs.OwnItems.{own_append}

-- The entries of a region are its items, one after the other.
pub shown_items : (s : Slots) (r : ℕ) (es : Entries) → AreShown s r es → es ≡ all_items s (own_ids es)
shown_items s r none a = refl
shown_items s r (leaf id l rest) a =
    ap (leaf id l) (shown_items s r rest a.2) ∙ ap (λ (x : Slot). item_then s id x.what (all_items s (own_ids rest))) (sym a.1)
shown_items s r (node id k h held g second rest) a =
    let b = a.3 in
    let c = a.4 in
    let d = a.5 in
    let e = a.6 in
    let f = shown_items s r rest a.9 in
    (λ i. node id k (b i) (c i) (d i) (e i) (f i))
    ∙ ap (λ (x : Slot). item_then s id x.what (all_items s (own_ids rest))) (sym a.2)

item_appended : (s : Slots) (t : ℕ) (w : What) (xs ys : Entries) → item_then s t w (append xs ys) ≡ append (item_then s t w xs) ys
item_appended s t (bare l) xs ys = refl
item_appended s t (holds k r q) xs ys = refl
item_appended s t (gone by) xs ys = refl

pub one_item_more : (s : Slots) (ids : List ℕ) (t : ℕ) → all_items s (ids ++ t ∷ []) ≡ append (all_items s ids) (item_then s t (slot_at s t).what none)
one_item_more s [] t = refl
one_item_more s (u ∷ us) t = ap (item_then s u (slot_at s u).what) (one_item_more s us t) ∙ item_appended s u (slot_at s u).what (all_items s us) (item_then s t (slot_at s t).what none)

due_append : (xs ys : Entries) → due (append xs ys) ≡ append (due xs) (due ys)
due_append none ys = refl
due_append (leaf id (Do f env) rest) ys = due_append rest ys
due_append (leaf id (Later f env) rest) ys = ap (leaf id (Do f env)) (due_append rest ys)
due_append (leaf id (Shown vs) rest) ys = due_append rest ys
due_append (node id (Split f env) h held g second rest) ys = ap (node id (Split f env) (unmarked h) (due held) g second) (due_append rest ys)
due_append (node id (SplitProject f env) h held g second rest) ys = ap (node id (SplitProject f env) (unmarked h) (due held) g second) (due_append rest ys)
due_append (node id Closed h held g second rest) ys = due_append rest ys
due_append (node id (Opened f env) h held g second rest) ys = due_append rest ys
due_append (node id (Running f env) h held g second rest) ys = ap (node id (SplitProject f env) (unmarked h) (due held) (unmarked g) (due second)) (due_append rest ys)

pub left_append : (e : Extent) (xs ys : Entries) → left_by e (append xs ys) ≡ append (left_by e xs) (left_by e ys)
left_append Whole xs ys = refl
left_append Due xs ys = due_append xs ys

-- The numbers go on.
numbered_append : (i r : ℕ) (xs ys : Entries) → numbered i r (append xs ys) ≡ append (numbered i r xs) (numbered (i + items_in xs) (r + regions_in xs) ys)
numbered_append i r none ys =
    let a : i ≡ i + 0 = omega arith in
    let b : r ≡ r + 0 = omega arith in
    λ x. numbered (a x) (b x) ys
numbered_append i r (leaf id l rest) ys =
    let a : i + 1 + items_in rest ≡ i + suc (items_in rest) = omega arith in
    ap (leaf i l) (numbered_append (i + 1) r rest ys ∙ ap (λ j. append (numbered (i + 1) r rest) (numbered j (r + regions_in rest) ys)) a)
numbered_append i r (node id k h held g second rest) ys =
    let at = i + items_in held in
    let i' = at + 1 + items_in second in
    let r' = r + regions_held k + regions_in held + regions_in second in
    let a : i' + items_in rest ≡ i + suc (items_in held + items_in second + items_in rest) = omega arith in
    let b : r' + regions_in rest ≡ r + (regions_held k + regions_in held + regions_in second + regions_in rest) = omega arith in
    let seconds = numbered (at + 1) (r + regions_held k + regions_in held) second in
    ap (node at k (numbered_head r h) (numbered i (r + 1) held) (second_head k (r + 1 + regions_in held) g) seconds) (numbered_append i' r' rest ys ∙ (λ x. append (numbered i' r' rest) (numbered (a x) (b x) ys)))

slots_append : (home : ℕ) (xs ys : Entries) → slots_for home (append xs ys) ≡ slots_for home xs ++ slots_for home ys
slots_append home none ys = refl
slots_append home (leaf id l rest) ys = ap (λ zs. record { home = home; what = bare l } ∷ zs) (slots_append home rest ys)
slots_append home (node id k h held g second rest) ys =
    let x : Slot = record { home = home; what = holds k h.number (cond (has_second k) (Some g.number) None) } in
    let first = slots_for h.number held in
    let then = slots_for g.number second in
    ap (λ zs. first ++ x ∷ (then ++ zs)) (slots_append home rest ys)
    ∙ (ap (λ zs. first ++ x ∷ zs) (sym (append_assoc then (slots_for home rest) (slots_for home ys)))
    ∙ sym (append_assoc first (x ∷ (then ++ slots_for home rest)) (slots_for home ys)))

regions_append : (xs ys : Entries) → regions_for (append xs ys) ≡ regions_for xs ++ regions_for ys
regions_append none ys = refl
regions_append (leaf id l rest) ys = regions_append rest ys
regions_append (node id k h held g second rest) ys =
    let x = unmarked_region id (own_ids held) in
    let first = regions_for held in
    let mid = cond (has_second k) (unmarked_region id (own_ids second) ∷ []) [] in
    let then = regions_for second in
    ap (λ zs. x ∷ (first ++ (mid ++ (then ++ zs)))) (regions_append rest ys)
    ∙ (ap (λ zs. x ∷ (first ++ (mid ++ zs))) (sym (append_assoc then (regions_for rest) (regions_for ys)))
    ∙ (ap (λ zs. x ∷ (first ++ zs)) (sym (append_assoc mid (then ++ regions_for rest) (regions_for ys)))
    ∙ ap (λ zs. x ∷ zs) (sym (append_assoc first (mid ++ (then ++ regions_for rest)) (regions_for ys)))))

pub slots_count : (home i r : ℕ) (fs : Entries) → length (slots_for home (numbered i r fs)) ≡ items_in fs
slots_count home i r none = refl
slots_count home i r (leaf id l rest) = ap suc (slots_count home (i + 1) r rest)
slots_count home i r (node id k h held g second rest) =
    let at = i + items_in held in
    let outer = r + 1 + regions_in held in
    let r' = r + regions_held k + regions_in held in
    let n = second_head k outer g in
    let x : Slot = record { home = home; what = holds k r (cond (has_second k) (Some n.number) None) } in
    let a = slots_count r i (r + 1) held in
    let b = slots_count n.number (at + 1) r' second in
    let c = slots_count home (at + 1 + items_in second) (r' + regions_in second) rest in
    let first = slots_for r (numbered i (r + 1) held) in
    let then = slots_for n.number (numbered (at + 1) r' second) in
    let last = slots_for home (numbered (at + 1 + items_in second) (r' + regions_in second) rest) in
    let d = length-append first (x ∷ (then ++ last)) in
    let e = length-append then last in
    omega (arith, a, b, c, d, e)

pub held_count : (k : Holder) (x : FullRegion) → suc (length (cond (has_second k) (x ∷ []) [])) ≡ regions_held k
held_count (Split f env) x = refl
held_count (SplitProject f env) x = refl
held_count Closed x = refl
held_count (Opened f env) x = refl
held_count (Running f env) x = refl

pub regions_count : (i r : ℕ) (fs : Entries) → length (regions_for (numbered i r fs)) ≡ regions_in fs
regions_count i r none = refl
regions_count i r (leaf id l rest) = regions_count (i + 1) r rest
regions_count i r (node id k h held g second rest) =
    let at = i + items_in held in
    let r' = r + regions_held k + regions_in held in
    let first = regions_for (numbered i (r + 1) held) in
    let seconds = numbered (at + 1) r' second in
    let mid = cond (has_second k) (unmarked_region at (own_ids seconds) ∷ []) [] in
    let then = regions_for seconds in
    let last = regions_for (numbered (at + 1 + items_in second) (r' + regions_in second) rest) in
    let a = regions_count i (r + 1) held in
    let b = regions_count (at + 1) r' second in
    let c = regions_count (at + 1 + items_in second) (r' + regions_in second) rest in
    let d = held_count k (unmarked_region at (own_ids seconds)) in
    let e = length-append first (mid ++ (then ++ last)) in
    let f = length-append mid (then ++ last) in
    let g = length-append then last in
    omega (arith, a, b, c, d, e, f, g)

-- how many items and regions there are then
pub record IsCounted (fs : Entries) (old new : Scene) : Type 0 where
  pub items : length new.slots.items ≡ length old.slots.items + items_in fs
  pub regions : length new.regions.items ≡ length old.regions.items + regions_in fs

counted : (home : ℕ) (fs : Entries) (a b : Scene) → IsExtended home fs a b → IsCounted fs a b
counted home fs a b x = record {
  items =
      let n = length-map a.slots.items slot_of in
      let m = length-map b.slots.items slot_of in
      let l = ap length x.slots ∙ length-append (map slot_of a.slots.items) (slots_for home (next_numbered a fs)) in
      let c = slots_count home (length a.slots.items) (length a.regions.items) fs in
      omega (arith, n, m, l, c);
  regions =
      let n = length-map a.regions.items full_region_of in
      let m = length-map b.regions.items full_region_of in
      let l = ap length x.regions ∙ length-append (full_regions a.regions.items) (regions_for (next_numbered a fs)) in
      let c = regions_count (length a.slots.items) (length a.regions.items) fs in
      omega (arith, n, m, l, c);
}

-- Entries are added after others.
pub extended_none : (home : ℕ) (a : Scene) → IsExtended home none a a
extended_none home a = record { slots = sym (append-nil (map slot_of a.slots.items)); regions = sym (append-nil (full_regions a.regions.items)) }

module _ (home : ℕ) (fs gs : Entries) (a b c : Scene) (x : IsExtended home fs a b) (y : IsExtended home gs b c) where
  goes_on : next_numbered a (append fs gs) ≡ append (next_numbered a fs) (next_numbered b gs)
  goes_on =
      let n = counted home fs a b x in
      let i = n.items in
      let r = n.regions in
      numbered_append (length a.slots.items) (length a.regions.items) fs gs ∙ (λ z. append (next_numbered a fs) (numbered (sym i z) (sym r z) gs))

  pub extended_more : IsExtended home (append fs gs) a c
  extended_more = record {
    slots =
        let before = map slot_of a.slots.items in
        let first = slots_for home (next_numbered a fs) in
        let then = slots_for home (next_numbered b gs) in
        y.slots ∙ (ap (λ zs. zs ++ then) x.slots ∙ (append_assoc before first then
        ∙ ap (λ zs. before ++ zs) (sym (ap (slots_for home) goes_on ∙ slots_append home (next_numbered a fs) (next_numbered b gs)))));
    regions =
        let before = full_regions a.regions.items in
        let first = regions_for (next_numbered a fs) in
        let then = regions_for (next_numbered b gs) in
        y.regions ∙ (ap (λ zs. zs ++ then) x.regions ∙ (append_assoc before first then
        ∙ ap (λ zs. before ++ zs) (sym (ap regions_for goes_on ∙ regions_append (next_numbered a fs) (next_numbered b gs)))));
  }

  pub ids_more : next_ids a (append fs gs) ≡ next_ids a fs ++ next_ids b gs
  ids_more = ap own_ids goes_on ∙ own_append (next_numbered a fs) (next_numbered b gs)
