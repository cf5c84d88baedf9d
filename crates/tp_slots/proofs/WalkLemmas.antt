-- The tasks of the walk, as the code has them.
use Rattle.std.proofs.Common.{◌≡◌, ℕ, zero, suc, ◌+◌, ◌≤◌, ◌<◌, ◌^◌, false, List, [], ◌∷◌, ◌++◌, length, get_or, Option, ap, sym, ◌∙◌, subst, arith, inl, inr}
use Rattle.std.specs.List.{range_with_len}
use Rattle.std.proofs.lemmas.Bool.{cases_lt}
use Rattle.std.proofs.lemmas.List.{append_assoc, get_or-map, length-map}
use Rattle.tp_scene.specs.Scene as S
use Rattle.tp_scene.specs.LiveItems.{live_items}
use Rattle.tp_slots.specs.Plain as plain
use Rattle.tp_slots.specs.Plain.{IsOrdered, WhatFits, slot_at, region_slot, entries_at}
use Rattle.tp_slots.specs.Walk.{live_of, live_in, told_by, todo, visits, IsTask, AreTasks}
use Rattle.tp_slots.specs.Read.{slot_of, region_slot_of, slots_of}
use Rattle.tp_slots.specs.declared.walk.WalkTask.{WalkTask}
use Rattle.tp_slots.specs.declared.walk.WalkTask.TheVariants.{Tell}
use Rattle.tp_slots.proofs.Walking.{region_live, bare_live, gone_live, holder_live, todo_append, todo_visits, tasks_append, tasks_visits, tasks_front, tasks_back}
use Rattle.tp_slots.specs.declared.scene.Scene.{Scene}
use Rattle.tp_slots.specs.declared.scene.Region.{Region}

pub roots_are : (s : Scene) (r : ℕ) (x : Region) → r < length s.regions.items → x ≡ get_or s.regions.items r x → x.roots.items ≡ (region_slot (slots_of s) r).roots
roots_are s r x l e = ap (λ (y : Region). y.roots.items) e ∙ ap (λ (y : plain.RegionSlot). y.roots) (sym (get_or-map region_slot_of s.regions.items r x (record { ends = false; goes = false; roots = [] }) l))

-- the items of a region are to be visited, before what was to be done
pub region_todo : (s : Scene) (r : ℕ) (x : Region) (old new : List WalkTask) → IsOrdered (slots_of s) → r < length s.regions.items → x ≡ get_or s.regions.items r x → AreTasks (slots_of s) old → new ≡ old ++ visits x.roots.items
    → (todo (slots_of s) new ≡ live_items (entries_at (slots_of s) r) ++ todo (slots_of s) old) × AreTasks (slots_of s) new
region_todo s r x old new sound l e t f =
    let n = length-map s.regions.items region_slot_of in
    let within : r < length (slots_of s).regions = omega (arith, n, l) in
    let g : new ≡ old ++ visits (region_slot (slots_of s) r).roots = f ∙ ap (λ ids. old ++ visits ids) (roots_are s r x l e) in (
      ap (todo (slots_of s)) g ∙ (todo_append (slots_of s) old (visits (region_slot (slots_of s) r).roots) ∙ ap (λ ns. ns ++ todo (slots_of s) old) (todo_visits (slots_of s) (region_slot (slots_of s) r).roots ∙ sym (region_live (slots_of s) sound r within))),
      subst (AreTasks (slots_of s)) (sym g) (tasks_append (slots_of s) old (visits (region_slot (slots_of s) r).roots) t (tasks_visits (slots_of s) 0 r (region_slot (slots_of s) r).roots (sound.regions r within))),
    )

pub enter_todo : (s : Scene) (r t : ℕ) (x : Region) (old mid new : List WalkTask) → IsOrdered (slots_of s) → r < length s.regions.items → x ≡ get_or s.regions.items r x → AreTasks (slots_of s) old → mid ≡ old ++ Tell t ∷ [] → new ≡ mid ++ visits x.roots.items
    → (todo (slots_of s) new ≡ live_items (entries_at (slots_of s) r) ++ t ∷ todo (slots_of s) old) × AreTasks (slots_of s) new
enter_todo s r t x old mid new sound l e a f g =
    let b : AreTasks (slots_of s) mid = subst (AreTasks (slots_of s)) (sym f) (tasks_append (slots_of s) old (Tell t ∷ []) a (tt, tt)) in
    let h = region_todo s r x mid new sound l e b g in
    (h.0 ∙ ap (λ ns. live_items (entries_at (slots_of s) r) ++ ns) (ap (todo (slots_of s)) f ∙ todo_append (slots_of s) old (Tell t ∷ [])), h.1)

-- what an item's slot has is told: it alone, or the regions that it holds and then itself, or the items in its place
pub bare_told : (s : Scene) (t : ℕ) (l : S.Leaf) (w : plain.What) (out : List ℕ) (left : List ℕ) → IsOrdered (slots_of s) → t < length s.slots.items → w ≡ (slot_at (slots_of s) t).what → w ≡ plain.bare l
    → (out ++ t ∷ []) ++ left ≡ out ++ (live_of (slots_of s) t ++ left)
bare_told s t l w out left sound a e f =
    let n = length-map s.slots.items slot_of in
    append_assoc out (t ∷ []) left ∙ ap (λ ns. out ++ (ns ++ left)) (sym (bare_live (slots_of s) sound t l (omega (arith, n, a)) (sym e ∙ f)))

pub held_told : (s : Scene) (t : ℕ) (k : S.Holder) (r : ℕ) (q : Option ℕ) (w : plain.What) (left : List ℕ) → IsOrdered (slots_of s) → t < length s.slots.items → w ≡ (slot_at (slots_of s) t).what → w ≡ plain.holds k r q
    → (S.only_if (S.second_lives k) (live_items (plain.second_of (entries_at (slots_of s)) q)) ++ live_items (entries_at (slots_of s) r)) ++ t ∷ left ≡ live_of (slots_of s) t ++ left
held_told s t k r q w left sound a e f =
    let n = length-map s.slots.items slot_of in
    let within : t < length (slots_of s).slots = omega (arith, n, a) in
    let is = sym e ∙ f in
    let fits = subst (λ w. WhatFits (slots_of s) (slot_at (slots_of s) t).home t w) is (sound.items t within).1 in
    let first = S.only_if (S.second_lives k) (live_items (plain.second_of (entries_at (slots_of s)) q)) in
    ap (λ ns. (first ++ ns) ++ t ∷ left) (region_live (slots_of s) sound r fits.0.1)
    ∙ (sym (append_assoc (first ++ live_in (slots_of s) (region_slot (slots_of s) r).roots) (t ∷ []) left)
    ∙ ap (λ ns. ns ++ left) (sym (holder_live (slots_of s) sound t k r q within is)))

pub held_within : (s : Scene) (t : ℕ) (k : S.Holder) (r : ℕ) (q : Option ℕ) (w : plain.What) → IsOrdered (slots_of s) → t < length s.slots.items → w ≡ (slot_at (slots_of s) t).what → w ≡ plain.holds k r q → r < length s.regions.items
held_within s t k r q w sound a e f =
    let n = length-map s.slots.items slot_of in
    let m = length-map s.regions.items region_slot_of in
    let fits = subst (λ w. WhatFits (slots_of s) (slot_at (slots_of s) t).home t w) (sym e ∙ f) (sound.items t (omega (arith, n, a))).1 in
    let l = fits.0.1 in
    omega (arith, m, l)

pub gone_told : (s : Scene) (t : ℕ) (by : List ℕ) (w : plain.What) (old new : List WalkTask) → IsOrdered (slots_of s) → t < length s.slots.items → w ≡ (slot_at (slots_of s) t).what → w ≡ plain.gone by → AreTasks (slots_of s) old → new ≡ old ++ visits by
    → (todo (slots_of s) new ≡ live_of (slots_of s) t ++ todo (slots_of s) old) × AreTasks (slots_of s) new
gone_told s t by w old new sound a e f o g =
    let n = length-map s.slots.items slot_of in
    let within : t < length (slots_of s).slots = omega (arith, n, a) in
    let is = sym e ∙ f in
    let fits = subst (λ w. WhatFits (slots_of s) (slot_at (slots_of s) t).home t w) is (sound.items t within).1 in (
      ap (todo (slots_of s)) g ∙ (todo_append (slots_of s) old (visits by) ∙ ap (λ ns. ns ++ todo (slots_of s) old) (todo_visits (slots_of s) by ∙ sym (gone_live (slots_of s) sound t by within is))),
      subst (AreTasks (slots_of s)) (sym g) (tasks_append (slots_of s) old (visits by) o (tasks_visits (slots_of s) (suc t) (slot_at (slots_of s) t).home by fits)),
    )

pub popped : (s : Scene) (x : WalkTask) (old new : List WalkTask) → old ≡ new ++ x ∷ [] → AreTasks (slots_of s) old → (todo (slots_of s) old ≡ told_by (slots_of s) x ++ todo (slots_of s) new) × IsTask (slots_of s) x × AreTasks (slots_of s) new
popped s x old new e a =
    let b = subst (AreTasks (slots_of s)) e a in
    (ap (todo (slots_of s)) e ∙ todo_append (slots_of s) new (x ∷ []), (tasks_back (slots_of s) new (x ∷ []) b).0, tasks_front (slots_of s) new (x ∷ []) b)

pub root_within : (s : Scene) → IsOrdered (slots_of s) → 0 < length s.regions.items
root_within s sound = let m = length-map s.regions.items region_slot_of in let r = sound.root in omega (arith, m, r)

range_within : (s : plain.Slots) (low home first count : ℕ) → plain.AreIn s low home (range_with_len first count) → 0 < count → first + count ≤ length s.slots
range_within s low home first zero a l = absurd (omega (arith, l))
range_within s low home first (suc zero) a l = let b = a.1 in omega (arith, b)
range_within s low home first (suc (suc n)) a l = let b = range_within s low home (first + 1) (suc n) a.3 (omega arith) in omega (arith, b)

pub gone_within : (s : Scene) (t first count : ℕ) (w : plain.What) → IsOrdered (slots_of s) → t < length s.slots.items → w ≡ (slot_at (slots_of s) t).what → w ≡ plain.gone (range_with_len first count) → 0 < count → first + count ≤ length s.slots.items
gone_within s t first count w sound a e f l =
    let n = length-map s.slots.items slot_of in
    let fits = subst (λ w. WhatFits (slots_of s) (slot_at (slots_of s) t).home t w) (sym e ∙ f) (sound.items t (omega (arith, n, a))).1 in
    let r = range_within (slots_of s) (suc t) (slot_at (slots_of s) t).home first count fits l in
    omega (arith, r, n)

-- So the numbers after the last one fit too.
pub gone_fits : (s : Scene) (t first count : ℕ) (w : plain.What) → IsOrdered (slots_of s) → t < length s.slots.items → w ≡ (slot_at (slots_of s) t).what → w ≡ plain.gone (range_with_len first count) → length s.slots.items < 2 ^ 63 → first < 2 ^ 64 → first + count < 2 ^ 64
gone_fits s t first count w sound a e f small fits = elim (cases_lt 0 count) [
  | inl l ↦ (let b = gone_within s t first count w sound a e f l in omega (arith, b, small))
  | inr l ↦ omega (arith, l, fits)
]
