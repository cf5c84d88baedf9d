-- What the walk tells.
use Rattle.std.proofs.Common.{◌≡◌, ℕ, zero, suc, ◌≤◌, ◌<◌, List, [], ◌∷◌, ◌++◌, length, Option, refl, ap, sym, ◌∙◌, subst, arith}
use Rattle.std.proofs.lemmas.List.{append_assoc, append-nil}
use Rattle.tp_scene.specs.Scene.{Leaf, Holder, Entries, none, leaf, node, append, only_if, second_lives}
use Rattle.tp_scene.specs.LiveItems.{live_items}
use Rattle.tp_slots.specs.Plain.{What, bare, holds, gone, Slots, slot_at, region_slot, second_of, in_order, of_what, item_entries, region_entries, entries_at, AreIn, WhatFits, IsOrdered}
use Rattle.tp_slots.specs.Walk.{item_front, live_of, live_in, told_by, todo, visits, AreTasks}
use Rattle.tp_slots.specs.declared.walk.WalkTask.{WalkTask}
use Rattle.tp_slots.specs.declared.walk.WalkTask.TheVariants.{Visit}
use Rattle.tp_slots.proofs.Same.{item_enough}

pub live_append : (xs ys : Entries) → live_items (append xs ys) ≡ live_items xs ++ live_items ys
live_append none ys = refl
live_append (leaf id l rest) ys = ap (λ ns. id ∷ ns) (live_append rest ys)
live_append (node id k h held g second rest) ys =
    let a = only_if (second_lives k) (live_items second) ++ live_items held in
    ap (λ ns. a ++ id ∷ ns) (live_append rest ys) ∙ sym (append_assoc a (id ∷ live_items rest) (live_items ys))

append_append : (xs ys zs : Entries) → append (append xs ys) zs ≡ append xs (append ys zs)
append_append none ys zs = refl
append_append (leaf id l rest) ys zs = ap (leaf id l) (append_append rest ys zs)
append_append (node id k h held g second rest) ys zs = ap (node id k h held g second) (append_append rest ys zs)

-- each item stands in front of the rest
in_order_front : (each : ℕ → Entries → Entries) (ids : List ℕ) (rest : Entries) → ((t : ℕ) (rest : Entries) → each t rest ≡ append (each t none) rest) → in_order each ids rest ≡ append (in_order each ids none) rest
in_order_front each [] rest h = refl
in_order_front each (t ∷ ts) rest h =
    ap (each t) (in_order_front each ts rest h) ∙ (h t (append (in_order each ts none) rest) ∙ (sym (append_append (each t none) (in_order each ts none) rest) ∙ ap (λ es. append es rest) (sym (h t (in_order each ts none)))))

what_front : (s : Slots) (deeper : ℕ → Entries) (each : ℕ → Entries → Entries) (t : ℕ) (w : What) (rest : Entries) → ((t : ℕ) (rest : Entries) → each t rest ≡ append (each t none) rest) → of_what s deeper each t w rest ≡ append (of_what s deeper each t w none) rest
what_front s deeper each t (bare l) rest h = refl
what_front s deeper each t (holds k r q) rest h = refl
what_front s deeper each t (gone by) rest h = in_order_front each by rest h

pub stands_in_front : (s : Slots) (deeper : ℕ → Entries) (m t : ℕ) (rest : Entries) → item_entries s deeper m t rest ≡ append (item_entries s deeper m t none) rest
stands_in_front s deeper zero t rest = refl
stands_in_front s deeper (suc m) t rest = what_front s deeper (item_entries s deeper m) t (slot_at s t).what rest (λ u rest. stands_in_front s deeper m u rest)

in_order_live : (s : Slots) (ids : List ℕ) → live_items (in_order (item_front s) ids none) ≡ live_in s ids
in_order_live s [] = refl
in_order_live s (t ∷ ts) =
    ap live_items (stands_in_front s (region_entries s (length s.regions)) (length s.slots) t (in_order (item_front s) ts none))
    ∙ (live_append (item_front s t none) (in_order (item_front s) ts none) ∙ ap (λ ns. live_of s t ++ ns) (in_order_live s ts))

in_order_same : (s : Slots) (from home : ℕ) (ids : List ℕ) (each each' : ℕ → Entries → Entries) (rest : Entries) → AreIn s from home ids
    → ((u : ℕ) → from ≤ u → u < length s.slots → (slot_at s u).home ≡ home → (rest : Entries) → each u rest ≡ each' u rest) → in_order each ids rest ≡ in_order each' ids rest
in_order_same s from home [] each each' rest a h = refl
in_order_same s from home (u ∷ us) each each' rest a h = ap (each u) (in_order_same s from home us each each' rest a.3 h) ∙ h u a.0 a.1 a.2 (in_order each' us rest)

module _ (s : Slots) (sound : IsOrdered s) where
  -- an item is what its slot has
  pub item_is : (t : ℕ) (rest : Entries) → t < length s.slots → item_front s t rest ≡ of_what s (entries_at s) (item_front s) t (slot_at s t).what rest
  item_is t rest l = by_length (length s.slots) refl
    where
      by_what : (m : ℕ) → length s.slots ≡ suc m → (w : What) → WhatFits s (slot_at s t).home t w
          → of_what s (region_entries s (length s.regions)) (item_entries s (region_entries s (length s.regions)) m) t w rest ≡ of_what s (entries_at s) (item_front s) t w rest
      by_what m e (bare l) f = refl
      by_what m e (holds k r q) f = refl
      by_what m e (gone by) f = in_order_same s (suc t) (slot_at s t).home by (item_entries s (region_entries s (length s.regions)) m) (item_front s) rest f
          (λ u a b c rest. item_enough s sound (length s.regions) (length s.regions) (length s.slots) m u b (omega arith) (omega arith) (omega arith) (omega (arith, a, e)) rest)

      by_length : (n : ℕ) → length s.slots ≡ n → item_front s t rest ≡ of_what s (entries_at s) (item_front s) t (slot_at s t).what rest
      by_length zero e = absurd (omega (arith, e, l))
      by_length (suc m) e = ap (λ n. item_entries s (region_entries s (length s.regions)) n t rest) e ∙ by_what m e (slot_at s t).what (sound.items t l).1

  pub entries_are : (r : ℕ) → r < length s.regions → entries_at s r ≡ in_order (item_front s) (region_slot s r).roots none
  entries_are r l = by_length (length s.regions) refl
    where
      by_length : (n : ℕ) → length s.regions ≡ n → entries_at s r ≡ in_order (item_front s) (region_slot s r).roots none
      by_length zero e = absurd (omega (arith, e, l))
      by_length (suc n) e =
          ap (λ m. region_entries s m r) e
          ∙ in_order_same s 0 r (region_slot s r).roots (item_entries s (region_entries s n) (length s.slots)) (item_front s) none (sound.regions r l)
          (λ u a b c rest. item_enough s sound (length s.regions) n (length s.slots) (length s.slots) u b (omega arith) (omega (arith, e)) (omega arith) (omega arith) rest)

  pub region_live : (r : ℕ) → r < length s.regions → live_items (entries_at s r) ≡ live_in s (region_slot s r).roots
  region_live r l = ap live_items (entries_are r l) ∙ in_order_live s (region_slot s r).roots

  pub bare_live : (t : ℕ) (l : Leaf) → t < length s.slots → (slot_at s t).what ≡ bare l → live_of s t ≡ t ∷ []
  bare_live t l a e = ap live_items (item_is t none a ∙ ap (λ w. of_what s (entries_at s) (item_front s) t w none) e)

  pub gone_live : (t : ℕ) (by : List ℕ) → t < length s.slots → (slot_at s t).what ≡ gone by → live_of s t ≡ live_in s by
  gone_live t by a e = ap live_items (item_is t none a ∙ ap (λ w. of_what s (entries_at s) (item_front s) t w none) e) ∙ in_order_live s by

  pub holder_live : (t : ℕ) (k : Holder) (r : ℕ) (q : Option ℕ) → t < length s.slots → (slot_at s t).what ≡ holds k r q
      → live_of s t ≡ (only_if (second_lives k) (live_items (second_of (entries_at s) q)) ++ live_in s (region_slot s r).roots) ++ t ∷ []
  holder_live t k r q a e =
      let f = subst (λ w. WhatFits s (slot_at s t).home t w) e (sound.items t a).1 in
      ap live_items (item_is t none a ∙ ap (λ w. of_what s (entries_at s) (item_front s) t w none) e)
      ∙ ap (λ ns. (only_if (second_lives k) (live_items (second_of (entries_at s) q)) ++ ns) ++ t ∷ []) (region_live r f.0.1)

pub todo_append : (s : Slots) (xs ys : List WalkTask) → todo s (xs ++ ys) ≡ todo s ys ++ todo s xs
todo_append s [] ys = sym (append-nil (todo s ys))
todo_append s (x ∷ xs) ys = ap (λ ns. ns ++ told_by s x) (todo_append s xs ys) ∙ append_assoc (todo s ys) (todo s xs) (told_by s x)

pub todo_visits : (s : Slots) (ids : List ℕ) → todo s (visits ids) ≡ live_in s ids
todo_visits s [] = refl
todo_visits s (t ∷ ts) = todo_append s (visits ts) (Visit t ∷ []) ∙ ap (λ ns. live_of s t ++ ns) (todo_visits s ts)

pub tasks_append : (s : Slots) (xs ys : List WalkTask) → AreTasks s xs → AreTasks s ys → AreTasks s (xs ++ ys)
tasks_append s [] ys a b = b
tasks_append s (x ∷ xs) ys a b = (a.0, tasks_append s xs ys a.1 b)

pub tasks_visits : (s : Slots) (from home : ℕ) (ids : List ℕ) → AreIn s from home ids → AreTasks s (visits ids)
tasks_visits s from home [] a = tt
tasks_visits s from home (t ∷ ts) a = tasks_append s (visits ts) (Visit t ∷ []) (tasks_visits s from home ts a.3) (a.1, tt)

pub tasks_front : (s : Slots) (xs ys : List WalkTask) → AreTasks s (xs ++ ys) → AreTasks s xs
tasks_front s [] ys a = tt
tasks_front s (x ∷ xs) ys a = (a.0, tasks_front s xs ys a.1)

pub tasks_back : (s : Slots) (xs ys : List WalkTask) → AreTasks s (xs ++ ys) → AreTasks s ys
tasks_back s [] ys a = a
tasks_back s (x ∷ xs) ys a = tasks_back s xs ys a.1
