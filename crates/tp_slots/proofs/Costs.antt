-- A walk comes to an end.
use Rattle.std.proofs.Common.{◌≡◌, ℕ, zero, suc, ◌+◌, ◌≤◌, ◌<◌, List, [], ◌∷◌, ◌++◌, length, Option, Some, None, refl, ap, ◌∙◌, subst, arith}
use Rattle.tp_scene.specs.Scene.{Holder}
use Rattle.tp_slots.specs.Plain.{What, bare, holds, gone, Slots, slot_at, region_slot, AreIn, SecondFits, WhatFits, IsOrdered}
use Rattle.tp_slots.specs.Walk.{visits}
use Rattle.tp_slots.specs.Cost.{sum_over, second_cost, what_cost, cost_in, region_cost, cost_of, cost_at, tasks_cost}
use Rattle.tp_slots.specs.declared.walk.WalkTask.{WalkTask}
use Rattle.tp_slots.specs.declared.walk.WalkTask.TheVariants.{Visit}

module _ (s : Slots) (sound : IsOrdered s) where
  sum_same : (each each' : ℕ → ℕ) (from home : ℕ) (ids : List ℕ) → AreIn s from home ids → ((w : ℕ) → from ≤ w → w < length s.slots → (slot_at s w).home ≡ home → each w ≡ each' w) → sum_over each ids ≡ sum_over each' ids
  sum_same each each' from home [] a h = refl
  sum_same each each' from home (w ∷ ws) a h = let x = h w a.0 a.1 a.2 in let y = sum_same each each' from home ws a.3 h in λ i. x i + y i

  second_same : (deeper deeper' : ℕ → ℕ) (home : ℕ) (k : Holder) (q : Option ℕ) → SecondFits s home k q → ((p : ℕ) → home < p → p < length s.regions → deeper p ≡ deeper' p) → second_cost deeper q ≡ second_cost deeper' q
  second_same deeper deeper' home k None f d = refl
  second_same deeper deeper' home k (Some q) f d = d q f.1.0 f.1.1

  what_same : (deeper deeper' each each' : ℕ → ℕ) (home u : ℕ) (w : What) → WhatFits s home u w → ((p : ℕ) → home < p → p < length s.regions → deeper p ≡ deeper' p)
      → ((x : ℕ) → suc u ≤ x → x < length s.slots → (slot_at s x).home ≡ home → each x ≡ each' x) → what_cost deeper each w ≡ what_cost deeper' each' w
  what_same deeper deeper' each each' home u (bare l) f d h = refl
  what_same deeper deeper' each each' home u (holds k r q) f d h = let x = d r f.0.0 f.0.1 in let y = second_same deeper deeper' home k q f.1 d in λ i. suc (x i + y i)
  what_same deeper deeper' each each' home u (gone by) f d h = sum_same each each' (suc u) home by f h

  item_same : (n n' r : ℕ) → ((p : ℕ) → r < p → p < length s.regions → region_cost s n p ≡ region_cost s n' p) → (m m' u : ℕ) → length s.slots ≤ m + u → length s.slots ≤ m' + u → u < length s.slots → (slot_at s u).home ≡ r
      → cost_in s (region_cost s n) m u ≡ cost_in s (region_cost s n') m' u
  item_same n n' r d zero m' u a b l e = absurd (omega (arith, a, l))
  item_same n n' r d (suc m) zero u a b l e = absurd (omega (arith, b, l))
  item_same n n' r d (suc m) (suc m') u a b l e =
      ap suc (what_same (region_cost s n) (region_cost s n') (cost_in s (region_cost s n) m) (cost_in s (region_cost s n') m') r u (slot_at s u).what (subst (λ h. WhatFits s h u (slot_at s u).what) e (sound.items u l).1) d
      (λ x c j k. item_same n n' r d m m' x (omega (arith, a, c)) (omega (arith, b, c)) j k))

  region_same : (n n' r : ℕ) → length s.regions ≤ n + r → length s.regions ≤ n' + r → r < length s.regions → region_cost s n r ≡ region_cost s n' r
  region_same zero n' r a b l = absurd (omega (arith, a, l))
  region_same (suc n) zero r a b l = absurd (omega (arith, b, l))
  region_same (suc n) (suc n') r a b l =
      sum_same (cost_in s (region_cost s n) (length s.slots)) (cost_in s (region_cost s n') (length s.slots)) 0 r (region_slot s r).roots (sound.regions r l)
      (λ w z j e. item_same n n' r (λ p c j. region_same n n' p (omega (arith, a, c)) (omega (arith, b, c)) j) (length s.slots) (length s.slots) w (omega arith) (omega arith) j e)

  pub item_cost : (t : ℕ) → t < length s.slots → cost_of s t ≡ suc (what_cost (cost_at s) (cost_of s) (slot_at s t).what)
  item_cost t l = by_length (length s.slots) refl
    where
      by_length : (n : ℕ) → length s.slots ≡ n → cost_of s t ≡ suc (what_cost (cost_at s) (cost_of s) (slot_at s t).what)
      by_length zero e = absurd (omega (arith, e, l))
      by_length (suc m) e =
          ap (λ n. cost_in s (region_cost s (length s.regions)) n t) e
          ∙ ap suc (what_same (cost_at s) (cost_at s) (cost_in s (region_cost s (length s.regions)) m) (cost_of s) (slot_at s t).home t (slot_at s t).what (sound.items t l).1 (λ p c j. refl)
          (λ x c j k. item_same (length s.regions) (length s.regions) (slot_at s x).home (λ p c j. refl) m (length s.slots) x (omega (arith, c, e)) (omega arith) j refl))

  pub roots_cost : (r : ℕ) → r < length s.regions → cost_at s r ≡ sum_over (cost_of s) (region_slot s r).roots
  roots_cost r l = by_length (length s.regions) refl
    where
      by_length : (n : ℕ) → length s.regions ≡ n → cost_at s r ≡ sum_over (cost_of s) (region_slot s r).roots
      by_length zero e = absurd (omega (arith, e, l))
      by_length (suc n) e =
          ap (λ m. region_cost s m r) e
          ∙ sum_same (cost_in s (region_cost s n) (length s.slots)) (cost_of s) 0 r (region_slot s r).roots (sound.regions r l)
          (λ w z j k. item_same n (length s.regions) r (λ p c i. region_same n (length s.regions) p (omega (arith, e, c)) (omega arith) i) (length s.slots) (length s.slots) w (omega arith) (omega arith) j k)

pub cost_append : (s : Slots) (xs ys : List WalkTask) → tasks_cost s (xs ++ ys) ≡ tasks_cost s xs + tasks_cost s ys
cost_append s [] ys = omega arith
cost_append s (x ∷ xs) ys = let q = cost_append s xs ys in omega (arith, q)

pub cost_visits : (s : Slots) (ids : List ℕ) → tasks_cost s (visits ids) ≡ sum_over (cost_of s) ids
cost_visits s [] = refl
cost_visits s (t ∷ ts) = let p = cost_append s (visits ts) (Visit t ∷ []) in let q = cost_visits s ts in omega (arith, p, q)
