-- The entries that slots stand for say of each item what its slot has.
use Rattle.std.proofs.Common.{◌≡◌, ℕ, zero, suc, ◌+◌, ◌≤◌, ◌<◌, ◌&&◌, true, false, eqb, List, [], ◌∷◌, length, Option, Some, None, refl, ap, sym, subst, arith, inl, inr}
use Rattle.std.proofs.lemmas.Bool.{cases_Bool, eqb-true, both_ways}
use Rattle.tp_scene.specs.Scene.{Holder, Entries, none, leaf, node, has, second_lives}
use Rattle.tp_slots.specs.Plain.{What, bare, holds, gone, Slot, Slots, slot_at, region_slot, other_head, second_of, in_order, of_what, item_entries, region_entries, entries_at, AreIn, SecondFits, WhatFits, IsOrdered, IsLive}
use Rattle.tp_slots.specs.Edit.{stands_in}
use Rattle.tp_slots.specs.Shown.{AreShown}
use Rattle.tp_slots.proofs.Same.{region_enough}
use Rattle.tp_slots.proofs.PutEdits.{both_so}

module _ (s : Slots) (sound : IsOrdered s) where
  second_shown : (r : ℕ) (deeper : ℕ → Entries) (k : Holder) (q : Option ℕ) → SecondFits s r k q → ((p : ℕ) → r < p → p < length s.regions → (deeper p ≡ entries_at s p) × AreShown s p (deeper p))
      → (second_of deeper q ≡ second_of (entries_at s) q) × AreShown s (other_head s q).number (second_of deeper q)
  second_shown r deeper k None f d = (refl, tt)
  second_shown r deeper k (Some q) f d = d q f.1.0 f.1.1

  in_order_shown : (each : ℕ → Entries → Entries) (from r : ℕ) (ids : List ℕ) (rest : Entries) → AreIn s from r ids
      → ((w : ℕ) → from ≤ w → w < length s.slots → (slot_at s w).home ≡ r → (rest : Entries) → AreShown s r rest → AreShown s r (each w rest))
      → AreShown s r rest → AreShown s r (in_order each ids rest)
  in_order_shown each from r [] rest a h y = y
  in_order_shown each from r (w ∷ ws) rest a h y = h w a.0 a.1 a.2 (in_order each ws rest) (in_order_shown each from r ws rest a.3 h y)

  what_shown : (deeper : ℕ → Entries) (each : ℕ → Entries → Entries) (r u : ℕ) (w : What) (rest : Entries) → u < length s.slots → slot_at s u ≡ record { home = r; what = w } → WhatFits s r u w
      → ((p : ℕ) → r < p → p < length s.regions → (deeper p ≡ entries_at s p) × AreShown s p (deeper p))
      → ((x : ℕ) → suc u ≤ x → x < length s.slots → (slot_at s x).home ≡ r → (rest : Entries) → AreShown s r rest → AreShown s r (each x rest))
      → AreShown s r rest → AreShown s r (of_what s deeper each u w rest)
  what_shown deeper each r u (bare l) rest i e f d h y = (i, e, y)
  what_shown deeper each r u (holds k p q) rest i e f d h y =
      let a = d p f.0.0 f.0.1 in
      let b = second_shown r deeper k q f.1 d in
      (i, q, e, refl, a.0, refl, b.0, a.1, b.1, y)
  what_shown deeper each r u (gone by) rest i e f d h y = in_order_shown each (suc u) r by rest f h y

  item_shown : (deeper : ℕ → Entries) (r : ℕ) → ((p : ℕ) → r < p → p < length s.regions → (deeper p ≡ entries_at s p) × AreShown s p (deeper p))
      → (m u : ℕ) → u < length s.slots → (slot_at s u).home ≡ r → (rest : Entries) → AreShown s r rest → AreShown s r (item_entries s deeper m u rest)
  item_shown deeper r d zero u l e rest y = y
  item_shown deeper r d (suc m) u l e rest y =
      what_shown deeper (item_entries s deeper m) r u (slot_at s u).what rest l (λ i. record { home = e i; what = (slot_at s u).what })
      (subst (λ h. WhatFits s h u (slot_at s u).what) e (sound.items u l).1) d
      (λ x c j k rest y. item_shown deeper r d m x j k rest y) y

  region_shown : (n r : ℕ) → length s.regions ≤ n + r → r < length s.regions → AreShown s r (region_entries s n r)
  region_shown zero r a l = absurd (omega (arith, a, l))
  region_shown (suc n) r a l =
      in_order_shown (item_entries s (region_entries s n) (length s.slots)) 0 r (region_slot s r).roots none (sound.regions r l)
      (λ w z j e rest y. item_shown (region_entries s n) r
      (λ p c b. (region_enough s sound (length s.regions) n p (omega arith) (omega (arith, a, c)) b, region_shown n p (omega (arith, a, c)) b))
      (length s.slots) w j e rest y) tt

  pub all_shown : (r : ℕ) → r < length s.regions → AreShown s r (entries_at s r)
  all_shown r l = region_shown (length s.regions) r (omega arith) l

  -- a live item stands where its slot says, and is live there
  pub has_shown : (t r : ℕ) (es : Entries) → AreShown s r es → has t es ≡ true → (t < length s.slots) × (stands_in t r es ≡ (slot_at s t).home) × IsLive (slot_at s t).what
  has_shown t r none a h = absurd (both_ways false refl h)
  has_shown t r (leaf id l rest) a h = elim (cases_Bool (eqb id t)) [
    | inl e ↦ (let o = eqb-true id t e in
        let c : slot_at s t ≡ record { home = r; what = bare l } = subst (λ x. slot_at s x ≡ record { home = r; what = bare l }) o a.1 in
        (subst (λ x. x < length s.slots) o a.0, rw e (sym (ap (λ (x : Slot). x.home) c)), subst (λ (x : Slot). IsLive x.what) (sym c) tt))
    | inr e ↦ (let q = has_shown t r rest a.2 (rw e at h) in (q.0, rw e q.1, q.2))
  ]
  has_shown t r (node id k h held g second rest) a y = elim (cases_Bool (eqb id t)) [
    | inl e ↦ (let o = eqb-true id t e in
        let c : slot_at s t ≡ record { home = r; what = holds k h.number a.1 } = subst (λ x. slot_at s x ≡ record { home = r; what = holds k h.number a.1 }) o a.2 in
        (subst (λ x. x < length s.slots) o a.0, rw e (sym (ap (λ (x : Slot). x.home) c)), subst (λ (x : Slot). IsLive x.what) (sym c) tt))
    | inr e ↦ elim (cases_Bool (second_lives k && has t second)) [
      | inl b ↦ (let q = has_shown t g.number second a.8 (both_so (second_lives k) (has t second) b).1 in (q.0, rw (e, b) q.1, q.2))
      | inr b ↦ elim (cases_Bool (has t held)) [
        | inl d ↦ (let q = has_shown t h.number held a.7 d in (q.0, rw (e, b, d) q.1, q.2))
        | inr d ↦ (let q = has_shown t r rest a.9 (rw (e, b, d) at y) in (q.0, rw (e, b, d) q.1, q.2))
      ]
    ]
  ]
