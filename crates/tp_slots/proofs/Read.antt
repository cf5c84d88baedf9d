-- What slots stand for after a replacement.
use Rattle.std.proofs.Common.{◌≡◌, ℕ, zero, suc, ◌+◌, ◌≤◌, ◌<◌, cond, List, [], ◌∷◌, length, Option, Some, None, refl, ap, sym, ◌∙◌, subst, arith}
use Rattle.tp_scene.specs.Scene.{Side, Holder, Entries, none, node, append}
use Rattle.tp_scene.specs.Pick.{mark_head}
use Rattle.tp_slots.specs.Plain.{What, bare, holds, gone, Slot, Slots, slot_at, region_slot, other_head, second_of, in_order, of_what, item_entries, region_entries, IsLive, has_second, AreIn, SecondFits, WhatFits, IsOrdered}
use Rattle.tp_slots.specs.Edit.{edited_entries, Follows}

pub by_option : {A : Type 0} (X : Type 0) (o : Option A) → ((e : A) → o ≡ Some e → X) → (o ≡ None → X) → X
by_option X (Some e) f g = f e refl
by_option X None f g = g refl

module _ (s s' : Slots) (places : ℕ → Option Entries) (marks : ℕ → Option Side) (from : ℕ) (sound : IsOrdered s) (f : Follows from s s' places marks) where
  live_edited : (deeper : ℕ → Entries) (each : ℕ → Entries → Entries) (u : ℕ) (e : Entries) (w : What) (rest : Entries) → IsLive w → places u ≡ Some e → edited_entries places marks (of_what s deeper each u w rest) ≡ append e (edited_entries places marks rest)
  live_edited deeper each u e (bare l) rest i p = rw p refl
  live_edited deeper each u e (holds k r q) rest i p = rw p refl
  live_edited deeper each u e (gone by) rest i p = absurd i

  in_order_edited : (each each' : ℕ → Entries → Entries) (from home : ℕ) (ids : List ℕ) (rest : Entries) → AreIn s from home ids → ((w : ℕ) → from ≤ w → w < length s.slots → (slot_at s w).home ≡ home → (rest : Entries) → each' w (edited_entries places marks rest) ≡ edited_entries places marks (each w rest)) →
      in_order each' ids (edited_entries places marks rest) ≡ edited_entries places marks (in_order each ids rest)
  in_order_edited each each' from home [] rest a h = refl
  in_order_edited each each' from home (w ∷ ws) rest a h = ap (each' w) (in_order_edited each each' from home ws rest a.3 h) ∙ h w a.0 a.1 a.2 (in_order each ws rest)

  second_head_edited : (home : ℕ) (k : Holder) (q : Option ℕ) → from ≤ home → SecondFits s home k q → other_head s' q ≡ cond (has_second k) (mark_head (marks (other_head s q).number) (other_head s q)) (other_head s q)
  second_head_edited home k None o a = rw a refl
  second_head_edited home k (Some q) o a = let e = a.0 in let c = a.1.0 in rw e (f.heads q a.1.1 (omega (arith, o, c)))

  second_edited : (deeper deeper' : ℕ → Entries) (home : ℕ) (k : Holder) (q : Option ℕ) → SecondFits s home k q → ((p : ℕ) → home < p → p < length s.regions → deeper' p ≡ edited_entries places marks (deeper p)) → second_of deeper' q ≡ edited_entries places marks (second_of deeper q)
  second_edited deeper deeper' home k None a h = refl
  second_edited deeper deeper' home k (Some q) a h = h q a.1.0 a.1.1

  what_edited : (deeper deeper' : ℕ → Entries) (each each' : ℕ → Entries → Entries) (home u : ℕ) (w : What) (rest : Entries) → from ≤ home → WhatFits s home u w → places u ≡ None
      → ((p : ℕ) → home < p → p < length s.regions → deeper' p ≡ edited_entries places marks (deeper p))
      → ((x : ℕ) → suc u ≤ x → x < length s.slots → (slot_at s x).home ≡ home → (rest : Entries) → each' x (edited_entries places marks rest) ≡ edited_entries places marks (each x rest))
      → of_what s' deeper' each' u w (edited_entries places marks rest) ≡ edited_entries places marks (of_what s deeper each u w rest)
  what_edited deeper deeper' each each' home u (bare l) rest o a p d h = rw p refl
  what_edited deeper deeper' each each' home u (holds k r q) rest o a p d h =
      let c = a.0.0 in
      let x = f.heads r a.0.1 (omega (arith, o, c)) in
      let y = d r a.0.0 a.0.1 in
      let g = second_head_edited home k q o a.1 in
      let z = second_edited deeper deeper' home k q a.1 d in
      rw p (λ i. node u k (x i) (y i) (g i) (z i) (edited_entries places marks rest))
  what_edited deeper deeper' each each' home u (gone by) rest o a p d h = in_order_edited each each' (suc u) home by rest a h

  pub item_edited : (n n' r : ℕ) → from ≤ r → length s'.regions ≤ n' + suc r → ((p : ℕ) → r < p → p < length s.regions → region_entries s' n' p ≡ edited_entries places marks (region_entries s n p))
      → (m m' u : ℕ) → length s.slots ≤ m + u → length s'.slots ≤ m' + u → u < length s.slots → (slot_at s u).home ≡ r → (rest : Entries)
      → item_entries s' (region_entries s' n') m' u (edited_entries places marks rest) ≡ edited_entries places marks (item_entries s (region_entries s n) m u rest)
  item_edited n n' r o y d zero m' u a b l e rest = absurd (omega (arith, a, l))
  item_edited n n' r o y d (suc m) zero u a b l e rest = absurd (let i = f.items in omega (arith, b, l, i))
  item_edited n n' r o y d (suc m) (suc m') u a b l e rest =
      by_option (item_entries s' (region_entries s' n') (suc m') u (edited_entries places marks rest) ≡ edited_entries places marks (item_entries s (region_entries s n) (suc m) u rest)) (places u)
      (λ x p. f.news u x l (subst (λ h. from ≤ h) (sym e) o) p n' (suc m') (subst (λ h. length s'.regions ≤ n' + suc h) (sym e) y) b (edited_entries places marks rest)
      ∙ sym (live_edited (region_entries s n) (item_entries s (region_entries s n) m) u x (slot_at s u).what rest (f.lived u x l p) p))
      (λ p. ap (λ (c : Slot). of_what s' (region_entries s' n') (item_entries s' (region_entries s' n') m') u c.what (edited_entries places marks rest)) (f.kept u l (subst (λ h. from ≤ h) (sym e) o) p)
      ∙ what_edited (region_entries s n) (region_entries s' n') (item_entries s (region_entries s n) m) (item_entries s' (region_entries s' n') m') r u (slot_at s u).what rest o
      (subst (λ h. WhatFits s h u (slot_at s u).what) e (sound.items u l).1) p d
      (λ x c j k rest. item_edited n n' r o y d m m' x (omega (arith, a, c)) (omega (arith, b, c)) j k rest))

  pub region_edited : (n n' r : ℕ) → from ≤ r → length s.regions ≤ n + r → length s'.regions ≤ n' + r → r < length s.regions → region_entries s' n' r ≡ edited_entries places marks (region_entries s n r)
  region_edited zero n' r o a b l = absurd (omega (arith, a, l))
  region_edited (suc n) zero r o a b l = absurd (let i = f.regions in omega (arith, b, l, i))
  region_edited (suc n) (suc n') r o a b l =
      let deep : (p : ℕ) → r < p → p < length s.regions → region_entries s' n' p ≡ edited_entries places marks (region_entries s n p) = λ p c j. region_edited n n' p (omega (arith, o, c)) (omega (arith, a, c)) (omega (arith, b, c)) j in
      let one = in_order_edited (item_entries s (region_entries s n) (length s.slots)) (item_entries s' (region_entries s' n') (length s'.slots)) 0 r (region_slot s r).roots none (sound.regions r l)
      (λ w z j e rest. item_edited n n' r o (omega (arith, b)) deep (length s.slots) (length s'.slots) w (omega arith) (omega arith) j e rest) in
      ap (λ ids. in_order (item_entries s' (region_entries s' n') (length s'.slots)) ids none) (f.roots r l o) ∙ one
