-- The place of an item is that of its region, seen outward.
use Rattle.std.proofs.Common.{◌≡◌, ℕ, zero, suc, ◌≤◌, ◌<◌, ◌&&◌, true, false, eqb, List, length, Option, Some, None, refl, ap, sym, ◌∙◌, subst, arith, inl, inr}
use Rattle.std.proofs.lemmas.Bool.{cases_Bool, eqb-true, eq-eqb, ne_eqb, both_ways}
use Rattle.tp_value.specs.declared.path.Fact.{Fact}
use Rattle.tp_scene.specs.Scene.{Head, Holder, Entries, none, leaf, node, has, second_lives, root_place, held_place, second_place}
use Rattle.tp_scene.specs.Step.{Numbers}
use Rattle.tp_scene.specs.Pick.{Setting, pick}
use Rattle.tp_slots.specs.Plain.{What, bare, holds, gone, Slot, SecondFits, Slots, slot_at, head_at, other_head, second_of, entries_at, scene_in, WhatFits, IsOrdered}
use Rattle.tp_slots.specs.Shown.{AreShown}
use Rattle.tp_slots.specs.Picked.{item_place, what_step}
use Rattle.tp_slots.specs.Places.{holder_at, held_in, place_up, place_outward, HeldBy, HoldsByNumber, AreHeld}
use Rattle.tp_slots.proofs.PutEdits.{both_so}
use Rattle.tp_slots.proofs.Showing.{all_shown}
use Rattle.tp_slots.proofs.Picking.{pick_shown}

pub no_zero : (r : ℕ) → 0 < r → eqb r 0 ≡ false
no_zero r a = ne_eqb r 0 (λ e. omega (arith, a, e))

module _ (s : Slots) (hs : List ℕ) (sound : IsOrdered s) (known : AreHeld s hs) where
  below : (w : What) (home h r : ℕ) → WhatFits s home h w → HoldsByNumber w r → home < r
  below (bare l) home h r a b = absurd b
  below (holds k p o) home h r a b = elim b [
    | inl e ↦ (let c = a.0.0 in omega (arith, c, e))
    | inr e ↦ second o a.1 e
  ]
    where
      second : (o : Option ℕ) → SecondFits s home k o → o ≡ Some r → home < r
      second None a e = absurd (cc)
      second (Some x) a e = let c = a.1.0 in let f : x ≡ r = same x e in omega (arith, c, f)
        where
          same : (x : ℕ) → Some x ≡ Some r → x ≡ r
          same x e = cc
  below (gone by) home h r a b = absurd b

  -- the region around has a smaller number
  pub outer_less : (r : ℕ) → 0 < r → r < length s.regions → (slot_at s (holder_at hs r)).home < r
  outer_less r a l = let h = known.holders r a l in below (slot_at s (holder_at hs r)).what (slot_at s (holder_at hs r)).home (holder_at hs r) r (sound.items (holder_at hs r) h.0).1 h.1

  -- What is read from the root on to a region, by what holds each: as far as so many regions, which come to the root.
  module _ {A : Type 0} (up : ℕ → ℕ → A) (root : A) (step : ℕ → A → A) (begins : (n : ℕ) → up n 0 ≡ root) (goes_on : (n r : ℕ) → 0 < r → up (suc n) r ≡ step r (up n (slot_at s (holder_at hs r)).home)) where
    enough : (n m r : ℕ) → r ≤ n → r ≤ m → r < length s.regions → up n r ≡ up m r
    enough n m zero a b l = begins n ∙ sym (begins m)
    enough zero m (suc r) a b l = absurd (omega (arith, a))
    enough (suc n) zero (suc r) a b l = absurd (omega (arith, b))
    enough (suc n) (suc m) (suc r) a b l =
        let above : 0 < suc r = omega arith in
        let h = outer_less (suc r) above l in
        goes_on n (suc r) above
        ∙ (ap (step (suc r)) (enough n m (slot_at s (holder_at hs (suc r))).home (omega (arith, h, a)) (omega (arith, h, b)) (omega (arith, h, l)))
        ∙ sym (goes_on m (suc r) above))

    pub one_outward : (r : ℕ) → 0 < r → r < length s.regions → up r r ≡ step r (up (slot_at s (holder_at hs r)).home (slot_at s (holder_at hs r)).home)
    one_outward zero a l = absurd (omega (arith, a))
    one_outward (suc n) a l =
        let h = outer_less (suc n) a l in
        goes_on n (suc n) a ∙ ap (step (suc n)) (enough n (slot_at s (holder_at hs (suc n))).home (slot_at s (holder_at hs (suc n))).home (omega (arith, h)) (omega arith) (omega (arith, h, l)))

  place_begins : (n : ℕ) → place_up s hs n 0 ≡ root_place (scene_in s).root
  place_begins zero = refl
  place_begins (suc n) = refl

  pub outward : (r : ℕ) → 0 < r → r < length s.regions → place_outward s hs r ≡ held_in s r (slot_at s (holder_at hs r)).what (place_outward s hs (slot_at s (holder_at hs r)).home)
  outward =
      one_outward (place_up s hs) (root_place (scene_in s).root) (λ r. held_in s r (slot_at s (holder_at hs r)).what) place_begins
      (λ n r a. let z = no_zero r a in rw z refl)

  -- the place of a region that is held, and of a second one
  pub held_is : (id r q : ℕ) (k : Holder) (o : Option ℕ) → id < length s.slots → slot_at s id ≡ record { home = r; what = holds k q o } → place_outward s hs q ≡ held_place k (head_at s q) (entries_at s q) (place_outward s hs r)
  held_is id r q k o l e =
      let f = subst (λ (x : Slot). WhatFits s x.home id x.what) e (sound.items id l).1 in
      let h = subst (λ (x : Slot). HeldBy hs id x.what) e (known.by id l) in
      let above = f.0.0 in
      let same = eq-eqb q q refl in
      outward q (omega (arith, above)) f.0.1
      ∙ (ap (λ i. held_in s q (slot_at s i).what (place_outward s hs (slot_at s i).home)) h.0
      ∙ (ap (λ (x : Slot). held_in s q x.what (place_outward s hs x.home)) e ∙ rw same refl))

  pub second_is : (id r q p : ℕ) (k : Holder) → id < length s.slots → slot_at s id ≡ record { home = r; what = holds k q (Some p) } → (p < length s.regions) × (place_outward s hs p ≡ second_place (head_at s p) (entries_at s p) (place_outward s hs r))
  second_is id r q p k l e =
      let f = subst (λ (x : Slot). WhatFits s x.home id x.what) e (sound.items id l).1 in
      let h = subst (λ (x : Slot). HeldBy hs id x.what) e (known.by id l) in
      let above = f.1.1.0 in
      let other = h.1.1 in (
        f.1.1.1,
        outward p (omega (arith, above)) f.1.1.1
            ∙ (ap (λ i. held_in s p (slot_at s i).what (place_outward s hs (slot_at s i).home)) h.1.0
            ∙ (ap (λ (x : Slot). held_in s p x.what (place_outward s hs x.home)) e ∙ rw other refl)),
      )

  pub second_place_is : (t id r q : ℕ) (k : Holder) (o : Option ℕ) (g : Head) (second : Entries) → id < length s.slots → slot_at s id ≡ record { home = r; what = holds k q o } → g ≡ other_head s o → second ≡ second_of (entries_at s) o → has t second ≡ true
      → (g.number < length s.regions) × (second_place g second (place_outward s hs r) ≡ place_outward s hs g.number)
  second_place_is t id r q k None g second l e a b h = absurd (both_ways (has t second) (ap (has t) b) h)
  second_place_is t id r q k (Some p) g second l e a b h =
      let x = second_is id r q p k l e in
      let n : g.number ≡ p = ap (λ (y : Head). y.number) a in
      (subst (λ i. i < length s.regions) (sym n) x.0, (λ i. second_place (a i) (b i) (place_outward s hs r)) ∙ (sym x.1 ∙ ap (place_outward s hs) (sym n)))

  pub place_shown : (t r : ℕ) (es : Entries) → AreShown s r es → has t es ≡ true → item_place t (place_outward s hs r) es ≡ place_outward s hs (slot_at s t).home
  place_shown t r none a h = absurd (both_ways false refl h)
  place_shown t r (leaf id l rest) a h = elim (cases_Bool (eqb id t)) [
    | inl e ↦ rw e (ap (λ (x : Slot). place_outward s hs x.home) (sym a.1) ∙ ap (λ n. place_outward s hs (slot_at s n).home) (eqb-true id t e))
    | inr e ↦ rw e (place_shown t r rest a.2 (rw e at h))
  ]
  place_shown t r (node id k h held g second rest) a y = elim (cases_Bool (eqb id t)) [
    | inl e ↦ rw e (ap (λ (x : Slot). place_outward s hs x.home) (sym a.2) ∙ ap (λ n. place_outward s hs (slot_at s n).home) (eqb-true id t e))
    | inr e ↦ elim (cases_Bool (second_lives k && has t second)) [
      | inl b ↦ (let c = (both_so (second_lives k) (has t second) b).1 in
          let p = second_place_is t id r h.number k a.1 g second a.0 a.2 a.5 a.6 c in
          rw (e, b) (ap (λ x. item_place t x second) p.1 ∙ place_shown t g.number second a.8 c))
      | inr b ↦ elim (cases_Bool (has t held)) [
        | inl d ↦ (let x = a.3 in
            let z = a.4 in
            let p : held_place k h held (place_outward s hs r) ≡ place_outward s hs h.number = (λ i. held_place k (x i) (z i) (place_outward s hs r)) ∙ sym (held_is id r h.number k a.1 a.0 a.2) in
            rw (e, b, d) (ap (λ x. item_place t x held) p ∙ place_shown t h.number held a.7 d))
        | inr d ↦ rw (e, b, d) (place_shown t r rest a.9 (rw (e, b, d) at y))
      ]
    ]
  ]

  -- What comes of picking a live item is what its slot says, at the place of its region.
  pub pick_is : (w : Setting) (facts : List Fact) (t : ℕ) (n : Numbers) → has t (entries_at s 0) ≡ true
      → pick w facts t (entries_at s 0) (root_place (scene_in s).root) n ≡ what_step w facts s (slot_at s t).what (place_outward s hs (slot_at s t).home) n
  pick_is w facts t n h =
      pick_shown w facts s n t 0 (entries_at s 0) (root_place (scene_in s).root) (all_shown s sound 0 sound.root) h
      ∙ ap (λ p. what_step w facts s (slot_at s t).what p n) (place_shown t 0 (entries_at s 0) (all_shown s sound 0 sound.root) h)
