-- A region is found in the scene where it is live, and there it has its place.
use Rattle.std.proofs.Common.{◌≡◌, ℕ, zero, suc, ◌<◌, ◌&&◌, Bool, true, false, eqb, List, length, Option, Some, None, refl, ap, sym, ◌∙◌, subst, arith, inl, inr}
use Rattle.std.specs.Prelude.{◌⊎◌, if◌then◌else◌}
use Rattle.std.proofs.lemmas.Bool.{cases_Bool, eqb-true, eq-eqb, ne_eqb, both_ways, or_cases, or_right, and_parts, and_from, false≢true}
use Rattle.tp_scene.specs.Scene.{Holder, Head, Entries, none, leaf, node, has, second_lives, Place, held_place, second_place}
use Rattle.tp_slots.specs.Plain.{holds, Slot, Slots, slot_at, other_head, entries_at, scene_in, has_second, WhatFits, IsOrdered}
use Rattle.tp_slots.specs.Shown.{AreShown}
use Rattle.tp_slots.specs.Places.{holder_at, place_outward, HeldBy, AreHeld}
use Rattle.tp_slots.specs.Lives.{is_second, leads_to, lives_in, HasOwn}
use Rattle.tp_slots.specs.Status.{either_place, place_found, place_in_scene}
use Rattle.tp_slots.proofs.PutEdits.{both_so, second_has}
use Rattle.tp_slots.proofs.Showing.{all_shown}
use Rattle.tp_slots.proofs.PlaceLemmas.{held_is}
use Rattle.tp_slots.proofs.Living.{led, first_lives, leads_live, live_has, lives_outward}
use Rattle.tp_slots.proofs.Settling.{second_unsettled}

either_cases : (a b : Option Place) (p : Place) → either_place a b ≡ Some p → (a ≡ Some p) ⊎ (b ≡ Some p)
either_cases (Some q) b p e = inl e
either_cases None b p e = inr e

no_some : {A : Type 0} {x : A} → None ≡ Some x → ⊥
no_some e = cc

same_some : {A : Type 0} (x y : A) → Some x ≡ Some y → x ≡ y
same_some x y e = cc

-- where something is found
abbrev IsFound : Option Place → Type 0
IsFound None = ⊥
IsFound (Some p) = Unit {0}

found_left : (a b : Option Place) → IsFound a → IsFound (either_place a b)
found_left (Some p) b f = tt
found_left None b f = absurd f

found_right : (a b : Option Place) → IsFound b → IsFound (either_place a b)
found_right (Some p) b f = tt
found_right None b f = f

module _ (s : Slots) (hs : List ℕ) (sound : IsOrdered s) (known : AreHeld s hs) where
  second_live : (id q : ℕ) (k : Holder) (h : ℕ) (o : Option ℕ) (g : Head) → id < length s.slots → slot_at s id ≡ record { home = q; what = holds k h o } → g ≡ other_head s o → second_lives k ≡ true
      → (g.number < length s.regions) × (lives_in s hs q ≡ true → lives_in s hs g.number ≡ true)
  second_live id q k h None g l e a u = absurd (both_ways (has_second k) (subst (λ (x : Slot). WhatFits s x.home id x.what) e (sound.items id l).1).1 (second_has k u))
  second_live id q k h (Some p) g l e a u =
      let f = subst (λ (x : Slot). WhatFits s x.home id x.what) e (sound.items id l).1 in
      let d = subst (λ (x : Slot). HeldBy hs id x.what) e (known.by id l) in
      let above = f.1.1.0 in
      let n : p ≡ g.number = ap (λ (x : Head). x.number) (sym a) in
      subst (λ i. (i < length s.regions) × (lives_in s hs q ≡ true → lives_in s hs i ≡ true)) n
      (f.1.1.1, λ v. led s hs sound known id q p (holds k h (Some p)) l e d.1.0 (omega (arith, above)) f.1.1.1 (or_right (eqb h p) _ (and_from (second_lives k) (eqb p p) u (eq-eqb p p refl))) v)

  abbrev Right : ℕ → ℕ → Place → Type 0
  Right r q p = (p ≡ place_outward s hs r) × (r < length s.regions) × (lives_in s hs q ≡ true → lives_in s hs r ≡ true)

  right_found : (r q : ℕ) (es : Entries) (p : Place) → AreShown s q es → place_found r es (place_outward s hs q) ≡ Some p → Right r q p
  right_found r q none p a e = absurd (no_some e)
  right_found r q (leaf id l rest) p a e = right_found r q rest p a.2 e
  right_found r q (node id k h held g second rest) p a e =
      let at = held_is s hs sound known id q h.number k a.1 a.0 a.2 in
      let x = a.3 in
      let y = a.4 in
      let place : held_place k h held (place_outward s hs q) ≡ place_outward s hs h.number = (λ i. held_place k (x i) (y i) (place_outward s hs q)) ∙ sym at in
      let fit = subst (λ (x : Slot). WhatFits s x.home id x.what) a.2 (sound.items id a.0).1 in
      let first = first_lives s hs sound known id q h.number k a.1 a.0 a.2 in
      let there = place_outward s hs q in
      let one : Option Place = if eqb h.number r then Some (held_place k h held there) else place_found r held (held_place k h held there) in
      let two : Option Place = if second_lives k then (if eqb g.number r then Some (second_place g second there) else place_found r second (second_place g second there)) else None in
      let three : Option Place = place_found r rest there in
      elim (either_cases one (either_place two three) p e) [
        | inl u ↦ elim (cases_Bool (eqb h.number r)) [
          | inl c ↦ (let n = eqb-true h.number r c in
              let w : Some (held_place k h held (place_outward s hs q)) ≡ Some p = rw c at u in
              (sym (same_some (held_place k h held (place_outward s hs q)) p w) ∙ (place ∙ ap (place_outward s hs) n), subst (λ i. i < length s.regions) n fit.0.1, λ v. ap (lives_in s hs) (sym n) ∙ first v))
          | inr c ↦ (let w : place_found r held (held_place k h held (place_outward s hs q)) ≡ Some p = rw c at u in
              let i = right_found r h.number held p a.7 (ap (place_found r held) (sym place) ∙ w) in
              (i.0, i.1, λ v. i.2 (first v)))
        ]
        | inr u ↦ elim (either_cases two three p u) [
          | inl v ↦ elim (cases_Bool (second_lives k)) [
            | inl b ↦ (let place2 = second_unsettled s hs sound known id q k h.number a.1 g second a.0 a.2 a.5 a.6 b in
                let l2 = second_live id q k h.number a.1 g a.0 a.2 a.5 b in
                let w : (if eqb g.number r then Some (second_place g second (place_outward s hs q)) else place_found r second (second_place g second (place_outward s hs q))) ≡ Some p = rw b at v in
                elim (cases_Bool (eqb g.number r)) [
                  | inl c ↦ (let n = eqb-true g.number r c in
                      let z : Some (second_place g second (place_outward s hs q)) ≡ Some p = rw c at w in
                      (sym (same_some (second_place g second (place_outward s hs q)) p z) ∙ (place2 ∙ ap (place_outward s hs) n), subst (λ i. i < length s.regions) n l2.0, λ v. ap (lives_in s hs) (sym n) ∙ l2.1 v))
                  | inr c ↦ (let z : place_found r second (second_place g second (place_outward s hs q)) ≡ Some p = rw c at w in
                      let i = right_found r g.number second p a.8 (ap (place_found r second) (sym place2) ∙ z) in
                      (i.0, i.1, λ v. i.2 (l2.1 v)))
                ])
            | inr b ↦ absurd (let w : None ≡ Some p = rw b at v in no_some w)
          ]
          | inr v ↦ right_found r q rest p a.9 v
        ]
      ]

  -- what an item that is there leads to is found
  node_found : (r : ℕ) (k : Holder) (h : Head) (held : Entries) (o : Option ℕ) (g : Head) (second rest : Entries) (p : Place) → g ≡ other_head s o → leads_to (holds k h.number o) r ≡ true
      → IsFound (either_place (if eqb h.number r then Some (held_place k h held p) else place_found r held (held_place k h held p))
      (either_place (if second_lives k then (if eqb g.number r then Some (second_place g second p) else place_found r second (second_place g second p)) else None) (place_found r rest p)))
  node_found r k h held o g second rest p a e = elim (or_cases (eqb h.number r) _ e) [
    | inl c ↦ found_left (if eqb h.number r then Some (held_place k h held p) else place_found r held (held_place k h held p)) _ (rw c tt)
    | inr c ↦ (let d = and_parts (second_lives k) (is_second o r) c in
        let b = d.0 in
        let n : eqb g.number r ≡ true = by_option o a d.1 in
        found_right (if eqb h.number r then Some (held_place k h held p) else place_found r held (held_place k h held p)) _
        (found_left (if second_lives k then (if eqb g.number r then Some (second_place g second p) else place_found r second (second_place g second p)) else None) _ (rw (b, n) tt)))
  ]
    where
      by_option : (o : Option ℕ) → g ≡ other_head s o → is_second o r ≡ true → eqb g.number r ≡ true
      by_option None a e = absurd (false≢true e)
      by_option (Some q) a e = ap (λ (x : Head). eqb x.number r) a ∙ e

  is_found : (r t q : ℕ) (es : Entries) (p : Place) → AreShown s q es → has t es ≡ true → leads_to (slot_at s t).what r ≡ true → IsFound (place_found r es p)
  is_found r t q none p a h e = absurd (false≢true h)
  is_found r t q (leaf id l rest) p a h e = elim (cases_Bool (eqb id t)) [
    | inl c ↦ absurd (false≢true (ap (λ (x : Slot). leads_to x.what r) (sym a.1) ∙ (ap (λ n. leads_to (slot_at s n).what r) (eqb-true id t c) ∙ e)))
    | inr c ↦ is_found r t q rest p a.2 (rw c at h) e
  ]
  is_found r t q (node id k h held g second rest) p a y e = elim (cases_Bool (eqb id t)) [
    | inl c ↦ node_found r k h held a.1 g second rest p a.5 (ap (λ (x : Slot). leads_to x.what r) (sym a.2) ∙ (ap (λ n. leads_to (slot_at s n).what r) (eqb-true id t c) ∙ e))
    | inr c ↦ elim (cases_Bool (second_lives k && has t second)) [
      | inl b ↦ (let d = both_so (second_lives k) (has t second) b in
          let l = d.0 in
          let i = is_found r t g.number second (second_place g second p) a.8 d.1 e in
          found_right (if eqb h.number r then Some (held_place k h held p) else place_found r held (held_place k h held p)) _
          (found_left (if second_lives k then (if eqb g.number r then Some (second_place g second p) else place_found r second (second_place g second p)) else None) _ (rw l (by_test (eqb g.number r) (second_place g second p) (place_found r second (second_place g second p)) i))))
      | inr b ↦ elim (cases_Bool (has t held)) [
        | inl d ↦ found_left (if eqb h.number r then Some (held_place k h held p) else place_found r held (held_place k h held p)) _ (by_test (eqb h.number r) (held_place k h held p) (place_found r held (held_place k h held p)) (is_found r t h.number held (held_place k h held p) a.7 d e))
        | inr d ↦ found_right (if eqb h.number r then Some (held_place k h held p) else place_found r held (held_place k h held p)) _
            (found_right (if second_lives k then (if eqb g.number r then Some (second_place g second p) else place_found r second (second_place g second p)) else None) _
            (is_found r t q rest p a.9 (rw (c, b, d) at y) e))
      ]
    ]
  ]
    where
      by_test : (b : Bool) (x : Place) (o : Option Place) → IsFound o → IsFound (if b then Some x else o)
      by_test true x o f = tt
      by_test false x o f = f

  module _ (own : HasOwn s) where
    some_is : (r : ℕ) (o : Option Place) → IsFound o → ((p : Place) → o ≡ Some p → p ≡ place_outward s hs r) → o ≡ Some (place_outward s hs r)
    some_is r None f h = absurd f
    some_is r (Some p) f h = ap Some (h p refl)

    none_is : (o : Option Place) → ((p : Place) → o ≡ Some p → ⊥) → o ≡ None
    none_is None h = refl
    none_is (Some p) h = absurd (h p refl)

    pub found_live : (r : ℕ) → r < length s.regions → lives_in s hs r ≡ true → place_in_scene r (scene_in s) ≡ Some (place_outward s hs r)
    found_live r l v = elim (cases_Bool (eqb 0 r)) [
      | inl c ↦ rw c (ap (λ i. Some (place_outward s hs i)) (eqb-true 0 r c))
      | inr c ↦ (let above : 0 < r = positive r c in
          let h = known.holders r above l in
          let u = and_parts (leads_to (slot_at s (holder_at hs r)).what r) (lives_in s hs (slot_at s (holder_at hs r)).home) (sym (lives_outward s hs sound known r above l) ∙ v) in
          let there = live_has s hs sound known own (suc (slot_at s (holder_at hs r)).home) (slot_at s (holder_at hs r)).home (holder_at hs r) (omega arith) h.0 (leads_live (slot_at s (holder_at hs r)).what r u.0) refl u.1 in
          rw c (some_is r (place_found r (entries_at s 0) (place_outward s hs 0)) (is_found r (holder_at hs r) 0 (entries_at s 0) (place_outward s hs 0) (all_shown s sound 0 sound.root) there u.0)
          (λ p e. (right_found r 0 (entries_at s 0) p (all_shown s sound 0 sound.root) e).0)))
    ]
      where
        positive : (r : ℕ) → eqb 0 r ≡ false → 0 < r
        positive zero e = absurd (false≢true (sym e))
        positive (suc r) e = omega arith

    pub found_none : (r : ℕ) → 0 < r → (r < length s.regions → lives_in s hs r ≡ false) → place_in_scene r (scene_in s) ≡ None
    found_none r a v =
        let c = ne_eqb 0 r (λ e. omega (arith, e, a)) in
        rw c (none_is (place_found r (entries_at s 0) (place_outward s hs 0)) (λ p e. let f = right_found r 0 (entries_at s 0) p (all_shown s sound 0 sound.root) e in both_ways (lives_in s hs r) (v f.1) (f.2 refl)))
