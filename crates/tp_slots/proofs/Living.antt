-- Which items are live, and that a step lets none fall asleep.
use Rattle.std.proofs.Common.{◌≡◌, ℕ, zero, suc, ◌<◌, ◌&&◌, ◌||◌, true, false, eqb, List, [], length, Option, Some, None, refl, ap, sym, ◌∙◌, subst, arith, inl, inr}
use Rattle.std.proofs.lemmas.Bool.{cases_Bool, cases_eq, cases_lt, eqb-true, eq-eqb, both_ways, or_cases, or_left, or_right, and_parts, and_from, false≢true, false_from_ne_true}
use Rattle.std.proofs.lemmas.List.{get_or_past}
use Rattle.tp_scene.specs.Scene.{Head, Holder, Entries, none, leaf, node, has, second_lives}
use Rattle.tp_slots.specs.Plain.{What, bare, holds, gone, Slot, Slots, slot_at, other_head, second_of, entries_at, IsLive, WhatFits, IsOrdered}
use Rattle.tp_slots.specs.Shown.{AreShown}
use Rattle.tp_slots.specs.Places.{holder_at, HeldBy, AreHeld}
use Rattle.tp_slots.specs.Lives.{has_own, is_item, is_second, leads_to, lives_up, lives_in, HasOwn}
use Rattle.tp_slots.specs.Flags.{Flags, set_flag}
use Rattle.tp_slots.specs.Kept.{IsQuiet}
use Rattle.tp_slots.proofs.PutEdits.{both_so}
use Rattle.tp_slots.proofs.Showing.{all_shown, has_shown}
use Rattle.tp_slots.proofs.PlaceLemmas.{no_zero, one_outward, outer_less}

own_has : (t : ℕ) (es : Entries) → has_own t es ≡ true → has t es ≡ true
own_has t none e = e
own_has t (leaf id l rest) e = elim (or_cases (eqb id t) (has_own t rest) e) [
  | inl a ↦ or_left (eqb id t) (has t rest) a
  | inr a ↦ or_right (eqb id t) (has t rest) (own_has t rest a)
]
own_has t (node id k h held g second rest) e = elim (or_cases (eqb id t) (has_own t rest) e) [
  | inl a ↦ or_left (eqb id t) _ a
  | inr a ↦ or_right (eqb id t) _ (or_right (second_lives k && has t second) _ (or_right (has t held) (has t rest) (own_has t rest a)))
]

pub live_item : (w : What) → IsLive w → is_item w ≡ true
live_item (bare l) h = refl
live_item (holds k r q) h = refl
live_item (gone by) h = absurd h

pub item_live : (w : What) → is_item w ≡ true → IsLive w
item_live (bare l) h = tt
item_live (holds k r q) h = tt
item_live (gone by) h = absurd (false≢true h)

pub leads_live : (w : What) (r : ℕ) → leads_to w r ≡ true → IsLive w
leads_live (bare l) r h = tt
leads_live (holds k p o) r h = tt
leads_live (gone by) r h = absurd (false≢true h)

second_is : (o : Option ℕ) (r : ℕ) → is_second o r ≡ true → o ≡ Some r
second_is None r e = absurd (false≢true e)
second_is (Some p) r e = ap Some (eqb-true p r e)

module _ (s : Slots) (hs : List ℕ) (sound : IsOrdered s) (known : AreHeld s hs) where
  lives_begins : (n : ℕ) → lives_up s hs n 0 ≡ true
  lives_begins zero = refl
  lives_begins (suc n) = refl

  pub lives_outward : (r : ℕ) → 0 < r → r < length s.regions → lives_in s hs r ≡ (leads_to (slot_at s (holder_at hs r)).what r && lives_in s hs (slot_at s (holder_at hs r)).home)
  lives_outward = one_outward s hs sound known (lives_up s hs) true (λ r x. leads_to (slot_at s (holder_at hs r)).what r && x) lives_begins (λ n r a. let z = no_zero r a in rw z refl)

  -- a region that a live item leads to
  pub led : (id r p : ℕ) (w : What) → id < length s.slots → slot_at s id ≡ record { home = r; what = w } → holder_at hs p ≡ id → 0 < p → p < length s.regions → leads_to w p ≡ true → lives_in s hs r ≡ true → lives_in s hs p ≡ true
  led id r p w l e h a b u v =
      lives_outward p a b
      ∙ (ap (λ i. leads_to (slot_at s i).what p && lives_in s hs (slot_at s i).home) h
      ∙ (ap (λ (x : Slot). leads_to x.what p && lives_in s hs x.home) e ∙ and_from (leads_to w p) (lives_in s hs r) u v))

  -- What each region passes on to those that its items hold is so of the region in which an item stands that is found inside.
  module _ (P : ℕ → Type 0) (held : (id r p : ℕ) (w : What) → id < length s.slots → slot_at s id ≡ record { home = r; what = w } → holder_at hs p ≡ id → 0 < p → p < length s.regions → leads_to w p ≡ true → P r → P p) where
    first_so : (id r p : ℕ) (k : Holder) (o : Option ℕ) → id < length s.slots → slot_at s id ≡ record { home = r; what = holds k p o } → P r → P p
    first_so id r p k o l e v =
        let f = subst (λ (x : Slot). WhatFits s x.home id x.what) e (sound.items id l).1 in
        let h = subst (λ (x : Slot). HeldBy hs id x.what) e (known.by id l) in
        let above = f.0.0 in
        held id r p (holds k p o) l e h.0 (omega (arith, above)) f.0.1 (or_left (eqb p p) _ (eq-eqb p p refl)) v

    second_so : (t id r p : ℕ) (k : Holder) (o : Option ℕ) (g : Head) (second : Entries) → id < length s.slots → slot_at s id ≡ record { home = r; what = holds k p o } → g ≡ other_head s o → second ≡ second_of (entries_at s) o
        → has t second ≡ true → second_lives k ≡ true → P r → P g.number
    second_so t id r p k None g second l e a b h u v = absurd (both_ways (has t second) (ap (has t) b) h)
    second_so t id r p k (Some q) g second l e a b h u v =
        let f = subst (λ (x : Slot). WhatFits s x.home id x.what) e (sound.items id l).1 in
        let d = subst (λ (x : Slot). HeldBy hs id x.what) e (known.by id l) in
        let above = f.1.1.0 in
        subst (λ (x : Head). P x.number) (sym a) (held id r q (holds k p (Some q)) l e d.1.0 (omega (arith, above)) f.1.1.1 (or_right (eqb p q) _ (and_from (second_lives k) (eqb q q) u (eq-eqb q q refl))) v)

    stands : (t id r : ℕ) (w : What) → eqb id t ≡ true → slot_at s id ≡ record { home = r; what = w } → P r → P (slot_at s t).home
    stands t id r w e is l = subst (λ n. P (slot_at s n).home) (eqb-true id t e) (subst (λ (x : Slot). P x.home) (sym is) l)

    pub shown_so : (t r : ℕ) (es : Entries) → AreShown s r es → P r → has t es ≡ true → P (slot_at s t).home
    shown_so t r none a l h = absurd (false≢true h)
    shown_so t r (leaf id f rest) a l h = elim (cases_Bool (eqb id t)) [
      | inl e ↦ stands t id r (bare f) e a.1 l
      | inr e ↦ shown_so t r rest a.2 l (rw e at h)
    ]
    shown_so t r (node id k hd held g second rest) a l h = elim (cases_Bool (eqb id t)) [
      | inl e ↦ stands t id r (holds k hd.number a.1) e a.2 l
      | inr e ↦ elim (cases_Bool (second_lives k && has t second)) [
        | inl b ↦ (let p = both_so (second_lives k) (has t second) b in shown_so t g.number second a.8 (second_so t id r hd.number k a.1 g second a.0 a.2 a.5 a.6 p.1 p.0 l) p.1)
        | inr b ↦ elim (cases_Bool (has t held)) [
          | inl d ↦ shown_so t hd.number held a.7 (first_so id r hd.number k a.1 a.0 a.2 l) d
          | inr d ↦ shown_so t r rest a.9 l (rw (e, b, d) at h)
        ]
      ]
    ]

  pub first_lives : (id r p : ℕ) (k : Holder) (o : Option ℕ) → id < length s.slots → slot_at s id ≡ record { home = r; what = holds k p o } → lives_in s hs r ≡ true → lives_in s hs p ≡ true
  first_lives = first_so (λ q. lives_in s hs q ≡ true) led

  pub shown_lives : (t r : ℕ) (es : Entries) → AreShown s r es → lives_in s hs r ≡ true → has t es ≡ true → lives_in s hs (slot_at s t).home ≡ true
  shown_lives = shown_so (λ q. lives_in s hs q ≡ true) led

  -- the region of a live item is live
  pub home_lives : (t : ℕ) → has t (entries_at s 0) ≡ true → lives_in s hs (slot_at s t).home ≡ true
  home_lives t h = shown_lives t 0 (entries_at s 0) (all_shown s sound 0 sound.root) refl h

  module _ (own : HasOwn s) where
    -- an item of a region is there where the holder of its region is
    held_has : (t p : ℕ) (k : Holder) (r : ℕ) (o : Option ℕ) (held second rest : Entries) → held ≡ entries_at s r → second ≡ second_of (entries_at s) o → leads_to (holds k r o) p ≡ true → has t (entries_at s p) ≡ true
        → ((second_lives k && has t second) || (has t held || has t rest)) ≡ true
    held_has t p k r o held second rest a b h i = elim (or_cases (eqb r p) _ h) [
      | inl e ↦ or_right (second_lives k && has t second) _ (or_left (has t held) (has t rest) (ap (has t) a ∙ (ap (λ n. has t (entries_at s n)) (eqb-true r p e) ∙ i)))
      | inr e ↦ (let c = and_parts (second_lives k) (is_second o p) e in
          or_left (second_lives k && has t second) _ (and_from (second_lives k) (has t second) c.0 (ap (has t) b ∙ (ap (λ x. has t (second_of (entries_at s) x)) (second_is o p c.1) ∙ i))))
    ]

    inside : (t p h r : ℕ) (es : Entries) → AreShown s r es → has h es ≡ true → leads_to (slot_at s h).what p ≡ true → has t (entries_at s p) ≡ true → has t es ≡ true
    inside t p h r none a y w o = absurd (false≢true y)
    inside t p h r (leaf id l rest) a y w o = elim (cases_Bool (eqb id h)) [
      | inl e ↦ absurd (false≢true (ap (λ (x : Slot). leads_to x.what p) (sym a.1) ∙ (ap (λ n. leads_to (slot_at s n).what p) (eqb-true id h e) ∙ w)))
      | inr e ↦ or_right (eqb id t) (has t rest) (inside t p h r rest a.2 (rw e at y) w o)
    ]
    inside t p h r (node id k hd held g second rest) a y w o = or_right (eqb id t) _ (elim (cases_Bool (eqb id h)) [
      | inl e ↦ held_has t p k hd.number a.1 held second rest a.4 a.6 (ap (λ (x : Slot). leads_to x.what p) (sym a.2) ∙ (ap (λ n. leads_to (slot_at s n).what p) (eqb-true id h e) ∙ w)) o
      | inr e ↦ elim (cases_Bool (second_lives k && has h second)) [
        | inl b ↦ (let c = both_so (second_lives k) (has h second) b in
            or_left (second_lives k && has t second) _ (and_from (second_lives k) (has t second) c.0 (inside t p h g.number second a.8 c.1 w o)))
        | inr b ↦ or_right (second_lives k && has t second) _ (elim (cases_Bool (has h held)) [
          | inl d ↦ or_left (has t held) (has t rest) (inside t p h hd.number held a.7 d w o)
          | inr d ↦ or_right (has t held) (has t rest) (inside t p h r rest a.9 (rw (e, b, d) at y) w o)
        ])
      ]
    ])

    -- each item of a live region is live
    pub live_has : (n p t : ℕ) → p < n → t < length s.slots → IsLive (slot_at s t).what → (slot_at s t).home ≡ p → lives_in s hs p ≡ true → has t (entries_at s 0) ≡ true
    live_has zero p t u a l e f = absurd (omega (arith, u))
    live_has (suc n) p t u a l e f =
        let here : has t (entries_at s p) ≡ true = own_has t (entries_at s p) (ap (λ r. has_own t (entries_at s r)) (sym e) ∙ own t a l) in
        elim (cases_eq p 0) [
          | inl z ↦ ap (λ r. has t (entries_at s r)) (sym z) ∙ here
          | inr z ↦ (let in_regions : p < length s.regions = subst (λ r. r < length s.regions) e (sound.items t a).0 in
              let above : 0 < p = omega (arith, z) in
              let h = known.holders p above in_regions in
              let less = outer_less s hs sound known p above in_regions in
              let c = and_parts (leads_to (slot_at s (holder_at hs p)).what p) (lives_in s hs (slot_at s (holder_at hs p)).home) (sym (lives_outward p above in_regions) ∙ f) in
              inside t p (holder_at hs p) 0 (entries_at s 0) (all_shown s sound 0 sound.root)
              (live_has n (slot_at s (holder_at hs p)).home (holder_at hs p) (omega (arith, less, u)) h.0 (leads_live (slot_at s (holder_at hs p)).what p c.0) refl c.1) c.0 here)
        ]

    pub has_is : (t : ℕ) → (is_item (slot_at s t).what && lives_in s hs (slot_at s t).home) ≡ has t (entries_at s 0)
    has_is t = elim (cases_Bool (has t (entries_at s 0))) [
      | inl e ↦ (let a = has_shown s sound t 0 (entries_at s 0) (all_shown s sound 0 sound.root) e in
          and_from (is_item (slot_at s t).what) _ (live_item (slot_at s t).what a.2) (home_lives t e) ∙ sym e)
      | inr e ↦ false_from_ne_true _ (λ i. let c = and_parts (is_item (slot_at s t).what) (lives_in s hs (slot_at s t).home) i in
          elim (cases_lt t (length s.slots)) [
            | inl a ↦ both_ways (has t (entries_at s 0)) e (live_has (suc (slot_at s t).home) (slot_at s t).home t (omega arith) a (item_live (slot_at s t).what c.0) refl c.1)
            | inr a ↦ false≢true (ap (λ (x : Slot). is_item x.what) (sym (get_or_past s.slots t (record { home = 0; what = gone [] }) a)) ∙ c.0)
          ]) ∙ sym e
    ]

  -- a flag of a live region may be set
  pub quiet_set : (f : Flags) (r : ℕ) → lives_in s hs r ≡ true → IsQuiet s hs f → IsQuiet s hs (set_flag r f)
  quiet_set f r l q p i d = elim (cases_Bool (eqb p r)) [
    | inl e ↦ absurd (both_ways (lives_in s hs p) d (ap (lives_in s hs) (eqb-true p r e) ∙ l))
    | inr e ↦ rw e (q p i d)
  ]
