-- Flags that hold a step at a time are right, and setting one outward keeps them so.
use Rattle.std.proofs.Common.{◌≡◌, ℕ, zero, suc, ◌+◌, ◌≤◌, ◌<◌, ◌||◌, ◌&&◌, Bool, true, false, cond, eqb, List, [], length, Option, Some, None, refl, ap, sym, ◌∙◌, subst, arith, inl, inr}
use Rattle.std.proofs.lemmas.Bool.{cases_Bool, cases_lt, eqb-true, eqb-false, eq-eqb, both_ways, or_cases, or_left, or_right, and_parts, and_from, false≢true}
use Rattle.std.proofs.lemmas.List.{get_or_past}
use Rattle.tp_scene.specs.Scene.{Side, Ending, Going, marked, rises, risen, second_lives, Head, Holder, Entries, none, leaf, node, append}
use Rattle.tp_scene.specs.Pick.{mark_head}
use Rattle.tp_slots.specs.Plain.{What, bare, holds, gone, Slot, Slots, slot_at, head_at, other_head, second_of, entries_at, has_second, SecondFits, WhatFits, IsOrdered, IsLive}
use Rattle.tp_slots.specs.Lives.{has_own, is_second, HasOwn}
use Rattle.tp_slots.specs.Edit.{edited_entries, one_place}
use Rattle.tp_slots.specs.Shown.{AreShown}
use Rattle.tp_slots.specs.Places.{holder_at, HeldBy, AreHeld}
use Rattle.tp_slots.specs.Flags.{Flags, set_flag, FlagsAreRight, risen_by, FlagHolds, FlagsHold, number_or_zero, rises_what, rises_from, Pending}
use Rattle.tp_slots.proofs.PutEdits.{second_has}
use Rattle.tp_slots.proofs.Showing.{all_shown}

number_kept : (m : Option Side) (h : Head) → (mark_head m h).number ≡ h.number
number_kept m h = by_mark m
  where
    by_mark : (m : Option Side) → (mark_head m h).number ≡ h.number
    by_mark None = refl
    by_mark (Some z) = by_side z
      where
        by_side : (z : Side) → (mark_head (Some z) h).number ≡ h.number
        by_side Ending = refl
        by_side Going = refl

second_kept : (b : Bool) (m : Option Side) (g : Head) → (cond b (mark_head m g) g).number ≡ g.number
second_kept true m g = number_kept m g
second_kept false m g = refl

second_number_is : (s : Slots) (o : Option ℕ) → (other_head s o).number ≡ number_or_zero o
second_number_is s None = refl
second_number_is s (Some p) = refl

only_left : (a b c : Bool) → (a ≡ true → b ≡ c) → (a && b) ≡ (a && c)
only_left true b c h = h refl
only_left false b c h = refl

-- A flag that is set.
set_here : (r : ℕ) (f : Flags) (q : ℕ) → q ≡ r → set_flag r f q ≡ true
set_here r f q e = or_left (eqb q r) (f q) (eq-eqb q r e)

set_other : (r : ℕ) (f : Flags) (q : ℕ) → eqb q r ≡ false → set_flag r f q ≡ f q
set_other r f q e = rw e refl

grows : (z : Side) (r : ℕ) (f : Flags) (es : Entries) → risen_by z f es ≡ true → risen_by z (set_flag r f) es ≡ true
grows z r f none e = e
grows z r f (leaf id l rest) e = grows z r f rest e
grows z r f (node id k h held g second rest) e = elim (or_cases (rises k z && f h.number) _ e) [
  | inl u ↦ (let v = and_parts (rises k z) (f h.number) u in or_left _ _ (and_from (rises k z) _ v.0 (or_right (eqb h.number r) _ v.1)))
  | inr w ↦ or_right (rises k z && set_flag r f h.number) _ (elim (or_cases (second_lives k && f g.number) _ w) [
    | inl u ↦ (let v = and_parts (second_lives k) (f g.number) u in or_left _ _ (and_from (second_lives k) _ v.0 (or_right (eqb g.number r) _ v.1)))
    | inr u ↦ or_right (second_lives k && set_flag r f g.number) _ (grows z r f rest u)
  ])
]

module _ (s : Slots) (sound : IsOrdered s) where
  fits : (r id : ℕ) (w : What) → id < length s.slots → slot_at s id ≡ record { home = r; what = w } → WhatFits s r id w
  fits r id w l e = subst (λ (x : Slot). WhatFits s x.home id x.what) e (sound.items id l).1

  module _ (z : Side) (f : Flags) where
    second_right : (r : ℕ) (k : Holder) (o : Option ℕ) (g : Head) (second : Entries) → SecondFits s r k o → g ≡ other_head s o → second ≡ second_of (entries_at s) o
        → ((p : ℕ) → r < p → p < length s.regions → f p ≡ (marked z (head_at s p) || risen z (entries_at s p)))
        → second_lives k ≡ true → f g.number ≡ (marked z g || risen z second)
    second_right r k None g second fit e d deep l = absurd (both_ways (has_second k) fit (second_has k l))
    second_right r k (Some p) g second fit e d deep l = ap (λ (x : Head). f x.number) e ∙ (deep p fit.1.0 fit.1.1 ∙ (λ i. marked z (sym e i) || risen z (sym d i)))

    spine_right : (r : ℕ) (es : Entries) → AreShown s r es → ((p : ℕ) → r < p → p < length s.regions → f p ≡ (marked z (head_at s p) || risen z (entries_at s p))) → risen_by z f es ≡ risen z es
    spine_right r none a deep = refl
    spine_right r (leaf id l rest) a deep = spine_right r rest a.2 deep
    spine_right r (node id k h held g second rest) a deep =
        let fit = fits r id (holds k h.number a.1) a.0 a.2 in
        let e = a.3 in
        let d = a.4 in
        let first : f h.number ≡ (marked z h || risen z held) = deep h.number fit.0.0 fit.0.1 ∙ (λ i. marked z (sym e i) || risen z (sym d i)) in
        let other : (second_lives k && f g.number) ≡ (second_lives k && (marked z g || risen z second)) = only_left (second_lives k) _ _ (second_right r k a.1 g second fit.1 a.5 a.6 deep) in
        let later = spine_right r rest a.9 deep in
        λ i. (rises k z && first i) || (other i || later i)

    deep_right : FlagsHold s z f → (n r : ℕ) → length s.regions ≤ n + r → r < length s.regions → f r ≡ (marked z (head_at s r) || risen z (entries_at s r))
    deep_right so zero r a l = absurd (omega (arith, a, l))
    deep_right so (suc n) r a l =
        so r l ∙ ap (λ b. marked z (head_at s r) || b) (spine_right r (entries_at s r) (all_shown s sound r l) (λ p c b. deep_right so n p (omega (arith, a, c)) b))

    -- the two say the same
    pub flags_right : FlagsHold s z f → FlagsAreRight s z f
    flags_right so r l = deep_right so (length s.regions) r (omega arith) l

    pub flags_hold : FlagsAreRight s z f → FlagsHold s z f
    flags_hold right r l = right r l ∙ ap (λ b. marked z (head_at s r) || b) (sym (spine_right r (entries_at s r) (all_shown s sound r l) (λ p c b. right p b)))

    -- What rises from a region is kept where what stands in an item's place rises as it did.
    pub edit_rises : (t : ℕ) (news : Entries) (marks : ℕ → Option Side) → ((rest : Entries) → risen_by z f (append news rest) ≡ (rises_what z f (slot_at s t).what || risen_by z f rest))
        → (r : ℕ) (es : Entries) → AreShown s r es → risen_by z f (edited_entries (one_place t news) marks es) ≡ risen_by z f es
    edit_rises t news marks same r none a = refl
    edit_rises t news marks same r (leaf id l rest) a = elim (cases_Bool (eqb id t)) [
      | inl e ↦ (let at : (slot_at s t).what ≡ bare l = ap (λ n. (slot_at s n).what) (sym (eqb-true id t e)) ∙ ap (λ (x : Slot). x.what) a.1 in
          rw e (same (edited_entries (one_place t news) marks rest) ∙ (ap (λ w. rises_what z f w || risen_by z f (edited_entries (one_place t news) marks rest)) at ∙ edit_rises t news marks same r rest a.2)))
      | inr e ↦ rw e (edit_rises t news marks same r rest a.2)
    ]
    edit_rises t news marks same r (node id k h held g second rest) a =
        let later = edit_rises t news marks same r rest a.9 in
        let number : g.number ≡ number_or_zero a.1 = ap (λ (x : Head). x.number) a.5 ∙ second_number_is s a.1 in
        elim (cases_Bool (eqb id t)) [
          | inl e ↦ (let at : (slot_at s t).what ≡ holds k h.number a.1 = ap (λ n. (slot_at s n).what) (sym (eqb-true id t e)) ∙ ap (λ (x : Slot). x.what) a.2 in
              rw e (same (edited_entries (one_place t news) marks rest)
              ∙ (ap (λ w. rises_what z f w || risen_by z f (edited_entries (one_place t news) marks rest)) at
              ∙ (or_assoc (rises k z && f h.number) (second_lives k && f (number_or_zero a.1)) (risen_by z f (edited_entries (one_place t news) marks rest))
              ∙ (λ i. (rises k z && f h.number) || ((second_lives k && f (sym number i)) || later i))))))
          | inr e ↦ (let x = number_kept (marks h.number) h in
              let y = second_kept (has_second k) (marks g.number) g in
              rw e (λ i. (rises k z && f (x i)) || ((second_lives k && f (y i)) || later i)))
        ]
      where
        or_assoc : (a b c : Bool) → ((a || b) || c) ≡ (a || (b || c))
        or_assoc true b c = refl
        or_assoc false b c = refl

-- Setting the flag of the region r tells in the region that holds what holds it, and only there.
module _ (s : Slots) (hs : List ℕ) (sound : IsOrdered s) (known : AreHeld s hs) (z : Side) (r : ℕ) (f : Flags) where
  abbrev Reaches : ℕ → Type 0
  Reaches q = ((slot_at s (holder_at hs r)).home ≡ q) × (rises_from (slot_at s (holder_at hs r)).what r z ≡ true)

  reaches : (q id : ℕ) (w : What) → slot_at s id ≡ record { home = q; what = w } → holder_at hs r ≡ id → rises_from w r z ≡ true → Reaches q
  reaches q id w e h u =
      let at : slot_at s (holder_at hs r) ≡ record { home = q; what = w } = ap (slot_at s) h ∙ e in
      (ap (λ (x : Slot). x.home) at, ap (λ (x : Slot). rises_from x.what r z) at ∙ u)

  rises_first : (k : Holder) (p : ℕ) (o : Option ℕ) → p ≡ r → rises k z ≡ true → rises_from (holds k p o) r z ≡ true
  rises_first k p o e u = or_left (eqb p r && rises k z) _ (and_from (eqb p r) (rises k z) (eq-eqb p r e) u)

  rises_second : (k : Holder) (p y : ℕ) → y ≡ r → second_lives k ≡ true → rises_from (holds k p (Some y)) r z ≡ true
  rises_second k p y e u = or_right (eqb p r && rises k z) _ (and_from (second_lives k) (eqb y r) u (eq-eqb y r e))

  held_by : (q id : ℕ) (w : What) → id < length s.slots → slot_at s id ≡ record { home = q; what = w } → HeldBy hs id w
  held_by q id w l e = subst (λ (x : Slot). HeldBy hs id x.what) e (known.by id l)

  first_unset : (q id p : ℕ) (k : Holder) (o : Option ℕ) → (Reaches q → ⊥) → id < length s.slots → slot_at s id ≡ record { home = q; what = holds k p o } → rises k z ≡ true → set_flag r f p ≡ f p
  first_unset q id p k o apart l e u = elim (cases_Bool (eqb p r)) [
    | inl c ↦ (let n = eqb-true p r c in
        absurd (apart (reaches q id (holds k p o) e (ap (holder_at hs) (sym n) ∙ (held_by q id (holds k p o) l e).0) (rises_first k p o n u))))
    | inr c ↦ set_other r f p c
  ]

  second_unset : (q id p : ℕ) (k : Holder) (o : Option ℕ) (g : Head) → (Reaches q → ⊥) → id < length s.slots → slot_at s id ≡ record { home = q; what = holds k p o } → g ≡ other_head s o → second_lives k ≡ true → set_flag r f g.number ≡ f g.number
  second_unset q id p k None g apart l e d u = absurd (both_ways (has_second k) (fits s sound q id (holds k p None) l e).1 (second_has k u))
  second_unset q id p k (Some y) g apart l e d u =
      let number : g.number ≡ y = ap (λ (x : Head). x.number) d in
      elim (cases_Bool (eqb g.number r)) [
        | inl c ↦ (let n : y ≡ r = sym number ∙ eqb-true g.number r c in
            absurd (apart (reaches q id (holds k p (Some y)) e (ap (holder_at hs) (sym n) ∙ (held_by q id (holds k p (Some y)) l e).1.0) (rises_second k p y n u))))
        | inr c ↦ set_other r f g.number c
      ]

  unset : (q : ℕ) → (Reaches q → ⊥) → (es : Entries) → AreShown s q es → risen_by z (set_flag r f) es ≡ risen_by z f es
  unset q apart none a = refl
  unset q apart (leaf id l rest) a = unset q apart rest a.2
  unset q apart (node id k h held g second rest) a =
      let x = only_left (rises k z) _ _ (first_unset q id h.number k a.1 apart a.0 a.2) in
      let y = only_left (second_lives k) _ _ (second_unset q id h.number k a.1 g apart a.0 a.2 a.5) in
      let later = unset q apart rest a.9 in
      λ i. x i || (y i || later i)

  set_node : (k : Holder) (p : ℕ) (o : Option ℕ) (g : Head) (rest : Bool) → g ≡ other_head s o → rises_from (holds k p o) r z ≡ true → ((rises k z && set_flag r f p) || ((second_lives k && set_flag r f g.number) || rest)) ≡ true
  set_node k p o g rest d u = elim (or_cases (eqb p r && rises k z) _ u) [
    | inl v ↦ (let w = and_parts (eqb p r) (rises k z) v in or_left _ _ (and_from (rises k z) _ w.1 (set_here r f p (eqb-true p r w.0))))
    | inr v ↦ or_right (rises k z && set_flag r f p) _ (or_left _ _ (by_second o d v))
  ]
    where
      by_second : (o : Option ℕ) → g ≡ other_head s o → (second_lives k && is_second o r) ≡ true → (second_lives k && set_flag r f g.number) ≡ true
      by_second None d v = absurd (false≢true (and_parts (second_lives k) false v).1)
      by_second (Some y) d v =
          let w = and_parts (second_lives k) (eqb y r) v in
          and_from (second_lives k) _ w.0 (set_here r f g.number (ap (λ (x : Head). x.number) d ∙ eqb-true y r w.1))

  reached : (q t : ℕ) → rises_from (slot_at s t).what r z ≡ true → (es : Entries) → AreShown s q es → has_own t es ≡ true → risen_by z (set_flag r f) es ≡ true
  reached q t u none a h = absurd (false≢true h)
  reached q t u (leaf id l rest) a h = elim (or_cases (eqb id t) _ h) [
    | inl e ↦ absurd (false≢true (ap (λ (x : Slot). rises_from x.what r z) (sym a.1) ∙ (ap (λ n. rises_from (slot_at s n).what r z) (eqb-true id t e) ∙ u)))
    | inr e ↦ reached q t u rest a.2 e
  ]
  reached q t u (node id k h held g second rest) a y = elim (or_cases (eqb id t) _ y) [
    | inl e ↦ set_node k h.number a.1 g (risen_by z (set_flag r f) rest) a.5 (ap (λ (x : Slot). rises_from x.what r z) (sym a.2) ∙ (ap (λ n. rises_from (slot_at s n).what r z) (eqb-true id t e) ∙ u))
    | inr e ↦ or_right (rises k z && set_flag r f h.number) _ (or_right (second_lives k && set_flag r f g.number) _ (reached q t u rest a.9 e))
  ]

  pub unset_holds : (q : ℕ) → q < length s.regions → (Reaches q → ⊥) → eqb q r ≡ false → FlagHolds s z f q → FlagHolds s z (set_flag r f) q
  unset_holds q l apart e h = set_other r f q e ∙ (h ∙ ap (λ b. marked z (head_at s q) || b) (sym (unset q apart (entries_at s q) (all_shown s sound q l))))

module _ (s : Slots) (hs : List ℕ) (sound : IsOrdered s) (own : HasOwn s) (known : AreHeld s hs) (z : Side) where
  -- what holds the region is there, and its own region is further out
  pub outer : (r t : ℕ) → rises_from (slot_at s t).what r z ≡ true → (t < length s.slots) × IsLive (slot_at s t).what × ((slot_at s t).home < r)
  outer r t u = elim (cases_lt t (length s.slots)) [
    | inl l ↦ (l, lives (slot_at s t).what u, further (slot_at s t).home t (slot_at s t).what l refl u)
    | inr l ↦ absurd (false≢true (ap (λ (x : Slot). rises_from x.what r z) (sym (get_or_past s.slots t (record { home = 0; what = gone [] }) l)) ∙ u))
  ]
    where
      lives : (w : What) → rises_from w r z ≡ true → IsLive w
      lives (bare l) u = tt
      lives (holds k p o) u = tt
      lives (gone by) u = absurd (false≢true u)

      second : (home : ℕ) (k : Holder) (o : Option ℕ) → SecondFits s home k o → is_second o r ≡ true → home < r
      second home k None f u = absurd (false≢true u)
      second home k (Some y) f u = subst (λ n. home < n) (eqb-true y r u) f.1.0

      further : (home t : ℕ) (w : What) → t < length s.slots → slot_at s t ≡ record { home = home; what = w } → rises_from w r z ≡ true → home < r
      further home t (bare i) l e u = absurd (false≢true u)
      further home t (gone by) l e u = absurd (false≢true u)
      further home t (holds k p o) l e u =
          let fit = fits s sound home t (holds k p o) l e in
          elim (or_cases (eqb p r && rises k z) _ u) [
            | inl v ↦ subst (λ n. home < n) (eqb-true p r (and_parts (eqb p r) (rises k z) v).0) fit.0.0
            | inr v ↦ second home k o fit.1 (and_parts (second_lives k) (is_second o r) v).1
          ]

  now_so : (r : ℕ) (f : Flags) → (marked z (head_at s r) || risen_by z f (entries_at s r)) ≡ true → FlagHolds s z (set_flag r f) r
  now_so r f p = set_here r f r refl ∙ sym (elim (or_cases (marked z (head_at s r)) _ p) [
    | inl u ↦ or_left (marked z (head_at s r)) _ u
    | inr u ↦ or_right (marked z (head_at s r)) _ (grows z r f (entries_at s r) u)
  ])

  pub set_already : (r : ℕ) (f : Flags) → f r ≡ true → Pending s z f r → FlagsHold s z f
  set_already r f e p q i = elim (cases_Bool (eqb q r)) [
    | inl c ↦ subst (FlagHolds s z f) (sym (eqb-true q r c)) (e ∙ sym p.1)
    | inr c ↦ p.0 q i (eqb-false q r c)
  ]

  pub raise_last : (r : ℕ) (f : Flags) → rises_from (slot_at s (holder_at hs r)).what r z ≡ false → Pending s z f r → FlagsHold s z (set_flag r f)
  raise_last r f u p q i = elim (cases_Bool (eqb q r)) [
    | inl c ↦ subst (FlagHolds s z (set_flag r f)) (sym (eqb-true q r c)) (now_so r f p.1)
    | inr c ↦ unset_holds s hs sound known z r f q i (λ x. both_ways (rises_from (slot_at s (holder_at hs r)).what r z) u x.1) c (p.0 q i (eqb-false q r c))
  ]

  pub raise_next : (r : ℕ) (f : Flags) → r < length s.regions → rises_from (slot_at s (holder_at hs r)).what r z ≡ true → Pending s z f r
      → ((slot_at s (holder_at hs r)).home < r) × Pending s z (set_flag r f) (slot_at s (holder_at hs r)).home
  raise_next r f l u p =
      let t = holder_at hs r in
      let home = (slot_at s t).home in
      let o = outer r t u in
      let less = o.2 in
      let within : home < length s.regions = omega (arith, l, less) in (
        less,
        (
          (λ q i other. elim (cases_Bool (eqb q r)) [
            | inl c ↦ subst (FlagHolds s z (set_flag r f)) (sym (eqb-true q r c)) (now_so r f p.1)
            | inr c ↦ unset_holds s hs sound known z r f q i (λ x. other (sym x.0)) c (p.0 q i (eqb-false q r c))
          ]),
          or_right (marked z (head_at s home)) _ (reached s hs sound known z r f home t u (entries_at s home) (all_shown s sound home within) (own t o.0 o.1)),
        ),
      )
