-- What a replacement changes.
use Rattle.std.proofs.Common.{◌≡◌, ℕ, zero, suc, ◌+◌, ◌≤◌, ◌<◌, true, false, eqb, List, [], ◌∷◌, ◌++◌, length, get_or, Option, Some, None, refl, ap, sym, ◌∙◌, subst, arith, inl, inr}
use Rattle.std.specs.Prelude.{slice_set}
use Rattle.std.proofs.lemmas.Bool.{cases_Bool, cases_eq, cases_lt, eqb-true, eq-eqb, both_ways}
use Rattle.std.proofs.lemmas.List.{get_or-set_same, get_or-set_other, get_or_append_left, length-set, length-append, append_assoc, append-nil}
use Rattle.std.proofs.Math.Seq.{get_or-append_seam}
use Rattle.tp_scene.specs.Scene.{Side, Ending, Going, Holder, Entries, append}
use Rattle.tp_scene.specs.Pick.{mark_head}
use Rattle.tp_slots.specs.Plain.{What, bare, holds, gone, Slot, RegionSlot, Slots, slot_at, region_slot, slot_head, head_at, in_order, of_what, item_entries, region_entries, entries_at, IsLive, AreIn, IsInner, SecondFits, WhatFits, IsOrdered}
use Rattle.tp_slots.specs.Edit.{one_place, one_mark, Follows}
use Rattle.tp_slots.specs.Replace.{marked_slot, replaced, NewFit, NewRegionsFit}
use Rattle.tp_slots.proofs.Read.{region_edited}
use Rattle.tp_slots.proofs.Same.{same_edited}

pub slot_marked : (m : Option Side) (r : ℕ) (x : RegionSlot) → slot_head r (marked_slot m x) ≡ mark_head m (slot_head r x)
slot_marked None r x = refl
slot_marked (Some Ending) r x = refl
slot_marked (Some Going) r x = refl

same_roots : (m : Option Side) (x : RegionSlot) → (marked_slot m x).roots ≡ x.roots
same_roots None x = refl
same_roots (Some Ending) x = refl
same_roots (Some Going) x = refl

module _ (s : Slots) (t : ℕ) (by : List ℕ) (m : Option Side) (news : List Slot) (more : List RegionSlot) (sound : IsOrdered s) (within : t < length s.slots) where
  pub item_count : length (replaced s t by m news more).slots ≡ length s.slots + length news
  item_count = length-append (slice_set s.slots t (record { home = (slot_at s t).home; what = gone by })) news ∙ ap (λ n. n + length news) (length-set s.slots t (record { home = (slot_at s t).home; what = gone by }))

  pub region_count : length (replaced s t by m news more).regions ≡ length s.regions + length more
  region_count = length-append (slice_set s.regions (slot_at s t).home (marked_slot m (region_slot s (slot_at s t).home))) more ∙ ap (λ n. n + length more) (length-set s.regions (slot_at s t).home (marked_slot m (region_slot s (slot_at s t).home)))

  at_old : (u : ℕ) → u < length s.slots → slot_at (replaced s t by m news more) u ≡ get_or (slice_set s.slots t (record { home = (slot_at s t).home; what = gone by })) u (record { home = 0; what = gone [] })
  at_old u l = get_or_append_left (slice_set s.slots t (record { home = (slot_at s t).home; what = gone by })) news (record { home = 0; what = gone [] }) u
      (let e = length-set s.slots t (record { home = (slot_at s t).home; what = gone by }) in omega (arith, e, l))

  pub at_other : (u : ℕ) → u < length s.slots → (u ≡ t → ⊥) → slot_at (replaced s t by m news more) u ≡ slot_at s u
  at_other u l n = at_old u l ∙ get_or-set_other s.slots t u (record { home = (slot_at s t).home; what = gone by }) (record { home = 0; what = gone [] }) n

  pub at_item : slot_at (replaced s t by m news more) t ≡ record { home = (slot_at s t).home; what = gone by }
  at_item = at_old t within ∙ get_or-set_same s.slots t (record { home = (slot_at s t).home; what = gone by }) (record { home = 0; what = gone [] }) within

  pub same_home : (u : ℕ) → u < length s.slots → (slot_at (replaced s t by m news more) u).home ≡ (slot_at s u).home
  same_home u l = elim (cases_eq u t) [
    | inl e ↦ ap (λ n. (slot_at (replaced s t by m news more) n).home) e ∙ (ap (λ (x : Slot). x.home) at_item ∙ ap (λ n. (slot_at s n).home) (sym e))
    | inr n ↦ ap (λ (x : Slot). x.home) (at_other u l n)
  ]

  region_old : (r : ℕ) → r < length s.regions → region_slot (replaced s t by m news more) r ≡ get_or (slice_set s.regions (slot_at s t).home (marked_slot m (region_slot s (slot_at s t).home))) r (record { ends = false; goes = false; roots = [] })
  region_old r l = get_or_append_left (slice_set s.regions (slot_at s t).home (marked_slot m (region_slot s (slot_at s t).home))) more (record { ends = false; goes = false; roots = [] }) r
      (let e = length-set s.regions (slot_at s t).home (marked_slot m (region_slot s (slot_at s t).home)) in omega (arith, e, l))

  pub region_other : (r : ℕ) → r < length s.regions → (r ≡ (slot_at s t).home → ⊥) → region_slot (replaced s t by m news more) r ≡ region_slot s r
  region_other r l n = region_old r l ∙ get_or-set_other s.regions (slot_at s t).home r (marked_slot m (region_slot s (slot_at s t).home)) (record { ends = false; goes = false; roots = [] }) n

  pub region_here : region_slot (replaced s t by m news more) (slot_at s t).home ≡ marked_slot m (region_slot s (slot_at s t).home)
  region_here = let l = (sound.items t within).0 in region_old (slot_at s t).home l ∙ get_or-set_same s.regions (slot_at s t).home (marked_slot m (region_slot s (slot_at s t).home)) (record { ends = false; goes = false; roots = [] }) l

  pub same_region_roots : (r : ℕ) → r < length s.regions → (region_slot (replaced s t by m news more) r).roots ≡ (region_slot s r).roots
  same_region_roots r l = elim (cases_eq r (slot_at s t).home) [
    | inl e ↦ ap (λ n. (region_slot (replaced s t by m news more) n).roots) e ∙ (ap (λ (x : RegionSlot). x.roots) region_here ∙ (same_roots m (region_slot s (slot_at s t).home) ∙ ap (λ n. (region_slot s n).roots) (sym e)))
    | inr n ↦ ap (λ (x : RegionSlot). x.roots) (region_other r l n)
  ]

  pub region_heads : (r : ℕ) → r < length s.regions → head_at (replaced s t by m news more) r ≡ mark_head (one_mark (slot_at s t).home m r) (head_at s r)
  region_heads r l = elim (cases_Bool (eqb r (slot_at s t).home)) [
    | inl b ↦ (let e = eqb-true r (slot_at s t).home b in
        rw b (ap (slot_head r) (ap (region_slot (replaced s t by m news more)) e ∙ region_here) ∙ (slot_marked m r (region_slot s (slot_at s t).home) ∙ ap (λ n. mark_head m (slot_head r (region_slot s n))) (sym e))))
    | inr b ↦ rw b (ap (slot_head r) (region_other r l (λ e. both_ways (eqb r (slot_at s t).home) b (eq-eqb r (slot_at s t).home e))))
  ]

  pub carried_head : (p : ℕ) → (slot_at s t).home < p → p < length s.regions → head_at (replaced s t by m news more) p ≡ head_at s p
  carried_head p a l = ap (slot_head p) (region_other p l (λ e. omega (arith, e, a)))

  -- What a region inside of the item's holds stays as it is.
  pub carried : (n p : ℕ) → (slot_at s t).home < p → p < length s.regions → length (replaced s t by m news more).regions ≤ n + p → region_entries (replaced s t by m news more) n p ≡ entries_at s p
  carried n p a l b =
      region_edited s (replaced s t by m news more) (λ u. None) (λ r. None) (suc (slot_at s t).home) sound
      (record {
        items = let e = item_count in omega (arith, e);
        regions = let e = region_count in omega (arith, e);
        kept = λ u l o p. at_other u l (λ e. let f = ap (λ n. (slot_at s n).home) e in omega (arith, f, o));
        heads = λ r l o. ap (slot_head r) (region_other r l (λ e. omega (arith, e, o)));
        roots = λ r l o. same_region_roots r l;
        lived = λ u e l p. absurd (no_some e p);
        news = λ u e l o p n m a b rest. absurd (no_some e p);
      }) (length s.regions) n p a (omega arith) b l
      ∙ same_edited (region_entries s (length s.regions) p)
    where
      no_some : (e : Entries) → None ≡ Some e → ⊥
      no_some e p = cc

  in_old : (from home : ℕ) (ids : List ℕ) → AreIn s from home ids → AreIn (replaced s t by m news more) from home ids
  in_old from home [] a = tt
  in_old from home (u ∷ us) a = (a.0, (let e = item_count in let l = a.1 in omega (arith, e, l)), same_home u a.1 ∙ a.2, in_old from home us a.3)

  inner_old : (home r : ℕ) → IsInner s home r → IsInner (replaced s t by m news more) home r
  inner_old home r a = (a.0, let e = region_count in let l = a.1 in omega (arith, e, l))

  second_old : (home : ℕ) (k : Holder) (q : Option ℕ) → SecondFits s home k q → SecondFits (replaced s t by m news more) home k q
  second_old home k None a = a
  second_old home k (Some q) a = (a.0, inner_old home q a.1)

  what_old : (home u : ℕ) (w : What) → WhatFits s home u w → WhatFits (replaced s t by m news more) home u w
  what_old home u (bare l) a = tt
  what_old home u (holds k r q) a = (inner_old home r a.0, second_old home k q a.1)
  what_old home u (gone ids) a = in_old (suc u) home ids a

  -- the new slots, from the one at this place on
  new_slots : (pre xs : List Slot) → pre ++ xs ≡ (replaced s t by m news more).slots → NewFit (replaced s t by m news more) (length pre) xs
      → (u : ℕ) → length pre ≤ u → u < length (replaced s t by m news more).slots → ((slot_at (replaced s t by m news more) u).home < length (replaced s t by m news more).regions) × WhatFits (replaced s t by m news more) (slot_at (replaced s t by m news more) u).home u (slot_at (replaced s t by m news more) u).what
  new_slots pre [] e f u a b = absurd (let c = ap length (sym (append-nil pre) ∙ e) in omega (arith, c, a, b))
  new_slots pre (x ∷ xs) e f u a b = elim (cases_eq u (length pre)) [
    | inl o ↦ (let at : slot_at (replaced s t by m news more) u ≡ x = ap (slot_at (replaced s t by m news more)) o ∙ (ap (λ l. get_or l (length pre) (record { home = 0; what = gone [] })) (sym e) ∙ get_or-append_seam pre x xs (record { home = 0; what = gone [] })) in
        subst (λ (y : Slot). (y.home < length (replaced s t by m news more).regions) × WhatFits (replaced s t by m news more) y.home u y.what) (sym at)
        (subst (λ n. (x.home < length (replaced s t by m news more).regions) × WhatFits (replaced s t by m news more) x.home n x.what) (sym o) f.0))
    | inr o ↦ (let c = length-append pre (x ∷ []) in
        new_slots (pre ++ x ∷ []) xs (append_assoc pre (x ∷ []) xs ∙ e) (subst (λ n. NewFit (replaced s t by m news more) n xs) (let d : suc (length pre) ≡ length (pre ++ x ∷ []) = omega (arith, c) in d) f.1) u (omega (arith, c, o, a)) b)
  ]

  new_regions : (pre xs : List RegionSlot) → pre ++ xs ≡ (replaced s t by m news more).regions → NewRegionsFit (replaced s t by m news more) (length pre) xs
      → (r : ℕ) → length pre ≤ r → r < length (replaced s t by m news more).regions → AreIn (replaced s t by m news more) 0 r (region_slot (replaced s t by m news more) r).roots
  new_regions pre [] e f u a b = absurd (let c = ap length (sym (append-nil pre) ∙ e) in omega (arith, c, a, b))
  new_regions pre (x ∷ xs) e f u a b = elim (cases_eq u (length pre)) [
    | inl o ↦ (let at : region_slot (replaced s t by m news more) u ≡ x = ap (region_slot (replaced s t by m news more)) o ∙ (ap (λ l. get_or l (length pre) (record { ends = false; goes = false; roots = [] })) (sym e) ∙ get_or-append_seam pre x xs (record { ends = false; goes = false; roots = [] })) in
        subst (λ (y : RegionSlot). AreIn (replaced s t by m news more) 0 u y.roots) (sym at) (subst (λ n. AreIn (replaced s t by m news more) 0 n x.roots) (sym o) f.0))
    | inr o ↦ (let c = length-append pre (x ∷ []) in
        new_regions (pre ++ x ∷ []) xs (append_assoc pre (x ∷ []) xs ∙ e) (subst (λ n. NewRegionsFit (replaced s t by m news more) n xs) (let d : suc (length pre) ≡ length (pre ++ x ∷ []) = omega (arith, c) in d) f.1) u (omega (arith, c, o, a)) b)
  ]

  -- The slots stay sound.
  pub sound_after : AreIn (replaced s t by m news more) (suc t) (slot_at s t).home by → NewFit (replaced s t by m news more) (length s.slots) news → NewRegionsFit (replaced s t by m news more) (length s.regions) more → IsOrdered (replaced s t by m news more)
  sound_after a f g = record {
    items = λ u l. elim (cases_lt u (length s.slots)) [
      | inl o ↦ elim (cases_eq u t) [
        | inl e ↦ (let c = region_count in let h = (sound.items t within).0 in
            subst (λ n. ((slot_at (replaced s t by m news more) n).home < length (replaced s t by m news more).regions) × WhatFits (replaced s t by m news more) (slot_at (replaced s t by m news more) n).home n (slot_at (replaced s t by m news more) n).what) (sym e)
            (subst (λ (x : Slot). (x.home < length (replaced s t by m news more).regions) × WhatFits (replaced s t by m news more) x.home t x.what) (sym at_item) (omega (arith, c, h), a)))
        | inr n ↦ (let c = region_count in let h = (sound.items u o).0 in
            subst (λ (x : Slot). (x.home < length (replaced s t by m news more).regions) × WhatFits (replaced s t by m news more) x.home u x.what) (sym (at_other u o n)) (omega (arith, c, h), what_old (slot_at s u).home u (slot_at s u).what (sound.items u o).1))
      ]
      | inr o ↦ new_slots (slice_set s.slots t (record { home = (slot_at s t).home; what = gone by })) news refl
          (subst (λ n. NewFit (replaced s t by m news more) n news) (sym (length-set s.slots t (record { home = (slot_at s t).home; what = gone by }))) f) u
          (let e = length-set s.slots t (record { home = (slot_at s t).home; what = gone by }) in omega (arith, e, o)) l
    ];
    regions = λ r l. elim (cases_lt r (length s.regions)) [
      | inl o ↦ subst (AreIn (replaced s t by m news more) 0 r) (sym (same_region_roots r o)) (in_old 0 r (region_slot s r).roots (sound.regions r o))
      | inr o ↦ new_regions (slice_set s.regions (slot_at s t).home (marked_slot m (region_slot s (slot_at s t).home))) more refl
          (subst (λ n. NewRegionsFit (replaced s t by m news more) n more) (sym (length-set s.regions (slot_at s t).home (marked_slot m (region_slot s (slot_at s t).home)))) g) r
          (let e = length-set s.regions (slot_at s t).home (marked_slot m (region_slot s (slot_at s t).home)) in omega (arith, e, o)) l
    ];
    root = let e = region_count in let r = sound.root in omega (arith, e, r);
  }

  -- and follow, where the new items give these entries
  pub follows_after : (e : Entries) → IsLive (slot_at s t).what
      → ((n k : ℕ) → length (replaced s t by m news more).regions ≤ n + suc (slot_at s t).home → length (replaced s t by m news more).slots ≤ k + suc t → (rest : Entries)
      → in_order (item_entries (replaced s t by m news more) (region_entries (replaced s t by m news more) n) k) by rest ≡ append e rest)
      → Follows 0 s (replaced s t by m news more) (one_place t e) (one_mark (slot_at s t).home m)
  follows_after e live given = record {
    items = let c = item_count in omega (arith, c);
    regions = let c = region_count in omega (arith, c);
    kept = λ u l o p. at_other u l (λ c. no_place u (eq-eqb u t c) p);
    heads = λ r l o. region_heads r l;
    roots = λ r l o. same_region_roots r l;
    lived = λ u x l p. let (c, d) = placed u x p in subst (λ n. IsLive (slot_at s n).what) (sym c) live;
    news = λ u x l o p n k a b rest. let (c, d) = placed u x p in news_there u x c d n k (subst (λ i. length (replaced s t by m news more).regions ≤ n + suc (slot_at s i).home) c a) b rest;
  }
    where
      no_place : (u : ℕ) → eqb u t ≡ true → one_place t e u ≡ None → ⊥
      no_place u c p = let q : Some e ≡ None = rw c at p in no_some q
        where
          no_some : Some e ≡ None → ⊥
          no_some q = cc

      placed : (u : ℕ) (x : Entries) → one_place t e u ≡ Some x → (u ≡ t) × (e ≡ x)
      placed u x p = elim (cases_Bool (eqb u t)) [
        | inl c ↦ (eqb-true u t c, same (rw c at p))
        | inr c ↦ absurd (no_some (rw c at p))
      ]
        where
          no_some : None ≡ Some x → ⊥
          no_some q = cc

          same : Some e ≡ Some x → e ≡ x
          same q = cc

      by_fuel : (n k : ℕ) → length (replaced s t by m news more).regions ≤ n + suc (slot_at s t).home → length (replaced s t by m news more).slots ≤ k + t → (rest : Entries) → item_entries (replaced s t by m news more) (region_entries (replaced s t by m news more) n) k t rest ≡ append e rest
      by_fuel n zero a b rest = absurd (let c = item_count in omega (arith, b, c, within))
      by_fuel n (suc k) a b rest =
          ap (λ (x : Slot). of_what (replaced s t by m news more) (region_entries (replaced s t by m news more) n) (item_entries (replaced s t by m news more) (region_entries (replaced s t by m news more) n) k) t x.what rest) at_item
          ∙ given n k a (omega (arith, b)) rest

      news_there : (u : ℕ) (x : Entries) → u ≡ t → e ≡ x → (n k : ℕ) → length (replaced s t by m news more).regions ≤ n + suc (slot_at s t).home → length (replaced s t by m news more).slots ≤ k + u → (rest : Entries)
          → item_entries (replaced s t by m news more) (region_entries (replaced s t by m news more) n) k u rest ≡ append x rest
      news_there u x c d n k a b rest =
          ap (λ i. item_entries (replaced s t by m news more) (region_entries (replaced s t by m news more) n) k i rest) c
          ∙ (by_fuel n k a (omega (arith, b, c)) rest ∙ ap (λ i. append i rest) d)
