-- A step keeps the slots well kept.
use Rattle.std.proofs.Common.{◌≡◌, ℕ, zero, suc, ◌+◌, ◌-◌, ◌≤◌, ◌<◌, ◌||◌, ◌&&◌, true, false, eqb, List, [], ◌∷◌, ◌++◌, map, length, get_or, Option, Some, None, refl, ap, sym, ◌∙◌, subst, arith, inl, inr}
use Rattle.std.specs.Prelude.{IfSome, ◌⊎◌}
use Rattle.std.specs.List.{range_with_len}
use Rattle.std.proofs.lemmas.Bool.{cases_Bool, cases_eq, cases_lt, both_ways, false_from_ne_true, and_parts, and_from}
use Rattle.std.proofs.lemmas.List.{get_or_append_left, length-append, length-map}
use Rattle.tp_scene.specs.Scene.{Side, marked, Entries, append, has}
use Rattle.tp_scene.specs.Step.{Reduction}
use Rattle.tp_scene.specs.Pick.{put, scene_after}
use Rattle.tp_scene.specs.Fits.{AreNumbers, item_numbers, region_numbers}
use Rattle.tp_scene.proofs.Count.{count_first}
use Rattle.tp_scene.proofs.PutNumbers.{between, between_in, between_before, between_after, items, regions}
use Rattle.tp_scene.proofs.StepsFit.{once_more}
use Rattle.tp_slots.specs.Plain.{What, bare, holds, gone, Slot, RegionSlot, Slots, slot_at, region_slot, entries_at, scene_in, IsLive, WhatFits, IsOrdered}
use Rattle.tp_slots.specs.Edit.{edited_entries, one_place, one_mark, Follows}
use Rattle.tp_slots.specs.Places.{holder_at, HeldBy, HoldsByNumber, AreHeld}
use Rattle.tp_slots.specs.Lives.{has_own, leads_to, lives_in, HasOwn}
use Rattle.tp_slots.specs.Flags.{Flags, FlagsAreRight, risen_by, FlagHolds, rises_what, FlagsFollow}
use Rattle.tp_slots.specs.Kept.{IsNumberedOnce, IsShaped, IsQuiet}
use Rattle.tp_slots.specs.Row.{slots_in, begun, stepped, held_after}
use Rattle.tp_slots.specs.Threads.{after_at, AreLinked, IsLinked, AreLast, AreThreaded, afters_then}
use Rattle.tp_slots.proofs.Read.{region_edited}
use Rattle.tp_slots.proofs.Showing.{all_shown, has_shown}
use Rattle.tp_slots.proofs.After.{scene_edited}
use Rattle.tp_slots.proofs.Replacing.{at_other, at_item}
use Rattle.tp_slots.proofs.Told.{told, rises_all, slot_there, told_own, told_rises, inner_items, inner_regions, told_items, told_regions}
use Rattle.tp_slots.proofs.Hold.{holds_it, one_holds, open_leads, open_at, all_count, all_unheld, holder_in, held_by_new, it_held}
use Rattle.tp_slots.proofs.Owning.{own_kept, own_placed}
use Rattle.tp_slots.proofs.Counting.{put_adds}
use Rattle.tp_slots.proofs.PlaceLemmas.{outer_less}
use Rattle.tp_slots.proofs.Living.{lives_outward, home_lives}
use Rattle.tp_slots.proofs.FlagRows.{row_follows}
use Rattle.tp_slots.proofs.Threading.{old_after, inner_last, outs_linked, what_still, last_still, bare_linked, fit_linked, begun_last}
use Rattle.tp_slots.proofs.Stepping.{region_new, IsStep, slot_count, stepped_regions, ordered, follows, new_region, new_region_head, inner_at, outs_at, outs_from, old_count, bare_fit, bare_rises, bare_held, fits_below, new_marked}

joined : (a b c x : ℕ) → a ≤ b → b ≤ c → between a b x + between b c x ≡ between a c x
joined a b c x u v = elim (cases_lt x a) [
  | inl l ↦ (let p = between_before a b x l in let q = between_before b c x (omega arith) in let r = between_before a c x l in omega (arith, p, q, r))
  | inr l ↦ elim (cases_lt x b) [
    | inl k ↦ (let p = between_in a b x l k in let q = between_before b c x k in let r = between_in a c x l (omega arith) in omega (arith, p, q, r))
    | inr k ↦ elim (cases_lt x c) [
      | inl j ↦ (let p = between_after a b x k in let q = between_in b c x k j in let r = between_in a c x l j in omega (arith, p, q, r))
      | inr j ↦ (let p = between_after a b x k in let q = between_after b c x j in let r = between_after a c x j in omega (arith, p, q, r))
    ]
  ]
]

module _ (s : Slots) (hs : List ℕ) (t : ℕ) (m : Option Side) (inner outs : List What) (shape : IsShaped s hs) (lives : has t (entries_at s 0) ≡ true) (step : IsStep s t m inner outs) where
  abbrev z : Slots
  z = stepped s t m inner outs

  abbrev home : ℕ
  home = (slot_at s t).home

  abbrev n : ℕ
  n = length s.slots

  abbrev hs' : List ℕ
  hs' = held_after s inner outs hs

  sound : IsOrdered s
  sound = shape.ordered

  there : (t < length s.slots) × IsLive (slot_at s t).what
  there = let h = has_shown s sound t 0 (entries_at s 0) (all_shown s sound 0 sound.root) lives in (h.0, h.2)

  within : t < length s.slots
  within = there.0

  ordered_then : IsOrdered z
  ordered_then = ordered s t m inner outs sound within step.bare step.fits

  abbrev made : Entries
  made = told z (n + length inner) outs

  followed : Follows 0 s z (one_place t made) (one_mark home m)
  followed = follows s t m inner outs sound within step.bare step.fits there.1

  count_then : length z.slots ≡ n + (length inner + length outs)
  count_then = slot_count s t m inner outs sound within

  pub regions_then : length z.regions ≡ length s.regions + length (begun n (length inner))
  regions_then = stepped_regions s t m inner outs sound within

  -- The scene is that after a reduction to these news.
  pub scene_then : (r : Reduction) → r.news ≡ made → r.items ≡ length inner + length outs → r.regions ≡ length (begun n (length inner)) → r.mark ≡ m → scene_in z ≡ scene_after t r (scene_in s)
  scene_then r a b c d =
      scene_edited s z t r sound lives shape.numbers.items shape.numbers.regions
      (subst (λ e. Follows 0 s z (one_place t e) (one_mark home r.mark)) (sym a) (subst (λ o. Follows 0 s z (one_place t made) (one_mark home o)) (sym d) followed))
      (count_then ∙ ap (λ i. n + i) (sym b)) (regions_then ∙ ap (λ i. length s.regions + i) (sym c))

  plain_reduction : Reduction
  plain_reduction = record { news = made; items = length inner + length outs; regions = length (begun n (length inner)); local = None; mark = m; facts = [] }

  entries_then : entries_at z 0 ≡ put t m made (entries_at s 0)
  unfolding plain_reduction
  entries_then = ap (λ c. c.root.entries) (scene_then plain_reduction refl refl refl refl)

  more_items : (x : ℕ) (rest : Entries) → items x (append made rest) ≤ inner_items s x (slot_at s t).what + between n (n + (length inner + length outs)) x + items x rest
  more_items x rest =
      let a = told_items z home x (n + length inner) outs rest step.fits in
      let b = step.items x in
      let c = between_parts n (length inner) (length outs) x in
      omega (arith, a, b, c)
    where
      between_parts : (a j l x : ℕ) → between a (a + j) x + between (a + j) (a + j + l) x ≡ between a (a + (j + l)) x
      between_parts a j l x =
          let e : a + j + l ≡ a + (j + l) = omega arith in
          ap (λ c. between a (a + j) x + between (a + j) c x) e ∙ joined a (a + j) (a + (j + l)) x (omega arith) (omega arith)

  more_regions : (x : ℕ) (rest : Entries) → regions x (append made rest) ≤ inner_regions s x (slot_at s t).what + between (length s.regions) (length s.regions + length (begun n (length inner))) x + regions x rest
  more_regions x rest =
      let a = told_regions z home x (n + length inner) outs rest step.fits in
      let b = step.regions x in
      omega (arith, a, b)

  numbers_then : IsNumberedOnce z
  numbers_then = record {
    items = subst (λ c. AreNumbers c (item_numbers (entries_at z 0))) (sym count_then)
        (once_more n (length inner + length outs) (item_numbers (entries_at s 0)) (item_numbers (entries_at z 0)) shape.numbers.items (λ x.
        let a = (put_adds s t x m made (between n (n + (length inner + length outs)) x) (between (length s.regions) (length s.regions + length (begun n (length inner))) x) (more_items x) (more_regions x) 0 (entries_at s 0) (all_shown s sound 0 sound.root)).items_then in
        let e = ap (items x) entries_then in
        omega (arith, a, e)));
    regions = subst (λ c. AreNumbers c (0 ∷ region_numbers (entries_at z 0))) (sym regions_then)
        (once_more (length s.regions) (length (begun n (length inner))) (0 ∷ region_numbers (entries_at s 0)) (0 ∷ region_numbers (entries_at z 0)) shape.numbers.regions (λ x.
        let a = (put_adds s t x m made (between n (n + (length inner + length outs)) x) (between (length s.regions) (length s.regions + length (begun n (length inner))) x) (more_items x) (more_regions x) 0 (entries_at s 0) (all_shown s sound 0 sound.root)).regions_then in
        let e = ap (regions x) entries_then in
        let b = count_first x 0 (region_numbers (entries_at s 0)) in
        let c = count_first x 0 (region_numbers (entries_at z 0)) in
        omega (arith, a, e, b, c)));
  }

  home_entries : (r : ℕ) → r < length s.regions → entries_at z r ≡ edited_entries (one_place t made) (one_mark home m) (entries_at s r)
  home_entries r l = region_edited s z (one_place t made) (one_mark home m) 0 sound followed (length s.regions) (length z.regions) r (omega arith) (omega arith) (omega arith) l

  -- the slot of a new item
  inner_slot : (x : ℕ) → n ≤ x → x < n + length inner → slot_at z x ≡ record { home = length s.regions; what = get_or inner (x - n) (gone []) }
  inner_slot x a b = slot_there z (length s.regions) n _ (slots_in home outs) inner x (inner_at s t m inner outs sound within) (sym (old_count s t m inner outs sound within)) a b

  out_slot : (x : ℕ) → n + length inner ≤ x → x < length z.slots → slot_at z x ≡ record { home = home; what = get_or outs (x - (n + length inner)) (gone []) }
  out_slot x a b = slot_there z home (n + length inner) _ [] outs x (outs_at s t m inner outs sound within) (outs_from s t m inner outs sound within) a (let c = count_then in omega (arith, b, c))

  old_slot : (x : ℕ) → x < n → (x ≡ t → ⊥) → slot_at z x ≡ slot_at s x
  old_slot x a c = at_other s t (range_with_len (n + length inner) (length outs)) m (slots_in (length s.regions) inner ++ slots_in home outs) (begun n (length inner)) sound within x a c

  gone_slot : slot_at z t ≡ record { home = home; what = gone (range_with_len (n + length inner) (length outs)) }
  gone_slot = at_item s t (range_with_len (n + length inner) (length outs)) m (slots_in (length s.regions) inner ++ slots_in home outs) (begun n (length inner)) sound within

  own_then : HasOwn z
  own_then x l i = elim (cases_lt x n) [
    | inl a ↦ elim (cases_eq x t) [
      | inl c ↦ absurd (subst (λ (y : Slot). IsLive y.what) (ap (slot_at z) c ∙ gone_slot) i)
      | inr c ↦ (let at = old_slot x a c in
          ap (λ (y : Slot). has_own x (entries_at z y.home)) at
          ∙ (ap (has_own x) (home_entries (slot_at s x).home (sound.items x a).0)
          ∙ own_kept t made (one_mark home m) x (entries_at s (slot_at s x).home) c (shape.own x a (subst (λ (y : Slot). IsLive y.what) at i))))
    ]
    | inr a ↦ elim (cases_lt x (n + length inner)) [
      | inl b ↦ ap (λ (y : Slot). has_own x (entries_at z y.home)) (inner_slot x a b)
          ∙ (ap (has_own x) (new_region s t m inner outs sound within step.bare step.fits (omega (arith, a, b)))
          ∙ told_own z (length s.regions) n x inner (bare_fit z (length s.regions) inner step.bare) a b)
      | inr b ↦ ap (λ (y : Slot). has_own x (entries_at z y.home)) (out_slot x b l)
          ∙ (ap (has_own x) (home_entries home (sound.items t within).0)
          ∙ own_placed t made (one_mark home m) x (entries_at s home) (shape.own t within there.1) (told_own z home (n + length inner) x outs step.fits b (let c = count_then in omega (arith, l, c))))
    ]
  ]

  -- holders
  held : AreHeld s hs
  held = shape.held

  added : List ℕ
  added = hs ++ map (λ x. 0) (begun n (length inner))

  added_count : length (hs ++ map (λ x. 0) (begun n (length inner))) ≡ length z.regions
  added_count =
      length-append hs (map (λ x. 0) (begun n (length inner)))
      ∙ (let a = held.count in let b = length-map {B = ℕ} (begun n (length inner)) (λ (x : RegionSlot). 0) in let c = regions_then in omega (arith, a, b, c))

  holder_stays : (r : ℕ) → r < length s.regions → one_holds outs r ≡ false → holder_at hs' r ≡ holder_at hs r
  holder_stays r l e =
      all_unheld (n + length inner) outs (hs ++ map (λ x. 0) (begun n (length inner))) r e
      ∙ get_or_append_left hs (map (λ x. 0) (begun n (length inner))) 0 r (let c = held.count in omega (arith, l, c))

  -- what t holds is held by t
  t_holds : (r : ℕ) → HoldsByNumber (slot_at s t).what r → holder_at hs r ≡ t
  t_holds r h = by_what (slot_at s t).what (held.by t within) h
    where
      by_second : (p : ℕ) (o : Option ℕ) → IfSome o (λ p'. (holder_at hs p' ≡ t) × (eqb p p' ≡ false)) → o ≡ Some r → holder_at hs r ≡ t
      by_second p None a e = absurd (cc)
      by_second p (Some q) a e = ap (holder_at hs) (same q e) ∙ a.0
        where
          same : (q : ℕ) → Some q ≡ Some r → r ≡ q
          same q e = cc

      by_what : (w : What) → HeldBy hs t w → HoldsByNumber w r → holder_at hs r ≡ t
      by_what (bare l) a h = absurd h
      by_what (gone ids) a h = absurd h
      by_what (holds k p o) a h = elim h [
        | inl e ↦ ap (holder_at hs) (sym e) ∙ a.0
        | inr e ↦ by_second p o a.1 e
      ]

  not_taken : (r u : ℕ) → r < length s.regions → holder_at hs r ≡ u → (u ≡ t → ⊥) → one_holds outs r ≡ false
  not_taken r u l e c = false_from_ne_true (one_holds outs r) (λ o. elim (step.taken r o) [
    | inl a ↦ omega (arith, a, l)
    | inr a ↦ c (sym e ∙ t_holds r a)
  ])

  stays : (u : ℕ) (w : What) (h : ℕ) → (u ≡ t → ⊥) → WhatFits s h u w → HeldBy hs u w → HeldBy hs' u w
  stays u (bare l) h c f b = tt
  stays u (gone ids) h c f b = tt
  stays u (holds k p None) h c f b = (holder_stays p f.0.1 (not_taken p u f.0.1 b.0 c) ∙ b.0, tt)
  stays u (holds k p (Some q)) h c f b =
      (holder_stays p f.0.1 (not_taken p u f.0.1 b.0 c) ∙ b.0, (holder_stays q f.1.1.1 (not_taken q u f.1.1.1 b.1.0 c) ∙ b.1.0, b.1.1))

  held_then : AreHeld z hs'
  held_then = record {
    count = all_count (n + length inner) outs (hs ++ map (λ x. 0) (begun n (length inner))) ∙ added_count;
    by = λ u l. elim (cases_lt u n) [
      | inl a ↦ elim (cases_eq u t) [
        | inl c ↦ subst (λ (y : Slot). HeldBy hs' u y.what) (sym (ap (slot_at z) c ∙ gone_slot)) tt
        | inr c ↦ subst (λ (y : Slot). HeldBy hs' u y.what) (sym (old_slot u a c)) (stays u (slot_at s u).what (slot_at s u).home c (sound.items u a).1 (held.by u a))
      ]
      | inr a ↦ elim (cases_lt u (n + length inner)) [
        | inl b ↦ subst (λ (y : Slot). HeldBy hs' u y.what) (sym (inner_slot u a b)) (bare_held hs' u (u - n) inner step.bare)
        | inr b ↦ subst (λ (y : Slot). HeldBy hs' u y.what) (sym (out_slot u b l))
            (subst (λ i. HeldBy hs' i (get_or outs (u - (n + length inner)) (gone []))) (let e : n + length inner + (u - (n + length inner)) ≡ u = omega (arith, b) in e)
            (held_by_new (n + length inner) outs (hs ++ map (λ x. 0) (begun n (length inner))) (u - (n + length inner)) step.apart (fits_below z home (length (hs ++ map (λ x. 0) (begun n (length inner)))) outs (sym added_count) step.fits)
            (let c = count_then in omega (arith, b, l, c))))
      ]
    ];
    holders = λ r o l. elim (cases_Bool (one_holds outs r)) [
      | inl e ↦ (let q = holder_in (n + length inner) outs (hs ++ map (λ x. 0) (begun n (length inner))) r step.apart e (let c = added_count in omega (arith, l, c)) in
          let i = q.1 in
          let c = count_then in
          let at = out_slot (n + length inner + q.0) (omega arith) (omega (arith, i, c)) in
          let back : n + length inner + q.0 - (n + length inner) ≡ q.0 = omega arith in (
            subst (λ h. h < length z.slots) (sym q.3) (omega (arith, i, c)),
            subst (λ h. HoldsByNumber (slot_at z h).what r) (sym q.3)
                (subst (λ (y : Slot). HoldsByNumber y.what r) (sym at) (subst (λ j. HoldsByNumber (get_or outs j (gone [])) r) (sym back) (it_held (get_or outs q.0 (gone [])) r q.2))),
          ))
      | inr e ↦ elim (cases_lt r (length s.regions)) [
        | inl a ↦ (let h = held.holders r o a in
            let b = h.0 in
            let c = count_then in
            let f = holder_stays r a e in
            let other : holder_at hs r ≡ t → ⊥ = λ g. both_ways (one_holds outs r) e (step.keeps r (subst (λ i. HoldsByNumber (slot_at s i).what r) g h.1)) in (
              subst (λ i. i < length z.slots) (sym f) (omega (arith, b, c)),
              subst (λ i. HoldsByNumber (slot_at z i).what r) (sym f) (subst (λ (y : Slot). HoldsByNumber y.what r) (sym (old_slot (holder_at hs r) h.0 other)) h.1),
            ))
        | inr a ↦ absurd (both_ways (one_holds outs r) e (step.begins r a l))
      ]
    ];
  }

  pub shape_then : IsShaped z hs'
  shape_then = record { ordered = ordered_then; numbers = numbers_then; own = own_then; held = held_then }

  -- what is visited after each item
  module _ (ns : List (Option ℕ)) (count : length ns ≡ n) (threads : AreThreaded s ns) where
    abbrev ns' : List (Option ℕ)
    ns' = afters_then ns (length inner) (length outs) t

    same_after : (k : ℕ) → k < n → after_at ns' k ≡ after_at ns k
    same_after k l = old_after ns (length inner) (length outs) t k (omega (arith, l, count))

    by_linked : AreLinked ns' (range_with_len (n + length inner) (length outs)) (after_at ns t)
    by_linked = subst (λ k. AreLinked ns' (range_with_len (k + length inner) (length outs)) (after_at ns t)) count (outs_linked ns (length inner) (length outs) t)

    items_linked : (x : ℕ) → x < length z.slots → IsLinked ns' x (slot_at z x).what
    items_linked x l = elim (cases_lt x n) [
      | inl a ↦ elim (cases_eq x t) [
        | inl c ↦ subst (λ (y : Slot). IsLinked ns' x y.what) (sym (ap (slot_at z) c ∙ gone_slot))
            (subst (AreLinked ns' (range_with_len (n + length inner) (length outs))) (sym (same_after x a ∙ ap (after_at ns) c)) by_linked)
        | inr c ↦ subst (λ (y : Slot). IsLinked ns' x y.what) (sym (old_slot x a c)) (what_still s ns ns' x (slot_at s x).what a same_after (sound.items x a).1 (threads.items x a))
      ]
      | inr a ↦ elim (cases_lt x (n + length inner)) [
        | inl b ↦ subst (λ (y : Slot). IsLinked ns' x y.what) (sym (inner_slot x a b)) (bare_linked ns' x (x - n) inner step.bare)
        | inr b ↦ subst (λ (y : Slot). IsLinked ns' x y.what) (sym (out_slot x b l)) (fit_linked z home ns' x (x - (n + length inner)) outs step.fits)
      ]
    ]

    roots_last : (r : ℕ) → r < length z.regions → AreLast ns' (region_slot z r).roots
    roots_last r l = elim (cases_lt r (length s.regions)) [
      | inl a ↦ subst (AreLast ns') (sym (followed.roots r a (omega arith))) (last_still s ns ns' 0 r (region_slot s r).roots same_after (sound.regions r a) (threads.roots r a))
      | inr a ↦ subst (λ (y : RegionSlot). AreLast ns' y.roots)
          (sym (region_new s t (range_with_len (n + length inner) (length outs)) m (slots_in (length s.regions) inner ++ slots_in home outs) (begun n (length inner)) (r - length s.regions) r (let e : r ≡ length s.regions + (r - length s.regions) = omega (arith, a) in e)))
          (begun_last ns' n (length inner) (r - length s.regions) (subst (λ k. AreLast ns' (range_with_len k (length inner))) count (inner_last ns (length inner) (length outs) t)))
    ]

    pub threads_then : AreThreaded z ns'
    threads_then = record { items = items_linked; roots = roots_last }

  -- flags
  pub flags_then : (y : Side) (f : Flags) → FlagsAreRight s y f → ((r : ℕ) → length s.regions ≤ r → f r ≡ false) → rises_all y f outs ≡ rises_what y f (slot_at s t).what → FlagsFollow z m home y f
  flags_then y f right low same =
      row_follows s z t made sound ordered_then f (sound.items t within).0 m followed y
      (λ rest. told_rises z home y f (n + length inner) outs rest step.fits ∙ ap (λ b. b || risen_by y f rest) same)
      new right
    where
      new : (r : ℕ) → length s.regions ≤ r → r < length z.regions → FlagHolds z y f r
      new r a l =
          let c = regions_then in
          let some : 0 < length inner = begins inner (omega (arith, c, a, l)) in
          let one = at_most_one inner in
          let e : length s.regions ≡ r = omega (arith, a, l, c, one) in
          subst (FlagHolds z y f) e (low (length s.regions) (omega arith)
          ∙ sym ((let x = ap (marked y) (new_region_head s t m inner outs sound within step.bare step.fits) ∙ new_marked y (length s.regions) in
          let u = ap (risen_by y f) (new_region s t m inner outs sound within step.bare step.fits some) ∙ bare_rises y f z n inner step.bare in
          λ i. x i || u i)))
        where
          begins : (ws : List What) → 0 < length (begun n (length ws)) → 0 < length ws
          begins [] l = l
          begins (w ∷ ws) l = omega arith

          at_most_one : (ws : List What) → length (begun n (length ws)) ≤ 1
          at_most_one [] = omega arith
          at_most_one (w ∷ ws) = omega arith

  -- What holds a region then that there was before: what did, or one of those that stand in the item's place, where the item did.
  abbrev pub HolderThen : ℕ → Type 0
  HolderThen r =
      (slot_at z (holder_at hs' r) ≡ slot_at s (holder_at hs r))
      ⊎ ((i : ℕ) × (slot_at z (holder_at hs' r) ≡ record { home = home; what = get_or outs i (gone []) }) × (holds_it (get_or outs i (gone [])) r ≡ true) × (holder_at hs r ≡ t))

  pub holder_then : (r : ℕ) → 0 < r → r < length s.regions → HolderThen r
  holder_then r a l = elim (cases_Bool (one_holds outs r)) [
    | inl f ↦ inr (let n' = regions_then in
        let q = holder_in (n + length inner) outs (hs ++ map (λ x. 0) (begun n (length inner))) r step.apart f (let k = added_count in omega (arith, l, n', k)) in
        let i = q.1 in
        let k = count_then in
        let at = out_slot (n + length inner + q.0) (omega arith) (omega (arith, i, k)) in
        let back : n + length inner + q.0 - (n + length inner) ≡ q.0 = omega arith in (
          q.0,
          ap (slot_at z) q.3 ∙ (at ∙ ap (λ j. record { home = home; what = get_or outs j (gone []) }) back),
          q.2,
          elim (step.taken r f) [ inl o ↦ absurd (omega (arith, o, l)) | inr o ↦ t_holds r o ],
        ))
    | inr f ↦ inl (let h = held.holders r a l in
        let o : holder_at hs r ≡ t → ⊥ = λ g. both_ways (one_holds outs r) f (step.keeps r (subst (λ i. HoldsByNumber (slot_at s i).what r) g h.1)) in
        ap (slot_at z) (holder_stays r l f) ∙ old_slot (holder_at hs r) h.0 o)
  ]

  -- what was live stays so
  pub lives_then : (d r : ℕ) → r < d → r < length s.regions → lives_in s hs r ≡ true → lives_in z hs' r ≡ true
  lives_then zero r a l e = absurd (omega (arith, a))
  lives_then (suc d) r a l e = elim (cases_eq r 0) [
    | inl c ↦ ap (lives_in z hs') c
    | inr c ↦ (let above : 0 < r = omega (arith, c) in
        let less = outer_less s hs sound held r above l in
        let u = and_parts (leads_to (slot_at s (holder_at hs r)).what r) (lives_in s hs (slot_at s (holder_at hs r)).home) (sym (lives_outward s hs sound held r above l) ∙ e) in
        let around = lives_then d (slot_at s (holder_at hs r)).home (omega (arith, a, less)) (omega (arith, l, less)) u.1 in
        let n' = regions_then in
        lives_outward z hs' ordered_then held_then r above (omega (arith, l, n'))
        ∙ elim (holder_then r above l) [
          | inl f ↦ ap (λ (y : Slot). leads_to y.what r && lives_in z hs' y.home) f ∙ and_from (leads_to (slot_at s (holder_at hs r)).what r) (lives_in z hs' (slot_at s (holder_at hs r)).home) u.0 around
          | inr q ↦ ap (λ (y : Slot). leads_to y.what r && lives_in z hs' y.home) q.1
              ∙ and_from (leads_to (get_or outs q.0 (gone [])) r) (lives_in z hs' home) (open_leads (get_or outs q.0 (gone [])) r (open_at outs q.0 step.open_ones) q.2)
              (ap (λ y. lives_in z hs' (slot_at s y).home) (sym q.3) ∙ around)
        ])
  ]

  pub home_lives_then : lives_in z hs' home ≡ true
  home_lives_then = lives_then (suc home) home (omega arith) (sound.items t within).0 (home_lives s hs sound held t lives)

  pub quiet_then : (f : Flags) → IsQuiet s hs f → ((r : ℕ) → length s.regions ≤ r → f r ≡ false) → IsQuiet z hs' f
  quiet_then f q low r l d = elim (cases_lt r (length s.regions)) [
    | inl a ↦ q r a (false_from_ne_true (lives_in s hs r) (λ e. both_ways (lives_in z hs' r) d (lives_then (suc r) r (omega arith) a e)))
    | inr a ↦ low r a
  ]
