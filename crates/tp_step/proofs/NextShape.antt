-- Slots that are those of numbered entries stand for these entries, and are in order.
use Rattle.std.proofs.Common.{◌≡◌, ℕ, zero, suc, ◌+◌, ◌≤◌, ◌<◌, Bool, true, false, cond, eqb, List, [], ◌∷◌, map, length, get_or, Some, None, refl, ap, sym, ◌∙◌, subst, arith, inl, inr}
use Rattle.std.proofs.lemmas.Bool.{cases_eq, cases_lt, both_ways, eq-eqb, ne_eqb, or_left, or_right}
use Rattle.std.proofs.lemmas.List.{length-map, get_or-map}
use Rattle.tp_scene.specs.Scene.{Head, new_head, Holder, Split, SplitProject, Closed, Opened, Running, Entries, none, leaf, node, no_region}
use Rattle.tp_scene.specs.Fits.{second_number}
use Rattle.tp_scene.proofs.Count.{count, count_none, count_first, one_else}
use Rattle.tp_scene.proofs.PutNumbers.{items, regions, items_leaf, items_node, regions_node}
use Rattle.tp_slots.specs.Plain.{What, bare, holds, Slot, RegionSlot, Slots, slot_at, region_slot, head_at, other_head, second_of, in_order, of_what, item_entries, region_entries, entries_at, has_second, IsInner, AreIn, SecondFits, WhatFits}
use Rattle.tp_slots.specs.Places.{holder_at, HeldBy, HoldsByNumber}
use Rattle.tp_slots.specs.Lives.{has_own}
use Rattle.tp_slots.specs.Own.{own_ids}
use Rattle.tp_step.specs.Successors.{FullRegion, unmarked_region}

abbrev pub slots_with : List Slot → List FullRegion → Slots
slots_with ss rs = record { slots = ss; regions = map (λ x. x.slot) rs }

abbrev pub holders_with : List FullRegion → List ℕ
holders_with rs = map (λ x. x.holder) rs

abbrev pub no_second : Head → Entries → Type 0
no_second g second = (g ≡ no_region) × (second ≡ none)

-- a second region without marks where there is one, and else nothing
abbrev pub SecondIsPlain : Bool → Head → Entries → Type 0
SecondIsPlain true g second = g ≡ new_head g.number
SecondIsPlain false g second = no_second g second

-- No region among these entries is marked.
abbrev pub AreUnmarked : Entries → Type 0
AreUnmarked none = Unit {0}
AreUnmarked (leaf id l rest) = AreUnmarked rest
AreUnmarked (node id k h held g second rest) = (h ≡ new_head h.number) × SecondIsPlain (has_second k) g second × AreUnmarked held × AreUnmarked second × AreUnmarked rest

module _ (ss : List Slot) (rs : List FullRegion) where
  abbrev pub z : Slots
  z = slots_with ss rs

  abbrev pub hs : List ℕ
  hs = holders_with rs

  -- the region with this head and these entries has its place in the list, inside of `home`, and is held by the item `id`
  pub record IsStoredRegion (home id : ℕ) (h : Head) (held : Entries) : Type 0 where
    pub above : home < h.number
    pub within : h.number < length rs
    pub is : get_or rs h.number (unmarked_region 0 []) ≡ unmarked_region id (own_ids held)
    pub plain_head : h ≡ new_head h.number

  abbrev pub IsStoredSecond : Bool → (home id first : ℕ) → Head → Entries → Type 0
  IsStoredSecond true home id first g second = IsStoredRegion home id g second × (first < g.number)
  IsStoredSecond false home id first g second = no_second g second

  pub record IsStoredItem (home id : ℕ) (w : What) : Type 0 where
    pub within : id < length ss
    pub is : slot_at z id ≡ record { home = home; what = w }

  -- The entries of the region `home` have their places in the lists.
  abbrev pub AreStored : (home : ℕ) → Entries → Type 0
  AreStored home none = Unit {0}
  AreStored home (leaf id l rest) = IsStoredItem home id (bare l) × AreStored home rest
  AreStored home (node id k h held g second rest) =
      IsStoredItem home id (holds k h.number (cond (has_second k) (Some g.number) None)) × IsStoredRegion home id h held × IsStoredSecond (has_second k) home id h.number g second
      × AreStored h.number held × AreStored g.number second × AreStored home rest

  region_count : length z.regions ≡ length rs
  region_count = length-map rs (λ x. x.slot)

  region_there : (home id : ℕ) (h : Head) (held : Entries) → IsStoredRegion home id h held → region_slot z h.number ≡ record { ends = false; goes = false; roots = own_ids held }
  region_there home id h held x =
      get_or-map (λ (y : FullRegion). y.slot) rs h.number (unmarked_region 0 []) (record { ends = false; goes = false; roots = [] }) x.within ∙ ap (λ (y : FullRegion). y.slot) x.is

  head_there : (home id : ℕ) (h : Head) (held : Entries) → IsStoredRegion home id h held → head_at z h.number ≡ h
  head_there home id h held x = ap (λ (y : RegionSlot). record { number = h.number; ends = y.ends; goes = y.goes }) (region_there home id h held x) ∙ sym x.plain_head

  holder_there : (home id : ℕ) (h : Head) (held : Entries) → IsStoredRegion home id h held → holder_at hs h.number ≡ id
  holder_there home id h held x = get_or-map (λ (y : FullRegion). y.holder) rs h.number (unmarked_region 0 []) 0 x.within ∙ ap (λ (y : FullRegion). y.holder) x.is

  -- what is read of them
  read_region : (home n id : ℕ) (h : Head) (held : Entries) → IsStoredRegion home id h held → length rs ≤ n + suc home → 0 < length ss
      → ((n' : ℕ) → length rs ≤ n' + suc h.number → in_order (item_entries z (region_entries z n') (length ss)) (own_ids held) none ≡ held) → region_entries z n h.number ≡ held
  read_region home zero id h held x a l y = absurd (let b = x.above in let c = x.within in omega (arith, a, b, c))
  read_region home (suc n) id h held x a l y =
      ap (λ (e : RegionSlot). in_order (item_entries z (region_entries z n) (length ss)) e.roots none) (region_there home id h held x)
      ∙ y n (let b = x.above in omega (arith, a, b))

  read_second : (home n id first : ℕ) (b : Bool) (g : Head) (second : Entries) → IsStoredSecond b home id first g second → length rs ≤ n + suc home → 0 < length ss
      → ((n' : ℕ) → length rs ≤ n' + suc g.number → in_order (item_entries z (region_entries z n') (length ss)) (own_ids second) none ≡ second)
      → (other_head z (cond b (Some g.number) None) ≡ g) × (second_of (region_entries z n) (cond b (Some g.number) None) ≡ second)
  read_second home n id first true g second x a l y = (head_there home id g second x.0, read_region home n id g second x.0 a l y)
  read_second home n id first false g second x a l y = (sym x.0, sym x.1)

  pub read_items : (home n m : ℕ) (es : Entries) → AreStored home es → length rs ≤ n + suc home → length ss ≤ m → in_order (item_entries z (region_entries z n) m) (own_ids es) none ≡ es
  read_items home n zero none a b l = refl
  read_items home n zero (leaf id i rest) a b l = absurd (let c = a.0.within in omega (arith, c, l))
  read_items home n zero (node id k h held g second rest) a b l = absurd (let c = a.0.within in omega (arith, c, l))
  read_items home n (suc m) none a b l = refl
  read_items home n (suc m) (leaf id l rest) a b c =
      ap (λ (x : Slot). of_what z (region_entries z n) (item_entries z (region_entries z n) m) id x.what (in_order (item_entries z (region_entries z n) (suc m)) (own_ids rest) none)) a.0.is
      ∙ ap (leaf id l) (read_items home n (suc m) rest a.1 b c)
  read_items home n (suc m) (node id k h held g second rest) a b c =
      let d = region_entries z n in
      let i = a.0.within in
      let some : 0 < length ss = omega (arith, i) in
      let r = read_items home n (suc m) rest a.5 b c in
      let x = head_there home id h held a.1 in
      let y = read_region home n id h held a.1 b some (λ n' l. read_items h.number n' (length ss) held a.3 l (omega arith)) in
      let q = read_second home n id h.number (has_second k) g second a.2 b some (λ n' l. read_items g.number n' (length ss) second a.4 l (omega arith)) in
      let u = q.0 in
      let v = q.1 in
      ap (λ (x : Slot). of_what z d (item_entries z d m) id x.what (in_order (item_entries z d (suc m)) (own_ids rest) none)) a.0.is
      ∙ (λ j. node id k (x j) (y j) (u j) (v j) (r j))

  -- what holds for the slot of an item
  pub record IsItemRight (t : ℕ) : Type 0 where
    pub home : (slot_at z t).home < length z.regions
    pub fits : WhatFits z (slot_at z t).home t (slot_at z t).what
    pub own : has_own t (entries_at z (slot_at z t).home) ≡ true
    pub held : HeldBy hs t (slot_at z t).what

  -- and for a region that an item holds
  pub record IsRegionRight (r : ℕ) : Type 0 where
    pub roots : AreIn z 0 r (region_slot z r).roots
    pub inside : holder_at hs r < length ss
    pub holder : HoldsByNumber (slot_at z (holder_at hs r)).what r

  inner : (home id : ℕ) (h : Head) (held : Entries) → IsStoredRegion home id h held → IsInner z home h.number
  inner home id h held x = (x.above, (let a = x.within in let c = region_count in omega (arith, a, c)))

  pub own_stored : (home : ℕ) (es : Entries) → AreStored home es → AreIn z 0 home (own_ids es)
  own_stored home none a = tt
  own_stored home (leaf id l rest) a = (omega arith, a.0.within, ap (λ (x : Slot). x.home) a.0.is, own_stored home rest a.1)
  own_stored home (node id k h held g second rest) a = (omega arith, a.0.within, ap (λ (x : Slot). x.home) a.0.is, own_stored home rest a.5)

  pub region_read : (home id : ℕ) (h : Head) (held : Entries) → IsStoredRegion home id h held → AreStored h.number held → 0 < length ss → entries_at z h.number ≡ held
  region_read home id h held x a l =
      read_region home (length z.regions) id h held x (let c = region_count in omega (arith, c)) l (λ n b. read_items h.number n (length ss) held a b (omega arith))

  second_fits : (home id first : ℕ) (k : Holder) (b : Bool) (g : Head) (second : Entries) → has_second k ≡ b → IsStoredSecond b home id first g second → SecondFits z home k (cond b (Some g.number) None)
  second_fits home id first k true g second e x = (e, inner home id g second x.0)
  second_fits home id first k false g second e x = e

  second_held : (home id : ℕ) (k : Holder) (b : Bool) (h g : Head) (held second : Entries) → IsStoredRegion home id h held → IsStoredSecond b home id h.number g second
      → HeldBy hs id (holds k h.number (cond b (Some g.number) None))
  second_held home id k true h g held second x y = (holder_there home id h held x, (holder_there home id g second y.0, ne_eqb h.number g.number (λ e. let a = y.1 in omega (arith, e, a))))
  second_held home id k false h g held second x y = (holder_there home id h held x, tt)

  right_here : (home id : ℕ) (w : What) (all : Entries) → IsStoredItem home id w → entries_at z home ≡ all → has_own id all ≡ true → home < length rs → WhatFits z home id w → HeldBy hs id w → IsItemRight id
  right_here home id w all x e o l f h = record {
    home = subst (λ (y : Slot). y.home < length z.regions) (sym x.is) (let c = region_count in omega (arith, c, l));
    fits = subst (λ (y : Slot). WhatFits z y.home id y.what) (sym x.is) f;
    own = subst (λ (y : Slot). has_own id (entries_at z y.home) ≡ true) (sym x.is) (ap (has_own id) e ∙ o);
    held = subst (λ (y : Slot). HeldBy hs id y.what) (sym x.is) h;
  }

  found_second : (home id first : ℕ) (b : Bool) (g : Head) (second : Entries) → IsStoredSecond b home id first g second → AreStored g.number second → 0 < length ss → (t : ℕ) → 1 ≤ items t second
      → (g.number < length rs → entries_at z g.number ≡ second → IsItemRight t) → IsItemRight t
  found_second home id first true g second x a l t c y = y x.0.within (region_read home id g second x.0 a l)
  found_second home id first false g second x a l t c y = absurd (let d = ap (items t) x.1 in let n = count_none t in omega (arith, c, d, n))

  pub item_found : (home : ℕ) (es all : Entries) → AreStored home es → ((x : ℕ) → has_own x es ≡ true → has_own x all ≡ true) → entries_at z home ≡ all → home < length rs → (t : ℕ) → 1 ≤ items t es → IsItemRight t
  item_found home none all a o e l t c = absurd (let d = count_none t in omega (arith, c, d))
  item_found home (leaf id i rest) all a o e l t c = elim (cases_eq id t) [
    | inl f ↦ subst IsItemRight f (right_here home id (bare i) all a.0 e (o id (or_left (eqb id id) _ (eq-eqb id id refl))) l tt tt)
    | inr f ↦ (let d = items_leaf t id i rest in
        let n = one_else t id (λ x. f (sym x)) in
        item_found home rest all a.1 (λ x y. o x (or_right (eqb id x) _ y)) e l t (omega (arith, c, d, n)))
  ]
  item_found home (node id k h held g second rest) all a o e l t c =
      let some : 0 < length ss = let i = a.0.within in omega (arith, i) in
      let d = items_node t id k h held g second rest in
      elim (cases_eq id t) [
        | inl f ↦ subst IsItemRight f (right_here home id (holds k h.number (cond (has_second k) (Some g.number) None)) all a.0 e (o id (or_left (eqb id id) _ (eq-eqb id id refl))) l
            (inner home id h held a.1, second_fits home id h.number k (has_second k) g second refl a.2) (second_held home id k (has_second k) h g held second a.1 a.2))
        | inr f ↦ elim (cases_lt 0 (items t held)) [
          | inl i ↦ item_found h.number held held a.3 (λ x y. y) (region_read home id h held a.1 a.3 some) a.1.within t i
          | inr i ↦ elim (cases_lt 0 (items t second)) [
            | inl j ↦ found_second home id h.number (has_second k) g second a.2 a.4 some t j (λ r u. item_found g.number second second a.4 (λ x y. y) u r t j)
            | inr j ↦ (let n = one_else t id (λ x. f (sym x)) in
                item_found home rest all a.5 (λ x y. o x (or_right (eqb id x) _ y)) e l t (omega (arith, c, d, n, i, j)))
          ]
        ]
      ]

  region_right : (home id : ℕ) (w : What) (h : Head) (held : Entries) → IsStoredItem home id w → IsStoredRegion home id h held → AreStored h.number held → HoldsByNumber w h.number → IsRegionRight h.number
  region_right home id w h held i x a b = record {
    roots = subst (AreIn z 0 h.number) (sym (ap (λ (y : RegionSlot). y.roots) (region_there home id h held x))) (own_stored h.number held a);
    inside = subst (λ j. j < length ss) (sym (holder_there home id h held x)) i.within;
    holder = subst (λ j. HoldsByNumber (slot_at z j).what h.number) (sym (holder_there home id h held x)) (subst (λ (y : Slot). HoldsByNumber y.what h.number) (sym i.is) b);
  }

  second_named : (r : ℕ) (k : Holder) (g : Head) → 1 ≤ count r (second_number k g) → (has_second k ≡ true) × (g.number ≡ r)
  second_named r k g c = by_kind k c
    where
      one_named : 1 ≤ count r (g.number ∷ []) → g.number ≡ r
      one_named c = elim (cases_eq g.number r) [
        | inl e ↦ e
        | inr e ↦ absurd (let a = count_first r g.number [] in let b = count_none r in let n = one_else r g.number (λ x. e (sym x)) in omega (arith, a, b, c, n))
      ]

      by_kind : (k : Holder) → 1 ≤ count r (second_number k g) → (has_second k ≡ true) × (g.number ≡ r)
      by_kind (Split f env) c = absurd (let b = count_none r in omega (arith, b, c))
      by_kind (SplitProject f env) c = (refl, one_named c)
      by_kind Closed c = absurd (let b = count_none r in omega (arith, b, c))
      by_kind (Opened f env) c = absurd (let b = count_none r in omega (arith, b, c))
      by_kind (Running f env) c = (refl, one_named c)

  second_right : (home id : ℕ) (k : Holder) (b : Bool) (h g : Head) (second : Entries) → b ≡ true → IsStoredItem home id (holds k h.number (cond b (Some g.number) None)) → IsStoredSecond b home id h.number g second → AreStored g.number second → IsRegionRight g.number
  second_right home id k true h g second e i x a = region_right home id (holds k h.number (Some g.number)) g second i x.0 a (inr refl)
  second_right home id k false h g second e i x a = absurd (both_ways false refl e)

  pub region_found : (home : ℕ) (es : Entries) → AreStored home es → (r : ℕ) → 1 ≤ regions r es → IsRegionRight r
  region_found home none a r c = absurd (let d = count_none r in omega (arith, c, d))
  region_found home (leaf id i rest) a r c = region_found home rest a.1 r c
  region_found home (node id k h held g second rest) a r c =
      let d = regions_node r id k h held g second rest in
      elim (cases_eq h.number r) [
        | inl e ↦ subst IsRegionRight e (region_right home id (holds k h.number (cond (has_second k) (Some g.number) None)) h held a.0 a.1 a.3 (inl refl))
        | inr e ↦ elim (cases_lt 0 (regions r held)) [
          | inl i ↦ region_found h.number held a.3 r i
          | inr i ↦ elim (cases_lt 0 (count r (second_number k g))) [
            | inl j ↦ (let n = second_named r k g j in subst IsRegionRight n.1 (second_right home id k (has_second k) h g second n.0 a.0 a.2 a.4))
            | inr j ↦ elim (cases_lt 0 (regions r second)) [
              | inl u ↦ region_found g.number second a.4 r u
              | inr u ↦ (let n = one_else r h.number (λ x. e (sym x)) in region_found home rest a.5 r (omega (arith, c, d, n, i, j, u)))
            ]
          ]
        ]
      ]
