-- The steps of each kind of item.
use Rattle.std.proofs.Common.{◌≡◌, ℕ, suc, ◌+◌, ◌≤◌, ◌<◌, ◌||◌, ◌&&◌, true, false, eqb, List, [], ◌∷◌, ◌++◌, length, Option, Some, None, refl, ap, sym, ◌∙◌, subst, arith, inl, inr}
use Rattle.std.specs.Prelude.{◌⊎◌}
use Rattle.std.proofs.lemmas.Bool.{eqb-true, eq-eqb, ne_eqb, or_cases, or_left, or_right, or_from, and_right, and_left, false≢true}
use Rattle.tp_meaning.specs.Syntax.{FormulaTree, more}
use Rattle.tp_scene.specs.Scene as S
use Rattle.tp_scene.specs.Scene.{Side, Ending, Going, Bindings, Head, new_head, no_region, Holder, Split, SplitProject, Closed, Opened, Running, Entries, none, leaf, node, rises, second_lives, split_then, closed_then, opened_then, running_then, Region}
use Rattle.tp_scene.specs.Fits.{second_number}
use Rattle.tp_scene.proofs.Count.{one_if, count, count_none, count_first}
use Rattle.tp_scene.proofs.PutNumbers.{between, between_first, between_none, items, regions, items_leaf}
use Rattle.tp_slots.specs.Plain.{What, bare, holds, gone, Slots, slot_at, head_at, entries_at, has_second, WhatFits, IsOrdered}
use Rattle.tp_slots.specs.Places.{HoldsByNumber}
use Rattle.tp_slots.specs.Flags.{Flags, rises_what}
use Rattle.tp_slots.specs.Reductions.{IsBare, AreBare, leaves_from}
use Rattle.tp_slots.specs.Row.{begun, slots_in, stepped}
use Rattle.std.specs.List.{range_with_len}
use Rattle.tp_slots.proofs.Replacing.{carried, carried_head}
use Rattle.tp_slots.proofs.Told.{told, ItemsFit, rises_all, inner_items, inner_regions, all_of}
use Rattle.tp_slots.proofs.Hold.{one_holds, AreApart, AreOpen}
use Rattle.tp_slots.proofs.Stepping.{IsStep, stepped_regions, new_region, new_region_head, bare_fit}

-- Leaves.
bare_apart : (ws : List What) → AreBare ws → AreApart ws
bare_apart [] b = tt
bare_apart (bare l ∷ ws) b = (tt, (λ r h. absurd (false≢true h)), bare_apart ws b.1)
bare_apart (holds k p o ∷ ws) b = absurd b.0
bare_apart (gone by ∷ ws) b = absurd b.0

bare_open : (ws : List What) → AreBare ws → AreOpen ws
bare_open [] b = tt
bare_open (bare l ∷ ws) b = (tt, bare_open ws b.1)
bare_open (holds k p o ∷ ws) b = absurd b.0
bare_open (gone by ∷ ws) b = absurd b.0

bare_none : (ws : List What) → AreBare ws → (r : ℕ) → one_holds ws r ≡ false
bare_none [] b r = refl
bare_none (bare l ∷ ws) b r = bare_none ws b.1 r
bare_none (holds k p o ∷ ws) b r = absurd b.0
bare_none (gone by ∷ ws) b r = absurd b.0

bare_items : (z : Slots) (x : ℕ) (ws : List What) → AreBare ws → all_of (inner_items z x) ws ≡ 0
bare_items z x [] b = refl
bare_items z x (bare l ∷ ws) b = let e = bare_items z x ws b.1 in omega (arith, e)
bare_items z x (holds k p o ∷ ws) b = absurd b.0
bare_items z x (gone by ∷ ws) b = absurd b.0

bare_regions : (z : Slots) (x : ℕ) (ws : List What) → AreBare ws → all_of (inner_regions z x) ws ≡ 0
bare_regions z x [] b = refl
bare_regions z x (bare l ∷ ws) b = let e = bare_regions z x ws b.1 in omega (arith, e)
bare_regions z x (holds k p o ∷ ws) b = absurd b.0
bare_regions z x (gone by ∷ ws) b = absurd b.0

bare_quiet : (y : Side) (f : Flags) (ws : List What) → AreBare ws → rises_all y f ws ≡ false
bare_quiet y f [] b = refl
bare_quiet y f (bare l ∷ ws) b = bare_quiet y f ws b.1
bare_quiet y f (holds k p o ∷ ws) b = absurd b.0
bare_quiet y f (gone by ∷ ws) b = absurd b.0

item_quiet : (y : Side) (f : Flags) (w : What) → IsBare w → rises_what y f w ≡ false
item_quiet y f (bare l) b = refl
item_quiet y f (holds k p o) b = absurd b
item_quiet y f (gone by) b = absurd b

item_holds_none : (w : What) (r : ℕ) → IsBare w → HoldsByNumber w r → ⊥
item_holds_none (bare l) r b h = h
item_holds_none (holds k p o) r b h = b
item_holds_none (gone by) r b h = b

pub told_leaves : (z : Slots) (n : ℕ) (ws : List What) → AreBare ws → told z n ws ≡ leaves_from n ws
told_leaves z n [] b = refl
told_leaves z n (bare l ∷ ws) b = ap (leaf n l) (told_leaves z (n + 1) ws b.1)
told_leaves z n (holds k p o ∷ ws) b = absurd b.0
told_leaves z n (gone by ∷ ws) b = absurd b.0

pub leaves_rise : (y : Side) (f : Flags) (w : What) (ws : List What) → IsBare w → AreBare ws → rises_all y f ws ≡ rises_what y f w
leaves_rise y f w ws a b = bare_quiet y f ws b ∙ sym (item_quiet y f w a)

pub leaves_step : (s : Slots) (t : ℕ) (m : Option Side) (ws : List What) → IsOrdered s → t < length s.slots → IsBare (slot_at s t).what → AreBare ws → IsStep s t m [] ws
leaves_step s t m ws sound within a b = record {
  bare = tt;
  fits = bare_fit (stepped s t m [] ws) (slot_at s t).home ws b;
  apart = bare_apart ws b;
  open_ones = bare_open ws b;
  taken = λ r h. absurd (false≢true (sym (bare_none ws b r) ∙ h));
  begins = λ r i l. absurd (let c = stepped_regions s t m [] ws sound within in omega (arith, i, l, c));
  keeps = λ r h. absurd (item_holds_none (slot_at s t).what r a h);
  items = λ x. let e = bare_items (stepped s t m [] ws) x ws b in omega (arith, e);
  regions = λ x. let e = bare_regions (stepped s t m [] ws) x ws b in omega (arith, e);
}

one_between : (a x : ℕ) → between a (a + 1) x ≡ one_if x a
one_between a x = let p = between_first a (a + 1) x (omega arith) in let e : suc a ≡ a + 1 = omega arith in let q = ap (λ b. between b (a + 1) x) e ∙ between_none (a + 1) x in omega (arith, p, q)

pub one_lives : (k : Holder) → has_second k ≡ false → second_lives k ≡ false
one_lives (Split f env) e = refl
one_lives (SplitProject f env) e = absurd (false≢true (sym e))
one_lives Closed e = refl
one_lives (Opened f env) e = refl
one_lives (Running f env) e = absurd (false≢true (sym e))

no_second : (k : Holder) (x : ℕ) → has_second k ≡ false → count x (second_number k no_region) ≡ 0
no_second (Split f env) x e = count_none x
no_second (SplitProject f env) x e = absurd (false≢true (sym e))
no_second Closed x e = count_none x
no_second (Opened f env) x e = count_none x
no_second (Running f env) x e = absurd (false≢true (sym e))

-- A holder with a new region that has one item.
module _ (s : Slots) (t : ℕ) (f : FormulaTree) (env : Bindings) (k : Holder) (sound : IsOrdered s) (within : t < length s.slots) (a : IsBare (slot_at s t).what) (one : has_second k ≡ false) (quiet : second_lives k ≡ false) where
  abbrev ins : List What
  ins = bare (S.Do f env) ∷ []

  abbrev outs : List What
  outs = holds k (length s.regions) None ∷ []

  abbrev z : Slots
  z = stepped s t None ins outs

  fit : ItemsFit z (slot_at s t).home outs
  fit = (((let l = (sound.items t within).0 in l, let c = stepped_regions s t None ins outs sound within in omega (arith, c)), one), tt)

  entries : entries_at z (length s.regions) ≡ leaf (length s.slots) (S.Do f env) none
  entries = new_region s t None ins outs sound within (tt, tt) fit (omega arith)

  it : (r : ℕ) → one_holds outs r ≡ true → length s.regions ≡ r
  it r h = elim (or_cases (eqb (length s.regions) r || false) false h) [
    | inl e ↦ elim (or_cases (eqb (length s.regions) r) false e) [ inl c ↦ eqb-true (length s.regions) r c | inr c ↦ absurd (false≢true c) ]
    | inr e ↦ absurd (false≢true e)
  ]

  pub begins_step : IsStep s t None ins outs
  begins_step = record {
    bare = (tt, tt);
    fits = fit;
    apart = (tt, (λ r h. refl), tt);
    open_ones = (tt, tt);
    taken = λ r h. inl (let e = it r h in omega (arith, e));
    begins = λ r i l. let c = stepped_regions s t None ins outs sound within in
        or_left (eqb (length s.regions) r || false) false (or_left (eqb (length s.regions) r) false (eq-eqb (length s.regions) r (omega (arith, i, l, c))));
    keeps = λ r h. absurd (item_holds_none (slot_at s t).what r a h);
    items = λ x. let e = ap (items x) entries in
        let c = items_leaf x (length s.slots) (S.Do f env) none in
        let d = count_none x in
        let b = one_between (length s.slots) x in
        omega (arith, e, c, d, b);
    regions = λ x. let e = ap (regions x) entries in
        let c = count_none x in
        let b = one_between (length s.regions) x in
        let d = no_second k x one in
        omega (arith, e, c, d, b);
  }

  pub begins_rise : (y : Side) (fl : Flags) → fl (length s.regions) ≡ false → rises_all y fl outs ≡ rises_what y fl (slot_at s t).what
  begins_rise y fl low = or_from ((rises k y && fl (length s.regions)) || (second_lives k && fl 0)) false (or_from (rises k y && fl (length s.regions)) (second_lives k && fl 0) (and_right (rises k y) (fl (length s.regions)) low) (and_left (second_lives k) (fl 0) quiet)) refl
      ∙ sym (item_quiet y fl (slot_at s t).what a)

  pub begins_told : told z (length s.slots + 1) outs ≡ node (1 + length s.slots) k (new_head (length s.regions)) (leaf (0 + length s.slots) (S.Do f env) none) no_region none none
  begins_told =
      let i0 : length s.slots ≡ 0 + length s.slots = omega arith in
      let i1 : length s.slots + 1 ≡ 1 + length s.slots = omega arith in
      let head = new_region_head s t None ins outs sound within (tt, tt) fit in
      let inner = entries ∙ ap (λ i. leaf i (S.Do f env) none) i0 in
      λ j. node (i1 j) k (head j) (inner j) no_region none none

-- What a region that is carried along has.
module _ (s : Slots) (t : ℕ) (ins outs : List What) (sound : IsOrdered s) (within : t < length s.slots) where
  abbrev zz : Slots
  zz = stepped s t None ins outs

  kept_entries : (p : ℕ) → (slot_at s t).home < p → p < length s.regions → entries_at zz p ≡ entries_at s p
  kept_entries p a l =
      carried s t (range_with_len (length s.slots + length ins) (length outs)) None (slots_in (length s.regions) ins ++ slots_in (slot_at s t).home outs) (begun (length s.slots) (length ins)) sound within (length zz.regions) p a l (omega arith)

  kept_head : (p : ℕ) → (slot_at s t).home < p → p < length s.regions → head_at zz p ≡ head_at s p
  kept_head p a l =
      carried_head s t (range_with_len (length s.slots + length ins) (length outs)) None (slots_in (length s.regions) ins ++ slots_in (slot_at s t).home outs) (begun (length s.slots) (length ins)) sound within p a l

  more_regions : length s.regions ≤ length zz.regions
  more_regions = let c = stepped_regions s t None ins outs sound within in omega (arith, c)

fit_of : (s : Slots) (t : ℕ) (w : What) → IsOrdered s → t < length s.slots → (slot_at s t).what ≡ w → WhatFits s (slot_at s t).home t w
fit_of s t w sound within is = subst (λ w. WhatFits s (slot_at s t).home t w) is (sound.items t within).1

-- a `Split` closes: what rose from its left region stops to rise
closing : (y : Side) (fl : Flags) (k : Holder) (p : ℕ) → rises k Ending ≡ false → (y ≡ Going → fl p ≡ false) → (rises k y && fl p) ≡ false
closing Ending fl k p e g = and_left (rises k Ending) (fl p) e
closing Going fl k p e g = and_right (rises k Going) (fl p) (g refl)

module _ (s : Slots) (t p : ℕ) (f : FormulaTree) (env : Bindings) (sound : IsOrdered s) (within : t < length s.slots) (is : (slot_at s t).what ≡ holds (Split f env) p None) where
  abbrev close_outs : List What
  close_outs = holds Closed p None ∷ bare (S.Do f env) ∷ []

  abbrev cz : Slots
  cz = stepped s t None [] close_outs

  cfit : WhatFits s (slot_at s t).home t (holds (Split f env) p None)
  cfit = fit_of s t (holds (Split f env) p None) sound within is

  close_entries : entries_at cz p ≡ entries_at s p
  close_entries = kept_entries s t [] close_outs sound within p cfit.0.0 cfit.0.1

  close_it : (r : ℕ) → one_holds close_outs r ≡ true → p ≡ r
  close_it r h = elim (or_cases (eqb p r || false) false h) [
    | inl e ↦ elim (or_cases (eqb p r) false e) [ inl c ↦ eqb-true p r c | inr c ↦ absurd (false≢true c) ]
    | inr e ↦ absurd (false≢true e)
  ]

  pub close_step : IsStep s t None [] close_outs
  close_step = record {
    bare = tt;
    fits = (((cfit.0.0, let c = more_regions s t [] close_outs sound within in let b = cfit.0.1 in omega (arith, b, c)), refl), (tt, tt));
    apart = (tt, (λ r h. refl), (tt, (λ r h. refl), tt));
    open_ones = (tt, (tt, tt));
    taken = λ r h. inr (subst (λ w. HoldsByNumber w r) (sym is) (inl (close_it r h)));
    begins = λ r i l. absurd (let c = stepped_regions s t None [] close_outs sound within in omega (arith, i, l, c));
    keeps = λ r h. elim (subst (λ w. HoldsByNumber w r) is h) [
      | inl e ↦ or_left (eqb p r || false) false (or_left (eqb p r) false (eq-eqb p r e))
      | inr e ↦ absurd (cc)
    ];
    items = λ x. let e = ap (items x) close_entries in let i = ap (inner_items s x) is in let c = count_none x in omega (arith, e, i, c);
    regions = λ x. let e = ap (regions x) close_entries in let i = ap (inner_regions s x) is in let c = count_none x in omega (arith, e, i, c);
  }

  pub close_rise : (y : Side) (fl : Flags) → (y ≡ Going → fl p ≡ false) → rises_all y fl close_outs ≡ rises_what y fl (slot_at s t).what
  close_rise y fl g = sym (ap (rises_what y fl) is ∙ or_from (rises (Split f env) y && fl p) false (closing y fl (Split f env) p refl g) refl)

  pub close_told : told cz (length s.slots + 0) close_outs ≡ closed_then (0 + length s.slots) (record { head = head_at s p; entries = entries_at s p }) (leaf (1 + length s.slots) (S.Do f env) none)
  close_told =
      let i0 : length s.slots + 0 ≡ 0 + length s.slots = omega arith in
      let i1 : length s.slots + 0 + 1 ≡ 1 + length s.slots = omega arith in
      let head = kept_head s t [] close_outs sound within p cfit.0.0 cfit.0.1 in
      let held = close_entries in
      λ j. node (i0 j) Closed (head j) (held j) no_region none (leaf (i1 j) (S.Do f env) none)

-- a `SplitProject` closes, and its outer region opens
module _ (s : Slots) (t p q : ℕ) (f : FormulaTree) (env : Bindings) (sound : IsOrdered s) (within : t < length s.slots) (is : (slot_at s t).what ≡ holds (SplitProject f env) p (Some q)) (other : p ≡ q → ⊥) where
  abbrev open_outs : List What
  open_outs = holds Closed p None ∷ holds (Opened f env) q None ∷ []

  abbrev oz : Slots
  oz = stepped s t None [] open_outs

  ofit : WhatFits s (slot_at s t).home t (holds (SplitProject f env) p (Some q))
  ofit = fit_of s t (holds (SplitProject f env) p (Some q)) sound within is

  left_entries : entries_at oz p ≡ entries_at s p
  left_entries = kept_entries s t [] open_outs sound within p ofit.0.0 ofit.0.1

  outer_entries : entries_at oz q ≡ entries_at s q
  outer_entries = kept_entries s t [] open_outs sound within q ofit.1.1.0 ofit.1.1.1

  open_it : (r : ℕ) → one_holds open_outs r ≡ true → (p ≡ r) ⊎ (Some q ≡ Some r)
  open_it r h = elim (or_cases (eqb p r || false) _ h) [
    | inl e ↦ elim (or_cases (eqb p r) false e) [ inl c ↦ inl (eqb-true p r c) | inr c ↦ absurd (false≢true c) ]
    | inr e ↦ elim (or_cases (eqb q r || false) false e) [
      | inl c ↦ elim (or_cases (eqb q r) false c) [ inl d ↦ inr (ap Some (eqb-true q r d)) | inr d ↦ absurd (false≢true d) ]
      | inr c ↦ absurd (false≢true c)
    ]
  ]

  pub open_step : IsStep s t None [] open_outs
  open_step = record {
    bare = tt;
    fits = (
      ((ofit.0.0, let c = more_regions s t [] open_outs sound within in let b = ofit.0.1 in omega (arith, b, c)), refl),
      (((ofit.1.1.0, let c = more_regions s t [] open_outs sound within in let b = ofit.1.1.1 in omega (arith, b, c)), refl), tt),
    );
    apart = (tt, (λ r h. apart_at r h), (tt, (λ r h. refl), tt));
    open_ones = (tt, (tt, tt));
    taken = λ r h. inr (subst (λ w. HoldsByNumber w r) (sym is) (open_it r h));
    begins = λ r i l. absurd (let c = stepped_regions s t None [] open_outs sound within in omega (arith, i, l, c));
    keeps = λ r h. elim (subst (λ w. HoldsByNumber w r) is h) [
      | inl e ↦ or_left (eqb p r || false) _ (or_left (eqb p r) false (eq-eqb p r e))
      | inr e ↦ or_right (eqb p r || false) _ (or_left (eqb q r || false) false (or_left (eqb q r) false (eq-eqb q r (same r e))))
    ];
    items = λ x. let e = ap (items x) left_entries in let o = ap (items x) outer_entries in let i = ap (inner_items s x) is in let c = count_none x in omega (arith, e, o, i, c);
    regions = λ x. let e = ap (regions x) left_entries in
        let o = ap (regions x) outer_entries in
        let i = ap (inner_regions s x) is in
        let c = count_none x in
        let d = count_first x q [] in
        omega (arith, e, o, i, c, d);
  }
    where
      same : (r : ℕ) → Some q ≡ Some r → q ≡ r
      same r e = cc

      apart_at : (r : ℕ) → (eqb p r || false) ≡ true → ((eqb q r || false) || false) ≡ false
      apart_at r h = elim (or_cases (eqb p r) false h) [
        | inl c ↦ or_from (eqb q r || false) false (or_from (eqb q r) false (ne_eqb q r (λ e. other (eqb-true p r c ∙ sym e))) refl) refl
        | inr c ↦ absurd (false≢true c)
      ]

  pub open_rise : (y : Side) (fl : Flags) → (y ≡ Going → fl p ≡ false) → fl q ≡ false → rises_all y fl open_outs ≡ rises_what y fl (slot_at s t).what
  open_rise y fl g low =
      or_from (fl q || false) false (or_from (fl q) false low refl) refl
      ∙ sym (ap (rises_what y fl) is ∙ or_from (rises (SplitProject f env) y && fl p) false (closing y fl (SplitProject f env) p refl g) refl)

  pub open_told : told oz (length s.slots + 0) open_outs
      ≡ closed_then (0 + length s.slots) (record { head = head_at s p; entries = entries_at s p }) (opened_then (1 + length s.slots) (record { head = head_at s q; entries = entries_at s q }) f env none)
  open_told =
      let i0 : length s.slots + 0 ≡ 0 + length s.slots = omega arith in
      let i1 : length s.slots + 0 + 1 ≡ 1 + length s.slots = omega arith in
      let head = kept_head s t [] open_outs sound within p ofit.0.0 ofit.0.1 in
      let held = left_entries in
      let head2 = kept_head s t [] open_outs sound within q ofit.1.1.0 ofit.1.1.1 in
      let held2 = outer_entries in
      λ j. node (i0 j) Closed (head j) (held j) no_region none (node (i1 j) (Opened f env) (head2 j) (held2 j) no_region none none)

-- an `Opened` begins a piece
module _ (s : Slots) (t q : ℕ) (f : FormulaTree) (env : Bindings) (sound : IsOrdered s) (within : t < length s.slots) (is : (slot_at s t).what ≡ holds (Opened f env) q None) where
  abbrev run_ins : List What
  run_ins = bare (S.Do f env) ∷ bare (S.Do more env) ∷ []

  abbrev run_outs : List What
  run_outs = holds (Running f env) (length s.regions) (Some q) ∷ []

  abbrev rz : Slots
  rz = stepped s t None run_ins run_outs

  rfit : WhatFits s (slot_at s t).home t (holds (Opened f env) q None)
  rfit = fit_of s t (holds (Opened f env) q None) sound within is

  run_fit : ItemsFit rz (slot_at s t).home run_outs
  run_fit = let c = stepped_regions s t None run_ins run_outs sound within in
      let b = rfit.0.1 in
      ((((sound.items t within).0, omega (arith, c)), (refl, (rfit.0.0, omega (arith, b, c)))), tt)

  piece_entries : entries_at rz (length s.regions) ≡ leaf (length s.slots) (S.Do f env) (leaf (length s.slots + 1) (S.Do more env) none)
  piece_entries = new_region s t None run_ins run_outs sound within (tt, (tt, tt)) run_fit (omega arith)

  run_entries : entries_at rz q ≡ entries_at s q
  run_entries = kept_entries s t run_ins run_outs sound within q rfit.0.0 rfit.0.1

  run_it : (r : ℕ) → one_holds run_outs r ≡ true → (length s.regions ≡ r) ⊎ (q ≡ r)
  run_it r h = elim (or_cases (eqb (length s.regions) r || eqb q r) false h) [
    | inl e ↦ elim (or_cases (eqb (length s.regions) r) (eqb q r) e) [ inl c ↦ inl (eqb-true (length s.regions) r c) | inr c ↦ inr (eqb-true q r c) ]
    | inr e ↦ absurd (false≢true e)
  ]

  two_between : (a x : ℕ) → between a (a + 2) x ≡ one_if x a + one_if x (a + 1)
  two_between a x =
      let p = between_first a (a + 2) x (omega arith) in
      let e : suc a ≡ a + 1 = omega arith in
      let g : a + 2 ≡ a + 1 + 1 = omega arith in
      let c : between (suc a) (a + 2) x ≡ between (a + 1) (a + 1 + 1) x = λ i. between (e i) (g i) x in
      let d = one_between (a + 1) x in
      omega (arith, p, c, d)

  pub run_step : IsStep s t None run_ins run_outs
  run_step = record {
    bare = (tt, (tt, tt));
    fits = run_fit;
    apart = ((λ e. let b = rfit.0.1 in omega (arith, b, e)), (λ r h. refl), tt);
    open_ones = (refl, tt);
    taken = λ r h. elim (run_it r h) [
      | inl e ↦ inl (omega (arith, e))
      | inr e ↦ inr (subst (λ w. HoldsByNumber w r) (sym is) (inl e))
    ];
    begins = λ r i l. let c = stepped_regions s t None run_ins run_outs sound within in
        or_left (eqb (length s.regions) r || eqb q r) false (or_left (eqb (length s.regions) r) (eqb q r) (eq-eqb (length s.regions) r (omega (arith, i, l, c))));
    keeps = λ r h. elim (subst (λ w. HoldsByNumber w r) is h) [
      | inl e ↦ or_left (eqb (length s.regions) r || eqb q r) false (or_right (eqb (length s.regions) r) (eqb q r) (eq-eqb q r e))
      | inr e ↦ absurd (cc)
    ];
    items = λ x. let e = ap (items x) piece_entries in
        let a = items_leaf x (length s.slots) (S.Do f env) (leaf (length s.slots + 1) (S.Do more env) none) in
        let b = items_leaf x (length s.slots + 1) (S.Do more env) none in
        let o = ap (items x) run_entries in
        let i = ap (inner_items s x) is in
        let c = count_none x in
        let d = two_between (length s.slots) x in
        omega (arith, e, a, b, o, i, c, d);
    regions = λ x. let e = ap (regions x) piece_entries in
        let o = ap (regions x) run_entries in
        let i = ap (inner_regions s x) is in
        let c = count_none x in
        let d = count_first x q [] in
        let b = one_between (length s.regions) x in
        omega (arith, e, o, i, c, d, b);
  }

  pub run_rise : (y : Side) (fl : Flags) → fl (length s.regions) ≡ false → rises_all y fl run_outs ≡ rises_what y fl (slot_at s t).what
  run_rise y fl low =
      ap (λ b. (b || fl q) || false) (and_right (rises (Running f env) y) (fl (length s.regions)) low)
      ∙ sym (ap (rises_what y fl) is)

  pub run_told : told rz (length s.slots + 2) run_outs
      ≡ running_then (2 + length s.slots) (record { head = new_head (length s.regions); entries = leaf (0 + length s.slots) (S.Do f env) (leaf (1 + length s.slots) (S.Do more env) none) }) (record { head = head_at s q; entries = entries_at s q }) f env none
  run_told =
      let i0 : length s.slots ≡ 0 + length s.slots = omega arith in
      let i1 : length s.slots + 1 ≡ 1 + length s.slots = omega arith in
      let i2 : length s.slots + 2 ≡ 2 + length s.slots = omega arith in
      let head = new_region_head s t None run_ins run_outs sound within (tt, (tt, tt)) run_fit in
      let piece = piece_entries ∙ (λ j. leaf (i0 j) (S.Do f env) (leaf (i1 j) (S.Do more env) none)) in
      let head2 = kept_head s t run_ins run_outs sound within q rfit.0.0 rfit.0.1 in
      let held2 = run_entries in
      λ j. node (i2 j) (Running f env) (head j) (piece j) (head2 j) (held2 j) none
