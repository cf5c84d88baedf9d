-- What was found of regions stays right.
use Rattle.std.proofs.Common.{◌≡◌, ℕ, zero, suc, ◌+◌, ◌≤◌, ◌<◌, ◌||◌, ◌&&◌, Bool, true, false, cond, eqb, List, [], ◌∷◌, length, get_or, Option, Some, None, refl, ap, sym, ◌∙◌, subst, arith, inl, inr}
use Rattle.std.proofs.lemmas.Bool.{cases_Bool, cases_lt, or_parts, or_cases, or_from, and_left, and_right, eqb-true, eq-eqb, ne_eqb, both_ways, false≢true}
use Rattle.std.proofs.lemmas.List.{get_or_past}
use Rattle.tp_lanes.specs.Planes.{flag}
use Rattle.tp_meaning.specs.Syntax.{FormulaTree}
use Rattle.tp_scene.specs.Scene as S
use Rattle.tp_scene.specs.Scene.{Bindings, Side, other_side, Ending, Going, Holder, SplitProject, Closed, Opened, Running, has}
use Rattle.tp_slots.specs.Plain.{What, bare, holds, gone, Slot, Slots, slot_at, entries_at, IsOrdered}
use Rattle.tp_slots.specs.Places.{holder_at, place_outward, AreHeld}
use Rattle.tp_slots.specs.Lives.{lives_in}
use Rattle.tp_slots.specs.Flags.{Flags, FlagsAreRight, AgreeBelow, forced_in, sinks_in}
use Rattle.tp_slots.specs.Kept.{IsShaped}
use Rattle.tp_slots.specs.Looks.{depth_known, found_not_so, DepthsAreRight, LooksAreRight, seen_up, LooksFollow, IsAfterMark, IsDepthKept, IsNotSoKept}
use Rattle.tp_slots.specs.Reductions.{AreBare}
use Rattle.tp_slots.specs.Row.{stepped, held_after}
use Rattle.tp_slots.specs.declared.looks.Looks.{Looks}
use Rattle.tp_slots.proofs.Hold.{holds_it}
use Rattle.tp_slots.proofs.PlaceLemmas.{outer_less}
use Rattle.tp_slots.proofs.Seeing.{root_seen, is_seen, deeper}
use Rattle.tp_slots.proofs.Stepping.{IsStep}
use Rattle.tp_slots.proofs.Keeping.{shape_then, regions_then, lives_then, holder_then}

-- Where nothing was found, it is right.
pub nothing_found : (s : Slots) (hs : List ℕ) (k : Looks) → k.depths.items ≡ [] → k.not_ending ≡ [] → k.not_going ≡ [] → LooksAreRight s hs k
nothing_found s hs k d e g = record {
  depths = record {
    few = let n = ap (λ (xs : List ℕ). length xs) d in omega (arith, n);
    known = λ r l p. let n = ap (λ (xs : List ℕ). get_or xs r 0) d in absurd (omega (arith, p, n));
  };
  not_so = λ z r f. absurd (both_ways (found_not_so z k r) (none z r) f);
}
  where
    none : (z : Side) (r : ℕ) → found_not_so z k r ≡ false
    none Ending r = ap (λ (xs : List Bool). flag xs r) e
    none Going r = ap (λ (xs : List Bool). flag xs r) g

depths_moved : (s : Slots) (hs : List ℕ) (old new : Looks) → new.depths ≡ old.depths → DepthsAreRight s hs old → DepthsAreRight s hs new
depths_moved s hs old new e d =
    let items : new.depths.items ≡ old.depths.items = ap (λ v. v.items) e in
    record {
      few = subst (λ (xs : List ℕ). length xs ≤ length s.regions) (sym items) d.few;
      known = λ r l p. let f : depth_known new r ≡ depth_known old r = ap (λ (xs : List ℕ). get_or xs r 0) items in let h = d.known r l (omega (arith, p, f)) in (h.0, h.1 ∙ sym f);
    }

-- what is kept of a region is right
pub kept_depth : (s : Slots) (hs : List ℕ) (old new : Looks) (r d : ℕ) → LooksAreRight s hs old → r < length s.regions → IsDepthKept r d old new → lives_in s hs r ≡ true → (place_outward s hs r).depth ≡ d → LooksAreRight s hs new
kept_depth s hs old new r d right l kept lives deep = record {
  depths = record {
    few = kept.few (length s.regions) l right.depths.few;
    known = λ q i p. elim (kept.same q) [
      | inl e ↦ (let h = right.depths.known q i (omega (arith, p, e)) in (h.0, h.1 ∙ sym e))
      | inr e ↦ (ap (lives_in s hs) e.0 ∙ lives, ap (λ i. (place_outward s hs i).depth) e.0 ∙ (deep ∙ sym e.1))
    ];
  };
  not_so = λ z q f. right.not_so z q (sym (same z q) ∙ f);
}
  where
    same : (z : Side) (q : ℕ) → found_not_so z new q ≡ found_not_so z old q
    same Ending q = ap (λ (xs : List Bool). flag xs q) kept.not_ending
    same Going q = ap (λ (xs : List Bool). flag xs q) kept.not_going

pub kept_not_so : (s : Slots) (hs : List ℕ) (old new : Looks) (z : Side) (r : ℕ) → LooksAreRight s hs old → r < length s.regions → IsNotSoKept z r old new → (place_outward s hs r).is z ≡ false → LooksAreRight s hs new
kept_not_so s hs old new z r right l kept not_so = record {
  depths = depths_moved s hs old new kept.depths right.depths;
  not_so = λ y q f. elim (kept.found y q f) [
    | inl e ↦ right.not_so y q e
    | inr e ↦ (subst (λ i. i < length s.regions) (sym e.1) l, (λ i. (place_outward s hs (e.1 i)).is (e.0 i)) ∙ not_so)
  ];
}

-- What is seen by flags, however far outward one looks, is what the region is where flags that are right are the same as far as there.
module _ (s : Slots) (hs : List ℕ) (ordered : IsOrdered s) (held : AreHeld s hs) (y : Side) (f g : Flags) (top : ℕ) (right : FlagsAreRight s y g) (agree : AgreeBelow top f g) where
  abbrev outer : ℕ → ℕ
  outer r = (slot_at s (holder_at hs r)).home

  abbrev through : ℕ → What
  through r = (slot_at s (holder_at hs r)).what

  not_root : (b x : Bool) → b ≡ false → cond b false x ≡ false → x ≡ false
  not_root true x e h = absurd (false≢true (sym e))
  not_root false x e h = h

  past_one : (r n : ℕ) → 0 < r → seen_up s hs y f (suc n) r ≡ false → (forced_in (through r) r y ≡ false) × ((sinks_in (through r) r y && seen_up s hs y f n (outer r)) ≡ false)
  past_one r n a u = or_parts (forced_in (through r) r y) _ (not_root (eqb r 0) _ (ne_eqb r 0 (λ e. absurd (omega (arith, a, e)))) (or_parts (f r) _ u).1)

  pub unseen : (d r : ℕ) → r < d → r < length s.regions → r < top → ((n : ℕ) → seen_up s hs y f n r ≡ false) → (place_outward s hs r).is y ≡ false
  unseen zero r a l b u = absurd (omega (arith, a))
  unseen (suc d) r a l b u = elim (cases_lt 0 r) [
    | inl c ↦ (let less = outer_less s hs ordered held r c l in
        is_seen s hs ordered held y g right r c l
        ∙ or_from (g r) _ (agree r b ∙ u 0)
        (or_from (forced_in (through r) r y) _ (past_one r 0 c (u 1)).0
        (elim (cases_Bool (sinks_in (through r) r y)) [
          | inl e ↦ and_right (sinks_in (through r) r y) _ (unseen d (outer r) (omega (arith, a, less)) (omega (arith, l, less)) (omega (arith, b, less)) (λ n. sunk e (past_one r n c (u (suc n))).1))
          | inr e ↦ and_left (sinks_in (through r) r y) _ e
        ])))
    | inr c ↦ (let n : r ≡ 0 = omega (arith, c) in
        ap (λ i. (place_outward s hs i).is y) n ∙ (root_seen s hs ordered held y g right ∙ (ap g (sym n) ∙ (agree r b ∙ u 0))))
  ]
    where
      sunk : {a b : Bool} → a ≡ true → (a && b) ≡ false → b ≡ false
      sunk {a} {b} e y = ap (λ x. x && b) (sym e) ∙ y

-- Without a mark all flags are right.
pub unmarked_looks : (s : Slots) (hs : List ℕ) → IsOrdered s → AreHeld s hs → (flags : Side → Flags) (k : Looks) → LooksFollow s hs flags k → ((y : Side) → FlagsAreRight s y (flags y)) → LooksAreRight s hs k
unmarked_looks s hs ordered held flags k follow right = record {
  depths = follow.depths;
  not_so = λ y r f. let l = (follow.not_so y r 0 f).0 in
      (l, unseen s hs ordered held y (flags y) (flags y) (suc r) (right y) (λ q b. refl) (suc r) r (omega arith) l (omega arith) (λ n. (follow.not_so y r n f).1));
}

-- After a mark those of its side are right as they were raised, and as they were of the regions that are further out.
pub marked_looks : (s : Slots) (hs : List ℕ) → IsOrdered s → AreHeld s hs → (z : Side) (top : ℕ) (flags : Side → Flags) (raised : Flags) (old new : Looks) → LooksFollow s hs flags old → IsAfterMark z top old new
    → FlagsAreRight s z raised → AgreeBelow top (flags z) raised → FlagsAreRight s (other_side z) (flags (other_side z)) → LooksAreRight s hs new
marked_looks s hs ordered held z top flags raised old new follow after right agree right_other = record {
  depths = depths_moved s hs old new after.depths follow.depths;
  not_so = λ y r f. let a = after.found y r f in let l = (follow.not_so y r 0 a.0).0 in
      (l, by_side z y r l right agree right_other a.1 (λ n. (follow.not_so y r n a.0).1));
}
  where
    by_side : (z y : Side) (r : ℕ) → r < length s.regions → FlagsAreRight s z raised → AgreeBelow top (flags z) raised → FlagsAreRight s (other_side z) (flags (other_side z)) → (y ≡ z → r < top)
        → ((n : ℕ) → seen_up s hs y (flags y) n r ≡ false) → (place_outward s hs r).is y ≡ false
    by_side Ending Ending r l a b c d u = unseen s hs ordered held Ending (flags Ending) raised top a b (suc r) r (omega arith) l (d refl) u
    by_side Ending Going r l a b c d u = unseen s hs ordered held Going (flags Going) (flags Going) (suc r) c (λ q b. refl) (suc r) r (omega arith) l (omega arith) u
    by_side Going Ending r l a b c d u = unseen s hs ordered held Ending (flags Ending) (flags Ending) (suc r) c (λ q b. refl) (suc r) r (omega arith) l (omega arith) u
    by_side Going Going r l a b c d u = unseen s hs ordered held Going (flags Going) raised top a b (suc r) r (omega arith) l (d refl) u

-- What stands in the item's place lets no region become so that wasn't.
abbrev pub LeavesOpen : Slots → (hs : List ℕ) → (t : ℕ) → (outs : List What) → Type 0
LeavesOpen s hs t outs =
    (y : Side) (r i : ℕ) → r < length s.regions → holds_it (get_or outs i (gone [])) r ≡ true → (place_outward s hs r).is y ≡ false
    → (forced_in (get_or outs i (gone [])) r y || (sinks_in (get_or outs i (gone [])) r y && (place_outward s hs (slot_at s t).home).is y)) ≡ false

-- Which items may stand there.
not_held : (ws : List What) → AreBare ws → (i r : ℕ) → holds_it (get_or ws i (gone [])) r ≡ false
not_held [] b i r = refl
not_held (bare l ∷ ws) b zero r = refl
not_held (bare l ∷ ws) b (suc i) r = not_held ws b.1 i r
not_held (holds k p o ∷ ws) b i r = absurd b.0
not_held (gone by ∷ ws) b i r = absurd b.0

pub bare_leave : (s : Slots) (hs : List ℕ) (t : ℕ) (outs : List What) → AreBare outs → LeavesOpen s hs t outs
bare_leave s hs t outs b y r i l h e = absurd (both_ways (holds_it (get_or outs i (gone [])) r) (not_held outs b i r) h)

pub begun_leaves : (s : Slots) (hs : List ℕ) (t : ℕ) (k : Holder) → LeavesOpen s hs t (holds k (length s.regions) None ∷ [])
begun_leaves s hs t k y r zero l h e = elim (or_cases (eqb (length s.regions) r) false h) [
  | inl a ↦ (let c = eqb-true (length s.regions) r a in absurd (omega (arith, c, l)))
  | inr a ↦ absurd (false≢true a)
]
begun_leaves s hs t k y r (suc i) l h e = absurd (false≢true h)

module _ (s : Slots) (hs : List ℕ) (t : ℕ) (shape : IsShaped s hs) (flags : Side → Flags) (right : (y : Side) → FlagsAreRight s y (flags y)) where
  -- a region in one that lets it be so
  around_open : (y : Side) (w : What) (r : ℕ) → 0 < r → r < length s.regions → holder_at hs r ≡ t → (slot_at s t).what ≡ w → sinks_in w r y ≡ true → (place_outward s hs r).is y ≡ false → (place_outward s hs (slot_at s t).home).is y ≡ false
  around_open y w r a l h is sinks e =
      let x = (or_parts (flags y r) _ (sym (is_seen s hs shape.ordered shape.held y (flags y) (right y) r a l) ∙ e)).1 in
      let y' = (or_parts (forced_in (slot_at s (holder_at hs r)).what r y) _ x).1 in
      sunk (sym (ap (λ i. sinks_in (slot_at s i).what r y) h ∙ (ap (λ v. sinks_in v r y) is ∙ sinks))) (ap (λ i. sinks_in (slot_at s (holder_at hs r)).what r y && (place_outward s hs (slot_at s i).home).is y) (sym h) ∙ y')
    where
      sunk : {a b : Bool} → true ≡ a → (a && b) ≡ false → b ≡ false
      sunk {a} {b} e y = ap (λ x. x && b) e ∙ y

  -- a closed region ends, and doesn't go
  closed_open : (y : Side) (p r : ℕ) → (place_outward s hs p).is Ending ≡ true → holds_it (holds Closed p None) r ≡ true → (place_outward s hs r).is y ≡ false
      → (forced_in (holds Closed p None) r y || (sinks_in (holds Closed p None) r y && (place_outward s hs (slot_at s t).home).is y)) ≡ false
  closed_open Ending p r ended h e = elim (or_cases (eqb p r) false h) [
    | inl a ↦ absurd (both_ways ((place_outward s hs r).is Ending) e (ap (λ i. (place_outward s hs i).is Ending) (sym (eqb-true p r a)) ∙ ended))
    | inr a ↦ absurd (false≢true a)
  ]
  closed_open Going p r ended h e = elim (or_cases (eqb p r) false h) [
    | inl a ↦ rw a refl
    | inr a ↦ absurd (false≢true a)
  ]

  pub closed_leaves : (p : ℕ) (g : FormulaTree) (env : Bindings) → (place_outward s hs p).is Ending ≡ true → LeavesOpen s hs t (holds Closed p None ∷ bare (S.Do g env) ∷ [])
  closed_leaves p g env ended y r zero l h e = closed_open y p r ended h e
  closed_leaves p g env ended y r (suc zero) l h e = absurd (false≢true h)
  closed_leaves p g env ended y r (suc (suc i)) l h e = absurd (false≢true h)

  pub opened_leaves : (p q : ℕ) (g : FormulaTree) (env : Bindings) → 0 < q → holder_at hs q ≡ t → (slot_at s t).what ≡ holds (SplitProject g env) p (Some q) → eqb p q ≡ false → (place_outward s hs p).is Ending ≡ true
      → LeavesOpen s hs t (holds Closed p None ∷ holds (Opened g env) q None ∷ [])
  opened_leaves p q g env a held is other ended y r zero l h e = closed_open y p r ended h e
  opened_leaves p q g env a held is other ended y r (suc zero) l h e = elim (or_cases (eqb q r) false h) [
    | inl c ↦ (let same = eqb-true q r c in
        or_from (eqb q r && false) _ (and_right (eqb q r) false refl)
        (and_right (sinks_in (holds (Opened g env) q None) r y) _
        (around_open y (holds (SplitProject g env) p (Some q)) q a (subst (λ i. i < length s.regions) (sym same) l) held is (rw other refl) (ap (λ i. (place_outward s hs i).is y) same ∙ e))))
    | inr c ↦ absurd (false≢true c)
  ]
  opened_leaves p q g env a held is other ended y r (suc (suc i)) l h e = absurd (false≢true h)

  pub running_leaves : (q : ℕ) (g : FormulaTree) (env : Bindings) → 0 < q → holder_at hs q ≡ t → (slot_at s t).what ≡ holds (Opened g env) q None → LeavesOpen s hs t (holds (Running g env) (length s.regions) (Some q) ∷ [])
  running_leaves q g env a held is y r zero l h e = elim (or_cases (eqb (length s.regions) r) (eqb q r) h) [
    | inl c ↦ (let same = eqb-true (length s.regions) r c in absurd (omega (arith, same, l)))
    | inr c ↦ (let same = eqb-true q r c in
        let it = eq-eqb q q refl in
        or_from (eqb (length s.regions) r && false) _ (and_right (eqb (length s.regions) r) false refl)
        (and_right (sinks_in (holds (Running g env) (length s.regions) (Some q)) r y) _
        (around_open y (holds (Opened g env) q None) q a (subst (λ i. i < length s.regions) (sym same) l) held is (rw it refl) (ap (λ i. (place_outward s hs i).is y) same ∙ e))))
  ]
  running_leaves q g env a held is y r (suc i) l h e = absurd (false≢true h)

module _ (s : Slots) (hs : List ℕ) (t : ℕ) (m : Option Side) (inner outs : List What) (shape : IsShaped s hs) (lives : has t (entries_at s 0) ≡ true) (step : IsStep s t m inner outs) where
  abbrev z : Slots
  z = stepped s t m inner outs

  abbrev hs' : List ℕ
  hs' = held_after s inner outs hs

  abbrev around : ℕ → ℕ
  around r = (slot_at s (holder_at hs r)).home

  then : IsShaped z hs'
  then = shape_then s hs t m inner outs shape lives step

  inside_then : (r : ℕ) → r < length s.regions → r < length z.regions
  inside_then r l = let n = regions_then s hs t m inner outs shape lives step in omega (arith, l, n)

  around_then : (r : ℕ) → 0 < r → r < length s.regions → (slot_at z (holder_at hs' r)).home ≡ around r
  around_then r a l = elim (holder_then s hs t m inner outs shape lives step r a l) [
    | inl e ↦ ap (λ (y : Slot). y.home) e
    | inr q ↦ ap (λ (y : Slot). y.home) q.1 ∙ ap (λ i. (slot_at s i).home) (sym q.3)
  ]

  -- it stays as deep
  depth_then : (d r : ℕ) → r < d → r < length s.regions → (place_outward z hs' r).depth ≡ (place_outward s hs r).depth
  depth_then zero r a l = absurd (omega (arith, a))
  depth_then (suc d) r a l = elim (cases_lt 0 r) [
    | inl c ↦ (let less = outer_less s hs shape.ordered shape.held r c l in
        deeper z hs' then.ordered then.held r c (inside_then r l)
        ∙ (ap (λ i. (place_outward z hs' i).depth + 1) (around_then r c l)
        ∙ (ap (λ n. n + 1) (depth_then d (around r) (omega (arith, a, less)) (omega (arith, l, less)))
        ∙ sym (deeper s hs shape.ordered shape.held r c l))))
    | inr c ↦ (let e : r ≡ 0 = omega (arith, c) in ap (λ i. (place_outward z hs' i).depth) e ∙ ap (λ i. (place_outward s hs i).depth) (sym e))
  ]

  depths_then : (k : Looks) → DepthsAreRight s hs k → DepthsAreRight z hs' k
  depths_then k a = record {
    few = let n = regions_then s hs t m inner outs shape lives step in let f = a.few in omega (arith, n, f);
    known = λ r l d. elim (cases_lt r (length s.regions)) [
      | inl i ↦ (let h = a.known r i d in (lives_then s hs t m inner outs shape lives step (suc r) r (omega arith) i h.0, depth_then (suc r) r (omega arith) i ∙ h.1))
      | inr i ↦ (let f = a.few in let e = get_or_past k.depths.items r 0 (omega (arith, i, f)) in absurd (omega (arith, d, e)))
    ];
  }

  module _ (y : Side) (f : Flags) (right : FlagsAreRight s y f) (leaves : LeavesOpen s hs t outs) where
    unsunk : (a b c : Bool) → (a && b) ≡ false → (b ≡ false → c ≡ false) → (a && c) ≡ false
    unsunk true b c e h = h e
    unsunk false b c e h = refl

    unset : (r : ℕ) → r < length s.regions → (place_outward s hs r).is y ≡ false → f r ≡ false
    unset r l e = elim (cases_lt 0 r) [
      | inl c ↦ (or_parts (f r) _ (sym (is_seen s hs shape.ordered shape.held y f right r c l) ∙ e)).0
      | inr c ↦ (let n : r ≡ 0 = omega (arith, c) in ap f n ∙ (sym (root_seen s hs shape.ordered shape.held y f right) ∙ (ap (λ i. (place_outward s hs i).is y) (sym n) ∙ e)))
    ]

    -- by the same flags nothing more is seen of a region that wasn't so
    seen_then : (n r : ℕ) → r < length s.regions → (place_outward s hs r).is y ≡ false → seen_up z hs' y f n r ≡ false
    seen_then zero r l e = unset r l e
    seen_then (suc n) r l e = or_from (f r) _ (unset r l e) (elim (cases_lt 0 r) [
      | inl c ↦ (let less = outer_less s hs shape.ordered shape.held r c l in
          let w = slot_at s (holder_at hs r) in
          let x = (or_parts (f r) _ (sym (is_seen s hs shape.ordered shape.held y f right r c l) ∙ e)).1 in
          let parts = or_parts (forced_in w.what r y) _ x in
          let after = seen_then n (around r) (omega (arith, l, less)) in
          inner_one r (ne_eqb r 0 (λ i. absurd (omega (arith, c, i))))
          (elim (holder_then s hs t m inner outs shape lives step r c l) [
            | inl q ↦ ap (λ (v : Slot). forced_in v.what r y || (sinks_in v.what r y && seen_up z hs' y f n v.home)) q
                ∙ or_from (forced_in w.what r y) _ parts.0 (unsunk (sinks_in w.what r y) ((place_outward s hs (around r)).is y) _ parts.1 after)
            | inr q ↦ (let o = get_or outs q.0 (gone []) in
                let v = or_parts (forced_in o r y) _ (leaves y r q.0 l q.2 e) in
                let home : (slot_at s t).home ≡ around r = ap (λ i. (slot_at s i).home) (sym q.3) in
                ap (λ (v : Slot). forced_in v.what r y || (sinks_in v.what r y && seen_up z hs' y f n v.home)) q.1
                ∙ or_from (forced_in o r y) _ v.0
                (unsunk (sinks_in o r y) ((place_outward s hs (slot_at s t).home).is y) _ v.1
                (λ b. ap (λ i. seen_up z hs' y f n i) home ∙ after (ap (λ i. (place_outward s hs i).is y) (sym home) ∙ b))))
          ]))
      | inr c ↦ root_one r _ (eq-eqb r 0 (omega (arith, c)))
    ])
      where
        inner_one : (r : ℕ) {x : Bool} → eqb r 0 ≡ false → x ≡ false → cond (eqb r 0) false x ≡ false
        inner_one r {x} e h = ap (λ b. cond b false x) e ∙ h

        root_one : (r : ℕ) (x : Bool) → eqb r 0 ≡ true → cond (eqb r 0) false x ≡ false
        root_one r x e = ap (λ b. cond b false x) e

  pub looks_then : (flags : Side → Flags) (k : Looks) → ((y : Side) → FlagsAreRight s y (flags y)) → LeavesOpen s hs t outs → LooksAreRight s hs k → LooksFollow z hs' flags k
  looks_then flags k right leaves x = record {
    depths = depths_then k x.depths;
    not_so = λ y r n f. let a = x.not_so y r f in (inside_then r a.0, seen_then y (flags y) (right y) leaves n r a.0 a.1);
  }
