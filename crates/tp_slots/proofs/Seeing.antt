-- What the walks outward see.
use Rattle.std.proofs.Common.{◌≡◌, ℕ, zero, suc, ◌+◌, ◌≤◌, ◌<◌, ◌||◌, ◌&&◌, Bool, true, false, eqb, List, [], length, get_or, refl, ap, sym, ◌∙◌, subst, arith, inl, inr}
use Rattle.std.specs.Prelude.{slice_set}
use Rattle.std.proofs.Math.Bool.{or_assoc, or_comm}
use Rattle.std.proofs.lemmas.Bool.{cases_Bool, cases_lt, eqb-true, eqb-false, or_left, and_parts, false_from_ne_true}
use Rattle.std.proofs.lemmas.List.{get_or-map, get_or_past, get_or-set_same, get_or-set_other, length-map}
use Rattle.tp_scene.specs.Scene.{Side, Ending, Going, sinks, forced, marked, risen, Place}
use Rattle.tp_slots.specs.Plain as plain
use Rattle.tp_slots.specs.Plain.{What, bare, holds, gone, slot_at, head_at, entries_at, IsOrdered}
use Rattle.tp_slots.specs.Places.{holder_at, held_in, place_outward, HoldsByNumber, AreHeld}
use Rattle.tp_slots.specs.Flags.{Flags, set_flag, FlagsAreRight, rises_from, forced_in, sinks_in, flags_in, Pending}
use Rattle.tp_slots.specs.Lives.{leads_to, lives_in}
use Rattle.tp_slots.specs.Kept.{IsQuiet, IsShaped, IsWellKept}
use Rattle.tp_slots.specs.Read.{slot_of, region_slot_of, what_of, slots_of, holders_of, flag_of, flags_of}
use Rattle.tp_slots.proofs.PlaceLemmas.{outward, outer_less}
use Rattle.tp_slots.proofs.Living.{lives_outward, quiet_set}
use Rattle.tp_slots.proofs.Flagging.{flags_right, outer, set_already, raise_last, raise_next}
use Rattle.tp_slots.specs.declared.scene.Scene.{Scene}
use Rattle.tp_slots.specs.declared.scene.Slot.{Slot}
use Rattle.tp_slots.specs.declared.scene.Region.{Region}

module _ (s : plain.Slots) (hs : List ℕ) (sound : IsOrdered s) (known : AreHeld s hs) (z : Side) (f : Flags) (right : FlagsAreRight s z f) where
  parts : (a b c d : Bool) → ((a && b) || (c || d)) ≡ (d || (c || (a && b)))
  parts a b c d = or_comm (a && b) (c || d) ∙ (ap (λ x. x || (a && b)) (or_comm c d) ∙ or_assoc d c (a && b))

  held_seen : (r : ℕ) (w : What) (p : Place) → r < length s.regions → HoldsByNumber w r → (held_in s r w p).is z ≡ (f r || (forced_in w r z || (sinks_in w r z && p.is z)))
  held_seen r (bare l) p i h = absurd h
  held_seen r (gone by) p i h = absurd h
  held_seen r (holds k q o) p i h = elim (cases_Bool (eqb q r)) [
    | inl c ↦ rw c (parts (sinks k z) (p.is z) (forced k z) (marked z (head_at s r) || risen z (entries_at s r)) ∙ ap (λ b. b || (forced k z || (sinks k z && p.is z))) (sym (right r i)))
    | inr c ↦ rw c (or_comm (p.is z) (marked z (head_at s r) || risen z (entries_at s r)) ∙ ap (λ b. b || p.is z) (sym (right r i)))
  ]

  pub root_seen : (place_outward s hs 0).is z ≡ f 0
  root_seen = sym (right 0 sound.root)

  pub is_seen : (r : ℕ) → 0 < r → r < length s.regions → (place_outward s hs r).is z
      ≡ (f r || (forced_in (slot_at s (holder_at hs r)).what r z || (sinks_in (slot_at s (holder_at hs r)).what r z && (place_outward s hs (slot_at s (holder_at hs r)).home).is z)))
  is_seen r a l = ap (λ (p : Place). p.is z) (outward s hs sound known r a l) ∙ held_seen r (slot_at s (holder_at hs r)).what (place_outward s hs (slot_at s (holder_at hs r)).home) l (known.holders r a l).1

-- What the code reads.
module _ (s : Scene) (r : ℕ) (l : r < length s.regions.items) where
  pub inside : r < length (slots_of s).regions
  inside = let e = length-map s.regions.items region_slot_of in omega (arith, e, l)

  module _ (d : Region) where
    pub holder_read : (get_or s.regions.items r d).holder ≡ holder_at (holders_of s) r
    holder_read = sym (get_or-map (λ (x : Region). x.holder) s.regions.items r d 0 l)

    pub flag_read : (z : Side) → flag_of z (get_or s.regions.items r d) ≡ flags_in (flags_of z s) r
    flag_read z = sym (get_or-map (flag_of z) s.regions.items r d false l)

pub slot_past : (s : Scene) (t : ℕ) → length s.slots.items ≤ t → slot_at (slots_of s) t ≡ record { home = 0; what = gone [] }
slot_past s t past = let e = length-map s.slots.items slot_of in get_or_past (slots_of s).slots t (record { home = 0; what = gone [] }) (omega (arith, e, past))

pub slot_read : (s : Scene) (t : ℕ) (d : Slot) → t < length s.slots.items → slot_of (get_or s.slots.items t d) ≡ slot_at (slots_of s) t
slot_read s t d l = sym (get_or-map slot_of s.slots.items t d (record { home = 0; what = gone [] }) l)

module _ (s : Scene) (shape : IsShaped (slots_of s) (holders_of s)) (r : ℕ) (l : r < length s.regions.items) (a : 0 < r) where
  pub holder_within : holder_at (holders_of s) r < length s.slots.items
  holder_within = let e = length-map s.slots.items slot_of in let h = (shape.held.holders r a (inside s r l)).0 in omega (arith, e, h)

  pub around_less : (slot_at (slots_of s) (holder_at (holders_of s) r)).home < r
  around_less = outer_less (slots_of s) (holders_of s) shape.ordered shape.held r a (inside s r l)

pub flags_kept : (s : Scene) → IsWellKept s → (z : Side) → FlagsAreRight (slots_of s) z (flags_in (flags_of z s))
flags_kept s kept Ending = kept.ending
flags_kept s kept Going = kept.going

module _ (s : Scene) (kept : IsWellKept s) (z : Side) where
  abbrev pub sees_at : ℕ → Bool
  sees_at r = (place_outward (slots_of s) (holders_of s) r).is z

  pub sees_root : flags_in (flags_of z s) 0 ≡ sees_at 0
  sees_root = sym (root_seen (slots_of s) (holders_of s) kept.shape.ordered kept.shape.held z (flags_in (flags_of z s)) (flags_kept s kept z))

  pub sees_next : (r : ℕ) → r < length s.regions.items → 0 < r → sees_at r
      ≡ (flags_in (flags_of z s) r || (forced_in (slot_at (slots_of s) (holder_at (holders_of s) r)).what r z || (sinks_in (slot_at (slots_of s) (holder_at (holders_of s) r)).what r z && sees_at (slot_at (slots_of s) (holder_at (holders_of s) r)).home)))
  sees_next r l a = is_seen (slots_of s) (holders_of s) kept.shape.ordered kept.shape.held z (flags_in (flags_of z s)) (flags_kept s kept z) r a (inside s r l)

  pub sees_set : (r : ℕ) → r < length s.regions.items → flags_in (flags_of z s) r ≡ true → sees_at r ≡ true
  sees_set r l e = elim (cases_lt 0 r) [
    | inl a ↦ sees_next r l a ∙ or_left (flags_in (flags_of z s) r) _ e
    | inr a ↦ (let c : r ≡ 0 = omega (arith, a) in ap sees_at c ∙ (sym sees_root ∙ (ap (flags_in (flags_of z s)) (sym c) ∙ e)))
  ]

pub set_is : (xs : List Bool) (r : ℕ) → r < length xs → set_flag r (flags_in xs) ≡ flags_in (slice_set xs r true)
set_is xs r l = λ i q. at q i
  where
    at : (q : ℕ) → set_flag r (flags_in xs) q ≡ flags_in (slice_set xs r true) q
    at q = elim (cases_Bool (eqb q r)) [
      | inl e ↦ rw e (sym (ap (λ n. get_or (slice_set xs r true) n false) (eqb-true q r e) ∙ get_or-set_same xs r true false l))
      | inr e ↦ rw e (sym (get_or-set_other xs r q true false (eqb-false q r e)))
    ]

pub set_below : (xs ys : List Bool) (r q : ℕ) → ys ≡ slice_set xs r true → q < r → flags_in ys q ≡ flags_in xs q
set_below xs ys r q e l = ap (λ v. flags_in v q) e ∙ get_or-set_other xs r q true false (λ i. absurd (omega (arith, l, i)))

-- What holds the region r, as the code finds it.
module _ (s : Scene) (shape : IsShaped (slots_of s) (holders_of s)) (r : ℕ) (l : r < length s.regions.items) (a : 0 < r) (x : Region) (y : Slot) (ex : x ≡ get_or s.regions.items r x) (ey : y ≡ get_or s.slots.items x.holder y) where
  holder_found : x.holder ≡ holder_at (holders_of s) r
  holder_found = ap (λ (x : Region). x.holder) ex ∙ holder_read s r l x

  pub found : slot_of y ≡ slot_at (slots_of s) (holder_at (holders_of s) r)
  found =
      let w = holder_within s shape r l a in
      let h = holder_found in
      ap slot_of ey ∙ (slot_read s x.holder y (omega (arith, w, h)) ∙ ap (slot_at (slots_of s)) h)

  pub home_less : y.home < r
  home_less = subst (λ (z : plain.Slot). z.home < r) (sym found) (around_less s shape r l a)

  pub next_lives : lives_in (slots_of s) (holders_of s) r ≡ (leads_to (what_of y.what) r && lives_in (slots_of s) (holders_of s) y.home)
  next_lives = lives_outward (slots_of s) (holders_of s) shape.ordered shape.held r a (inside s r l) ∙ ap (λ (z : plain.Slot). leads_to z.what r && lives_in (slots_of s) (holders_of s) z.home) (sym found)

  pub flag_found : (z : Side) → flag_of z x ≡ flags_in (flags_of z s) r
  flag_found z = ap (flag_of z) ex ∙ flag_read s r l x z

  pub next_seen : (kept : IsWellKept s) (z : Side) → sees_at s kept z r ≡ (flag_of z x || (forced_in (what_of y.what) r z || (sinks_in (what_of y.what) r z && sees_at s kept z y.home)))
  next_seen kept z =
      sees_next s kept z r l a
      ∙ (let f = sym (flag_found z) in
      let w = sym found in
      λ i. f i || (forced_in (w i).what r z || (sinks_in (w i).what r z && sees_at s kept z (w i).home)))

-- A flag that is set outward.
module _ (s : Scene) (z : Side) (shape : IsShaped (slots_of s) (holders_of s)) (r : ℕ) (l : r < length s.regions.items) (old : List Bool) (p : Pending (slots_of s) z (flags_in old) r) where
  pub right_already : flags_in old r ≡ true → FlagsAreRight (slots_of s) z (flags_in old)
  right_already e = flags_right (slots_of s) shape.ordered z (flags_in old) (set_already (slots_of s) (holders_of s) shape.ordered shape.own shape.held z r (flags_in old) e p)

  module _ (new : List Bool) (set : new ≡ slice_set old r true) (n : length old ≡ length s.regions.items) where
    new_flags : set_flag r (flags_in old) ≡ flags_in new
    new_flags = set_is old r (omega (arith, n, l)) ∙ ap flags_in (sym set)

    pub quiet_new : lives_in (slots_of s) (holders_of s) r ≡ true → IsQuiet (slots_of s) (holders_of s) (flags_in old) → IsQuiet (slots_of s) (holders_of s) (flags_in new)
    quiet_new lv q = subst (IsQuiet (slots_of s) (holders_of s)) new_flags (quiet_set (slots_of s) (holders_of s) shape.ordered shape.held (flags_in old) r lv q)

    last : rises_from (slot_at (slots_of s) (holder_at (holders_of s) r)).what r z ≡ false → FlagsAreRight (slots_of s) z (flags_in new)
    last u = subst (FlagsAreRight (slots_of s) z) new_flags (flags_right (slots_of s) shape.ordered z (set_flag r (flags_in old)) (raise_last (slots_of s) (holders_of s) shape.ordered shape.own shape.held z r (flags_in old) u p))

    pub right_root : r ≡ 0 → FlagsAreRight (slots_of s) z (flags_in new)
    right_root e = last (false_from_ne_true _ (λ u. let o = (outer (slots_of s) (holders_of s) shape.ordered shape.own shape.held z r (holder_at (holders_of s) r) u).2 in omega (arith, o, e)))

    module _ (w : plain.Slot) (is : w ≡ slot_at (slots_of s) (holder_at (holders_of s) r)) where
      pub right_last : rises_from w.what r z ≡ false → FlagsAreRight (slots_of s) z (flags_in new)
      right_last u = last (ap (λ (x : plain.Slot). rises_from x.what r z) (sym is) ∙ u)

      pub pending_next : rises_from w.what r z ≡ true → Pending (slots_of s) z (flags_in new) w.home
      pending_next u =
          subst (λ (x : plain.Slot). Pending (slots_of s) z (flags_in new) x.home) (sym is)
          (subst (λ (f : Flags). Pending (slots_of s) z f (slot_at (slots_of s) (holder_at (holders_of s) r)).home) new_flags
          (raise_next (slots_of s) (holders_of s) shape.ordered shape.own shape.held z r (flags_in old) (inside s r l) (ap (λ (x : plain.Slot). rises_from x.what r z) (sym is) ∙ u) p).1)

      pub lives_next : 0 < r → lives_in (slots_of s) (holders_of s) r ≡ true → lives_in (slots_of s) (holders_of s) w.home ≡ true
      lives_next a lv =
          ap (λ (x : plain.Slot). lives_in (slots_of s) (holders_of s) x.home) is
          ∙ (and_parts (leads_to (slot_at (slots_of s) (holder_at (holders_of s) r)).what r) _ (sym (lives_outward (slots_of s) (holders_of s) shape.ordered shape.held r a (inside s r l)) ∙ lv)).1

-- A place by its parts.
held_deep : (s : plain.Slots) (r : ℕ) (w : What) (p : Place) → HoldsByNumber w r → ((held_in s r w p).depth ≡ p.depth + 1) × ((held_in s r w p).region ≡ r)
held_deep s r (bare l) p h = absurd h
held_deep s r (gone by) p h = absurd h
held_deep s r (holds k q o) p h = elim (cases_Bool (eqb q r)) [
  | inl c ↦ (rw c refl, rw c refl)
  | inr c ↦ (rw c refl, rw c refl)
]

pub region_is : (s : plain.Slots) (hs : List ℕ) → IsOrdered s → AreHeld s hs → (r : ℕ) → r < length s.regions → (place_outward s hs r).region ≡ r
region_is s hs sound known r l = elim (cases_lt 0 r) [
  | inl a ↦ ap (λ (p : Place). p.region) (outward s hs sound known r a l) ∙ (held_deep s r (slot_at s (holder_at hs r)).what (place_outward s hs (slot_at s (holder_at hs r)).home) (known.holders r a l).1).1
  | inr a ↦ (let e : r ≡ 0 = omega (arith, a) in ap (λ i. (place_outward s hs i).region) e ∙ sym e)
]

pub deeper : (s : plain.Slots) (hs : List ℕ) → IsOrdered s → AreHeld s hs → (r : ℕ) → 0 < r → r < length s.regions → (place_outward s hs r).depth ≡ (place_outward s hs (slot_at s (holder_at hs r)).home).depth + 1
deeper s hs sound known r a l = ap (λ (p : Place). p.depth) (outward s hs sound known r a l) ∙ (held_deep s r (slot_at s (holder_at hs r)).what (place_outward s hs (slot_at s (holder_at hs r)).home) (known.holders r a l).1).0

-- the depth of a region is at most its number
pub depth_small : (s : plain.Slots) (hs : List ℕ) → IsOrdered s → AreHeld s hs → (d r : ℕ) → r < d → r < length s.regions → (place_outward s hs r).depth ≤ r
depth_small s hs sound known zero r a l = absurd (omega (arith, a))
depth_small s hs sound known (suc d) r a l = elim (cases_lt 0 r) [
  | inl c ↦ (let less = outer_less s hs sound known r c l in
      let e = deeper s hs sound known r c l in
      let q = depth_small s hs sound known d (slot_at s (holder_at hs r)).home (omega (arith, a, less)) (omega (arith, l, less)) in
      omega (arith, less, e, q))
  | inr c ↦ (let e : r ≡ 0 = omega (arith, c) in subst (λ i. (place_outward s hs i).depth ≤ i) (sym e) (omega arith))
]

pub next_depth : (s : Scene) (shape : IsShaped (slots_of s) (holders_of s)) (r : ℕ) (l : r < length s.regions.items) (a : 0 < r) (x : Region) (y : Slot) (ex : x ≡ get_or s.regions.items r x) (ey : y ≡ get_or s.slots.items x.holder y)
    → (place_outward (slots_of s) (holders_of s) r).depth ≡ (place_outward (slots_of s) (holders_of s) y.home).depth + 1
next_depth s shape r l a x y ex ey =
    deeper (slots_of s) (holders_of s) shape.ordered shape.held r a (inside s r l)
    ∙ ap (λ (w : plain.Slot). (place_outward (slots_of s) (holders_of s) w.home).depth + 1) (sym (found s shape r l a x y ex ey))
