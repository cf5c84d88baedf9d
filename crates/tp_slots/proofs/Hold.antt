-- Which item holds each region after a step.
use Rattle.std.proofs.Common.{◌≡◌, ℕ, zero, suc, ◌+◌, ◌<◌, ◌||◌, Bool, true, false, eqb, List, [], ◌∷◌, length, get_or, Option, Some, None, refl, ap, sym, ◌∙◌, subst, arith, inl, inr}
use Rattle.std.specs.Prelude.{slice_set}
use Rattle.std.proofs.lemmas.Bool.{cases_Bool, eqb-true, eqb-false, eq-eqb, ne_eqb, both_ways, or_cases, or_parts, or_left, or_right, and_from, false≢true}
use Rattle.std.proofs.lemmas.List.{get_or-set_same, get_or-set_other, length-set}
use Rattle.tp_scene.specs.Scene.{Holder, second_lives}
use Rattle.tp_slots.specs.Plain.{What, bare, holds, gone}
use Rattle.tp_slots.specs.Places.{holder_at, HeldBy, HoldsByNumber}
use Rattle.tp_slots.specs.Lives.{is_second, leads_to}
use Rattle.tp_slots.specs.Row.{hold, hold_all, AllBelow}

-- it holds the region
abbrev pub holds_it : What → (r : ℕ) → Bool
holds_it (bare l) r = false
holds_it (holds k p o) r = eqb p r || is_second o r
holds_it (gone by) r = false

-- one of them does
abbrev pub one_holds : List What → (r : ℕ) → Bool
one_holds [] r = false
one_holds (w ∷ ws) r = holds_it w r || one_holds ws r

abbrev pub SecondApart : (p : ℕ) → Option ℕ → Type 0
SecondApart p None = Unit {0}
SecondApart p (Some q) = p ≡ q → ⊥

abbrev pub OneApart : What → Type 0
OneApart (bare l) = Unit {0}
OneApart (holds k p o) = SecondApart p o
OneApart (gone by) = Unit {0}

-- no region is held twice
abbrev pub AreApart : List What → Type 0
AreApart [] = Unit {0}
AreApart (w ∷ ws) = OneApart w × ((r : ℕ) → holds_it w r ≡ true → one_holds ws r ≡ false) × AreApart ws

-- what it holds is live where the item is
abbrev pub IsOpen : What → Type 0
IsOpen (bare l) = Unit {0}
IsOpen (holds k p None) = Unit {0}
IsOpen (holds k p (Some q)) = second_lives k ≡ true
IsOpen (gone by) = Unit {0}

abbrev pub AreOpen : List What → Type 0
AreOpen [] = Unit {0}
AreOpen (w ∷ ws) = IsOpen w × AreOpen ws

pub open_leads : (w : What) (r : ℕ) → IsOpen w → holds_it w r ≡ true → leads_to w r ≡ true
open_leads (bare l) r o h = absurd (false≢true h)
open_leads (gone by) r o h = absurd (false≢true h)
open_leads (holds k p None) r o h = elim (or_cases (eqb p r) false h) [
  | inl e ↦ or_left (eqb p r) _ e
  | inr e ↦ absurd (false≢true e)
]
open_leads (holds k p (Some q)) r o h = elim (or_cases (eqb p r) (eqb q r) h) [
  | inl e ↦ or_left (eqb p r) _ e
  | inr e ↦ or_right (eqb p r) _ (and_from (second_lives k) (eqb q r) o e)
]

pub open_at : (ws : List What) (i : ℕ) → AreOpen ws → IsOpen (get_or ws i (gone []))
open_at [] i o = tt
open_at (w ∷ ws) zero o = o.0
open_at (w ∷ ws) (suc i) o = open_at ws i o.1

pub hold_count : (u : ℕ) (w : What) (hs : List ℕ) → length (hold u w hs) ≡ length hs
hold_count u (bare l) hs = refl
hold_count u (holds k p None) hs = length-set hs p u
hold_count u (holds k p (Some q)) hs = length-set (slice_set hs p u) q u ∙ length-set hs p u
hold_count u (gone by) hs = refl

pub all_count : (n : ℕ) (ws : List What) (hs : List ℕ) → length (hold_all n ws hs) ≡ length hs
all_count n [] hs = refl
all_count n (w ∷ ws) hs = all_count (n + 1) ws (hold n w hs) ∙ hold_count n w hs

other : (p r : ℕ) → eqb p r ≡ false → r ≡ p → ⊥
other p r e f = eqb-false p r e (sym f)

unheld : (u : ℕ) (w : What) (hs : List ℕ) (r : ℕ) → holds_it w r ≡ false → holder_at (hold u w hs) r ≡ holder_at hs r
unheld u (bare l) hs r e = refl
unheld u (holds k p None) hs r e = get_or-set_other hs p r u 0 (other p r (or_parts (eqb p r) false e).0)
unheld u (holds k p (Some q)) hs r e =
    let a = or_parts (eqb p r) (eqb q r) e in
    get_or-set_other (slice_set hs p u) q r u 0 (other q r a.1) ∙ get_or-set_other hs p r u 0 (other p r a.0)
unheld u (gone by) hs r e = refl

pub all_unheld : (n : ℕ) (ws : List What) (hs : List ℕ) (r : ℕ) → one_holds ws r ≡ false → holder_at (hold_all n ws hs) r ≡ holder_at hs r
all_unheld n [] hs r e = refl
all_unheld n (w ∷ ws) hs r e = let a = or_parts (holds_it w r) (one_holds ws r) e in all_unheld (n + 1) ws (hold n w hs) r a.1 ∙ unheld n w hs r a.0

here : (u : ℕ) (w : What) (hs : List ℕ) (r : ℕ) → holds_it w r ≡ true → OneApart w → r < length hs → holder_at (hold u w hs) r ≡ u
here u (bare l) hs r e a l' = absurd (false≢true e)
here u (gone by) hs r e a l = absurd (false≢true e)
here u (holds k p None) hs r e a l = elim (or_cases (eqb p r) false e) [
  | inl c ↦ (let o = eqb-true p r c in ap (λ i. get_or (slice_set hs i u) r 0) o ∙ get_or-set_same hs r u 0 l)
  | inr c ↦ absurd (false≢true c)
]
here u (holds k p (Some q)) hs r e a l = elim (cases_Bool (eqb q r)) [
  | inl c ↦ (let o = eqb-true q r c in ap (λ i. get_or (slice_set (slice_set hs p u) i u) r 0) o ∙ get_or-set_same (slice_set hs p u) r u 0 (let n = length-set hs p u in omega (arith, n, l)))
  | inr c ↦ elim (or_cases (eqb p r) (eqb q r) e) [
    | inl d ↦ (let o = eqb-true p r d in get_or-set_other (slice_set hs p u) q r u 0 (other q r c) ∙ (ap (λ i. get_or (slice_set hs i u) r 0) o ∙ get_or-set_same hs r u 0 l))
    | inr d ↦ absurd (both_ways (eqb q r) c d)
  ]
]

-- the number of the one that holds the region
pub holder_in : (n : ℕ) (ws : List What) (hs : List ℕ) (r : ℕ) → AreApart ws → one_holds ws r ≡ true → r < length hs
    → (i : ℕ) × (i < length ws) × (holds_it (get_or ws i (gone [])) r ≡ true) × (holder_at (hold_all n ws hs) r ≡ n + i)
holder_in n [] hs r a e l = absurd (false≢true e)
holder_in n (w ∷ ws) hs r a e l = elim (cases_Bool (holds_it w r)) [
  | inl c ↦ (0, omega arith, c, all_unheld (n + 1) ws (hold n w hs) r (a.1 r c) ∙ (here n w hs r c a.0 l ∙ (let z : n ≡ n + 0 = omega arith in z)))
  | inr c ↦ (let q = holder_in (n + 1) ws (hold n w hs) r a.2 (later (holds_it w r) (one_holds ws r) c e) (let m = hold_count n w hs in omega (arith, m, l)) in
      let i = q.1 in
      (suc q.0, omega (arith, i), q.2, q.3 ∙ (let z : n + 1 + q.0 ≡ n + suc q.0 = omega arith in z)))
]
  where
    later : (a b : Bool) → a ≡ false → (a || b) ≡ true → b ≡ true
    later a b u v = elim (or_cases a b v) [ inl c ↦ absurd (both_ways a u c) | inr c ↦ c ]

-- each is what holds its regions
first_it : (k : Holder) (p : ℕ) (o : Option ℕ) → holds_it (holds k p o) p ≡ true
first_it k p o = or_left (eqb p p) (is_second o p) (eq-eqb p p refl)

second_it : (k : Holder) (p q : ℕ) → holds_it (holds k p (Some q)) q ≡ true
second_it k p q = or_right (eqb p q) (eqb q q) (eq-eqb q q refl)

pub held_by_new : (n : ℕ) (ws : List What) (hs : List ℕ) (i : ℕ) → AreApart ws → AllBelow (length hs) ws → i < length ws → HeldBy (hold_all n ws hs) (n + i) (get_or ws i (gone []))
held_by_new n [] hs i a b l = absurd (omega (arith, l))
held_by_new n (bare x ∷ ws) hs zero a b l = tt
held_by_new n (holds k p None ∷ ws) hs zero a b l =
    (all_unheld (n + 1) ws (hold n (holds k p None) hs) p (a.1 p (first_it k p None)) ∙ (here n (holds k p None) hs p (first_it k p None) a.0 b.0 ∙ (let z : n ≡ n + 0 = omega arith in z)), tt)
held_by_new n (holds k p (Some q) ∷ ws) hs zero a b l =
    let z : n ≡ n + 0 = omega arith in
    let w = holds k p (Some q) in (
      all_unheld (n + 1) ws (hold n w hs) p (a.1 p (first_it k p (Some q))) ∙ (here n w hs p (first_it k p (Some q)) a.0 b.0.0 ∙ z),
      (all_unheld (n + 1) ws (hold n w hs) q (a.1 q (second_it k p q)) ∙ (here n w hs q (second_it k p q) a.0 b.0.1 ∙ z), ne_eqb p q a.0),
    )
held_by_new n (gone by ∷ ws) hs zero a b l = tt
held_by_new n (w ∷ ws) hs (suc i) a b l =
    subst (λ m. HeldBy (hold_all (n + 1) ws (hold n w hs)) m (get_or ws i (gone []))) (let z : n + 1 + i ≡ n + suc i = omega arith in z)
    (held_by_new (n + 1) ws (hold n w hs) i a.2 (subst (λ c. AllBelow c ws) (sym (hold_count n w hs)) b.1) (omega (arith, l)))

pub region_held : (w : What) (r : ℕ) → HoldsByNumber w r → holds_it w r ≡ true
region_held (bare l) r h = absurd h
region_held (gone by) r h = absurd h
region_held (holds k p o) r h = elim h [
  | inl e ↦ or_left (eqb p r) (is_second o r) (eq-eqb p r e)
  | inr e ↦ or_right (eqb p r) (is_second o r) (ap (λ x. is_second x r) e ∙ eq-eqb r r refl)
]

pub it_held : (w : What) (r : ℕ) → holds_it w r ≡ true → HoldsByNumber w r
it_held (bare l) r h = absurd (false≢true h)
it_held (gone by) r h = absurd (false≢true h)
it_held (holds k p o) r h = elim (or_cases (eqb p r) (is_second o r) h) [
  | inl e ↦ inl (eqb-true p r e)
  | inr e ↦ inr (second o e)
]
  where
    second : (o : Option ℕ) → is_second o r ≡ true → o ≡ Some r
    second None e = absurd (false≢true e)
    second (Some q) e = ap Some (eqb-true q r e)
