-- What new slots stand for.
use Rattle.std.proofs.Common.{◌≡◌, ℕ, zero, suc, ◌+◌, ◌-◌, ◌≤◌, ◌<◌, ◌||◌, ◌&&◌, Bool, true, false, eqb, List, [], ◌∷◌, ◌++◌, length, get_or, Option, Some, None, refl, ap, sym, ◌∙◌, subst, arith, inl, inr}
use Rattle.std.specs.List.{range_with_len}
use Rattle.std.proofs.lemmas.Bool.{cases_eq, eq-eqb, or_left, or_right}
use Rattle.std.proofs.lemmas.List.{length-append, append_assoc}
use Rattle.std.proofs.Math.Seq.{get_or-append_seam}
use Rattle.tp_scene.specs.Scene.{Side, Holder, Entries, none, leaf, node, append, rises, second_lives}
use Rattle.tp_scene.specs.Fits.{second_number}
use Rattle.tp_scene.proofs.Count.{one_if, count}
use Rattle.tp_scene.proofs.PutNumbers.{between, between_first, between_none, items, regions, items_leaf, items_node, regions_node}
use Rattle.tp_slots.specs.Plain.{What, bare, holds, gone, Slot, Slots, slot_at, head_at, other_head, second_of, in_order, of_what, item_entries, entries_at, IsInner, AreIn, SecondFits, WhatFits}
use Rattle.tp_slots.specs.Lives.{has_own}
use Rattle.tp_slots.specs.Flags.{Flags, risen_by, rises_what, number_or_zero}
use Rattle.tp_slots.specs.Replace.{NewFit}
use Rattle.tp_slots.specs.Row.{slots_in}

-- items from number n on, with what their regions have in these slots
abbrev pub told : Slots → ℕ → List What → Entries
told z n [] = none
told z n (bare l ∷ ws) = leaf n l (told z (n + 1) ws)
told z n (holds k p o ∷ ws) = node n k (head_at z p) (entries_at z p) (other_head z o) (second_of (entries_at z) o) (told z (n + 1) ws)
told z n (gone by ∷ ws) = told z (n + 1) ws

-- an item that may stand in this region
abbrev pub ItemFits : Slots → (home : ℕ) → What → Type 0
ItemFits z home (bare l) = Unit {0}
ItemFits z home (holds k p o) = IsInner z home p × SecondFits z home k o
ItemFits z home (gone by) = ⊥

abbrev pub ItemsFit : Slots → (home : ℕ) → List What → Type 0
ItemsFit z home [] = Unit {0}
ItemsFit z home (w ∷ ws) = ItemFits z home w × ItemsFit z home ws

-- what rises from them
abbrev pub rises_all : Side → Flags → List What → Bool
rises_all y fl [] = false
rises_all y fl (w ∷ ws) = rises_what y fl w || rises_all y fl ws

seam : (z : Slots) (n home : ℕ) (pre post : List Slot) (w : What) (ws : List What) → pre ++ (slots_in home (w ∷ ws) ++ post) ≡ z.slots → n ≡ length pre → slot_at z n ≡ record { home = home; what = w }
seam z n home pre post w ws e f =
    ap (λ l. get_or l n (record { home = 0; what = gone [] })) (sym e)
    ∙ (ap (λ i. get_or (pre ++ (slots_in home (w ∷ ws) ++ post)) i (record { home = 0; what = gone [] })) f ∙ get_or-append_seam pre (record { home = home; what = w }) (slots_in home ws ++ post) (record { home = 0; what = gone [] }))

next_e : (z : Slots) (home : ℕ) (pre post : List Slot) (w : What) (ws : List What) → pre ++ (slots_in home (w ∷ ws) ++ post) ≡ z.slots → (pre ++ record { home = home; what = w } ∷ []) ++ (slots_in home ws ++ post) ≡ z.slots
next_e z home pre post w ws e = append_assoc pre (record { home = home; what = w } ∷ []) (slots_in home ws ++ post) ∙ e

next_n : (n home : ℕ) (pre : List Slot) (w : What) → n ≡ length pre → n + 1 ≡ length (pre ++ record { home = home; what = w } ∷ [])
next_n n home pre w f = let c = length-append pre (record { home = home; what = w } ∷ []) in omega (arith, c, f)

inside : (z : Slots) (n home : ℕ) (pre post : List Slot) (w : What) (ws : List What) → pre ++ (slots_in home (w ∷ ws) ++ post) ≡ z.slots → n ≡ length pre → n < length z.slots
inside z n home pre post w ws e f = let c = ap length (sym e) ∙ length-append pre (slots_in home (w ∷ ws) ++ post) in omega (arith, c, f)

module _ (z : Slots) (home : ℕ) where
  second_told : (deeper : ℕ → Entries) (k : Holder) (o : Option ℕ) → SecondFits z home k o → ((p : ℕ) → home < p → p < length z.regions → deeper p ≡ entries_at z p) → second_of deeper o ≡ second_of (entries_at z) o
  second_told deeper k None f d = refl
  second_told deeper k (Some q) f d = d q f.1.0 f.1.1

  one_told : (deeper : ℕ → Entries) (k n : ℕ) (w : What) (ws : List What) (rest : Entries) → length z.slots ≤ k + n → n < length z.slots → slot_at z n ≡ record { home = home; what = w } → ItemFits z home w
      → ((p : ℕ) → home < p → p < length z.regions → deeper p ≡ entries_at z p)
      → item_entries z deeper k n (append (told z (n + 1) ws) rest) ≡ append (told z n (w ∷ ws)) rest
  one_told deeper zero n w ws rest a l e f d = absurd (omega (arith, a, l))
  one_told deeper (suc k) n (bare i) ws rest a l e f d = ap (λ (x : Slot). of_what z deeper (item_entries z deeper k) n x.what (append (told z (n + 1) ws) rest)) e
  one_told deeper (suc k) n (holds h p o) ws rest a l e f d =
      ap (λ (x : Slot). of_what z deeper (item_entries z deeper k) n x.what (append (told z (n + 1) ws) rest)) e
      ∙ (let x = d p f.0.0 f.0.1 in let y = second_told deeper h o f.1 d in λ i. node n h (head_at z p) (x i) (other_head z o) (y i) (append (told z (n + 1) ws) rest))
  one_told deeper (suc k) n (gone by) ws rest a l e f d = absurd f

  pub told_order : (deeper : ℕ → Entries) (k n : ℕ) (pre post : List Slot) (ws : List What) (rest : Entries) → pre ++ (slots_in home ws ++ post) ≡ z.slots → n ≡ length pre → length z.slots ≤ k + n → ItemsFit z home ws
      → ((p : ℕ) → home < p → p < length z.regions → deeper p ≡ entries_at z p)
      → in_order (item_entries z deeper k) (range_with_len n (length ws)) rest ≡ append (told z n ws) rest
  told_order deeper k n pre post [] rest e f a g d = refl
  told_order deeper k n pre post (w ∷ ws) rest e f a g d =
      ap (item_entries z deeper k n) (told_order deeper k (n + 1) (pre ++ record { home = home; what = w } ∷ []) post ws rest (next_e z home pre post w ws e) (next_n n home pre w f) (omega (arith, a)) g.1 d)
      ∙ one_told deeper k n w ws rest a (inside z n home pre post w ws e f) (seam z n home pre post w ws e f) g.0 d

  what_fits : (u : ℕ) (w : What) → ItemFits z home w → WhatFits z home u w
  what_fits u (bare l) f = tt
  what_fits u (holds k p o) f = f
  what_fits u (gone by) f = absurd f

  pub slots_fit : (n : ℕ) (ws : List What) (ys : List Slot) → home < length z.regions → ItemsFit z home ws → NewFit z (n + length ws) ys → NewFit z n (slots_in home ws ++ ys)
  slots_fit n [] ys l f g = subst (λ i. NewFit z i ys) (let e : n + 0 ≡ n = omega arith in e) g
  slots_fit n (w ∷ ws) ys l f g = ((l, what_fits n w f.0), slots_fit (suc n) ws ys l f.1 (subst (λ i. NewFit z i ys) (let e : n + suc (length ws) ≡ suc n + length ws = omega arith in e) g))

  pub slots_are_in : (low n : ℕ) (pre post : List Slot) (ws : List What) → pre ++ (slots_in home ws ++ post) ≡ z.slots → n ≡ length pre → low ≤ n → AreIn z low home (range_with_len n (length ws))
  slots_are_in low n pre post [] e f l = tt
  slots_are_in low n pre post (w ∷ ws) e f l =
      (l, inside z n home pre post w ws e f, ap (λ (x : Slot). x.home) (seam z n home pre post w ws e f), slots_are_in low (n + 1) (pre ++ record { home = home; what = w } ∷ []) post ws (next_e z home pre post w ws e) (next_n n home pre w f) (omega (arith, l)))

  -- the slot of the one at this place
  pub slot_there : (n : ℕ) (pre post : List Slot) (ws : List What) (x : ℕ) → pre ++ (slots_in home ws ++ post) ≡ z.slots → n ≡ length pre → n ≤ x → x < n + length ws
      → slot_at z x ≡ record { home = home; what = get_or ws (x - n) (gone []) }
  slot_there n pre post [] x e f a b = absurd (omega (arith, a, b))
  slot_there n pre post (w ∷ ws) x e f a b = elim (cases_eq n x) [
    | inl c ↦ subst (λ i. slot_at z x ≡ record { home = home; what = get_or (w ∷ ws) i (gone []) }) (let d : 0 ≡ x - n = omega (arith, c) in d) (ap (slot_at z) (sym c) ∙ seam z n home pre post w ws e f)
    | inr c ↦ subst (λ i. slot_at z x ≡ record { home = home; what = get_or (w ∷ ws) i (gone []) }) (let d : suc (x - (n + 1)) ≡ x - n = omega (arith, a, c) in d)
        (slot_there (n + 1) (pre ++ record { home = home; what = w } ∷ []) post ws x (next_e z home pre post w ws e) (next_n n home pre w f) (omega (arith, a, c)) (omega (arith, b)))
  ]

  -- each is told
  pub told_own : (n x : ℕ) (ws : List What) → ItemsFit z home ws → n ≤ x → x < n + length ws → has_own x (told z n ws) ≡ true
  told_own n x [] f a b = absurd (omega (arith, a, b))
  told_own n x (bare l ∷ ws) f a b = elim (cases_eq n x) [
    | inl e ↦ or_left (eqb n x) _ (eq-eqb n x e)
    | inr e ↦ or_right (eqb n x) _ (told_own (n + 1) x ws f.1 (omega (arith, a, e)) (omega (arith, b)))
  ]
  told_own n x (holds k p o ∷ ws) f a b = elim (cases_eq n x) [
    | inl e ↦ or_left (eqb n x) _ (eq-eqb n x e)
    | inr e ↦ or_right (eqb n x) _ (told_own (n + 1) x ws f.1 (omega (arith, a, e)) (omega (arith, b)))
  ]
  told_own n x (gone by ∷ ws) f a b = absurd f.0

  number_is : (o : Option ℕ) → (other_head z o).number ≡ number_or_zero o
  number_is None = refl
  number_is (Some p) = refl

  or_join : (a b c d : Bool) → ((a || b) || (c || d)) ≡ (((a || b) || c) || d)
  or_join true b c d = refl
  or_join false true c d = refl
  or_join false false c d = refl

  or_flat : (a b c : Bool) → (a || (b || c)) ≡ ((a || b) || c)
  or_flat true b c = refl
  or_flat false b c = refl

  pub told_rises : (y : Side) (fl : Flags) (n : ℕ) (ws : List What) (rest : Entries) → ItemsFit z home ws → risen_by y fl (append (told z n ws) rest) ≡ (rises_all y fl ws || risen_by y fl rest)
  told_rises y fl n [] rest f = refl
  told_rises y fl n (bare l ∷ ws) rest f = told_rises y fl (n + 1) ws rest f.1
  told_rises y fl n (holds k p o ∷ ws) rest f =
      let e = number_is o in
      let q = told_rises y fl (n + 1) ws rest f.1 in
      (λ i. (rises k y && fl p) || ((second_lives k && fl (e i)) || q i))
      ∙ (or_flat (rises k y && fl p) (second_lives k && fl (number_or_zero o)) (rises_all y fl ws || risen_by y fl rest)
      ∙ or_flat ((rises k y && fl p) || (second_lives k && fl (number_or_zero o))) (rises_all y fl ws) (risen_by y fl rest))
  told_rises y fl n (gone by ∷ ws) rest f = absurd f.0

-- How often a number stands inside of an item, and inside of some.
abbrev pub inner_items : Slots → (x : ℕ) → What → ℕ
inner_items z x (bare l) = 0
inner_items z x (holds k p o) = items x (entries_at z p) + items x (second_of (entries_at z) o)
inner_items z x (gone by) = 0

abbrev pub inner_regions : Slots → (x : ℕ) → What → ℕ
inner_regions z x (bare l) = 0
inner_regions z x (holds k p o) = one_if x p + (regions x (entries_at z p) + (count x (second_number k (other_head z o)) + regions x (second_of (entries_at z) o)))
inner_regions z x (gone by) = 0

abbrev pub all_of : (What → ℕ) → List What → ℕ
all_of f [] = 0
all_of f (w ∷ ws) = f w + all_of f ws

module _ (z : Slots) (home x : ℕ) where
  pub told_items : (n : ℕ) (ws : List What) (rest : Entries) → ItemsFit z home ws → items x (append (told z n ws) rest) ≡ between n (n + length ws) x + all_of (inner_items z x) ws + items x rest
  told_items n [] rest f = let e : n + 0 ≡ n = omega arith in let q = ap (λ b. between n b x) e ∙ between_none n x in omega (arith, q)
  told_items n (bare l ∷ ws) rest f =
      let q = told_items (n + 1) ws rest f.1 in
      let a = items_leaf x n l (append (told z (n + 1) ws) rest) in
      let b = between_first n (n + suc (length ws)) x (omega arith) in
      let e : suc n ≡ n + 1 = omega arith in
      let g : n + suc (length ws) ≡ n + 1 + length ws = omega arith in
      let c : between (suc n) (n + suc (length ws)) x ≡ between (n + 1) (n + 1 + length ws) x = λ i. between (e i) (g i) x in
      omega (arith, q, a, b, c)
  told_items n (holds k p o ∷ ws) rest f =
      let q = told_items (n + 1) ws rest f.1 in
      let a = items_node x n k (head_at z p) (entries_at z p) (other_head z o) (second_of (entries_at z) o) (append (told z (n + 1) ws) rest) in
      let b = between_first n (n + suc (length ws)) x (omega arith) in
      let e : suc n ≡ n + 1 = omega arith in
      let g : n + suc (length ws) ≡ n + 1 + length ws = omega arith in
      let c : between (suc n) (n + suc (length ws)) x ≡ between (n + 1) (n + 1 + length ws) x = λ i. between (e i) (g i) x in
      omega (arith, q, a, b, c)
  told_items n (gone by ∷ ws) rest f = absurd f.0

  pub told_regions : (n : ℕ) (ws : List What) (rest : Entries) → ItemsFit z home ws → regions x (append (told z n ws) rest) ≡ all_of (inner_regions z x) ws + regions x rest
  told_regions n [] rest f = omega arith
  told_regions n (bare l ∷ ws) rest f = let q = told_regions (n + 1) ws rest f.1 in omega (arith, q)
  told_regions n (holds k p o ∷ ws) rest f =
      let q = told_regions (n + 1) ws rest f.1 in
      let a = regions_node x n k (head_at z p) (entries_at z p) (other_head z o) (second_of (entries_at z) o) (append (told z (n + 1) ws) rest) in
      omega (arith, q, a)
  told_regions n (gone by ∷ ws) rest f = absurd f.0
