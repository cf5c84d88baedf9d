-- Lists of slots and of regions, as the code has them.
use Rattle.std.proofs.Common.{◌≡◌, ℕ, zero, suc, ◌+◌, ◌-◌, ◌≤◌, ◌<◌, false, List, [], ◌∷◌, ◌++◌, map, length, get_or, Option, None, refl, ap, sym, ◌∙◌, subst, arith}
use Rattle.std.specs.Prelude.{slice_set}
use Rattle.std.specs.List.{range_with_len}
use Rattle.std.proofs.lemmas.List.{append_assoc, map-set, map-append, get_or-map, set-get_or}
use Rattle.tp_scene.specs.Scene.{Side}
use Rattle.tp_slots.specs.Plain as plain
use Rattle.tp_slots.specs.Replace.{home_in, gone_at, marked_slot, marked_at}
use Rattle.tp_slots.specs.Row.{slots_in, begun, hold, hold_all, AreBelow, AllBelow}
use Rattle.tp_slots.specs.Reductions.{AreBare}
use Rattle.tp_slots.specs.Read.{slot_of, region_slot_of, what_of}
use Rattle.tp_slots.specs.declared.scene.Slot.{Slot}
use Rattle.tp_slots.specs.declared.scene.Region.{Region}
use Rattle.tp_slots.specs.declared.scene.What.{What}

pub range_more : (a n : ℕ) → range_with_len a (n + 1) ≡ range_with_len a n ++ (a + n) ∷ []
range_more a n = subst (λ m. range_with_len a m ≡ range_with_len a n ++ (a + n) ∷ []) (let e : suc n ≡ n + 1 = omega arith in e) (one a n)
  where
    one : (a n : ℕ) → range_with_len a (suc n) ≡ range_with_len a n ++ (a + n) ∷ []
    one a zero = let e : a ≡ a + 0 = omega arith in ap (λ x. x ∷ []) e
    one a (suc n) = ap (λ xs. a ∷ xs) (one (a + 1) n ∙ (let e : a + 1 + n ≡ a + suc n = omega arith in ap (λ x. range_with_len (a + 1) n ++ x ∷ []) e))

pub home_is : (xs : List Slot) (at : ℕ) (d : Slot) → at < length xs → (get_or xs at d).home ≡ home_in (map slot_of xs) at
home_is xs at d l = ap (λ (x : plain.Slot). x.home) (sym (get_or-map slot_of xs at d (record { home = 0; what = plain.gone [] }) l))

pub gone_is : (xs : List Slot) (at : ℕ) (d : Slot) (w : What) (by : List ℕ) → at < length xs → what_of w ≡ plain.gone by → map slot_of (slice_set xs at (record { home = (get_or xs at d).home; after = (get_or xs at d).after; what = w })) ≡ gone_at (map slot_of xs) at by
gone_is xs at d w by l e =
    map-set slot_of xs at (record { home = (get_or xs at d).home; after = (get_or xs at d).after; what = w })
    ∙ (let h = home_is xs at d l in ap (slice_set (map slot_of xs) at) (λ i. record { home = h i; what = e i }))

-- what is visited after it stays
pub after_is : (xs : List Slot) (at : ℕ) (d : Slot) (w : What) → at < length xs → map (λ x. x.after) (slice_set xs at (record { home = (get_or xs at d).home; after = (get_or xs at d).after; what = w })) ≡ map (λ x. x.after) xs
after_is xs at d w l =
    let after : Slot → Option ℕ = λ x. x.after in
    map-set after xs at (record { home = (get_or xs at d).home; after = (get_or xs at d).after; what = w })
    ∙ (ap (slice_set (map after xs) at) (sym (get_or-map after xs at d None l)) ∙ set-get_or (map after xs) at None)

region_is : (xs : List Region) (at : ℕ) (d : Region) → at < length xs → region_slot_of (get_or xs at d) ≡ get_or (map region_slot_of xs) at (record { ends = false; goes = false; roots = [] })
region_is xs at d l = sym (get_or-map region_slot_of xs at d (record { ends = false; goes = false; roots = [] }) l)

-- a region that is read as it was
pub set_same : {A : Type 0} (f : Region → A) (xs : List Region) (at : ℕ) (d y : Region) → at < length xs → f y ≡ f (get_or xs at d) → map f (slice_set xs at y) ≡ map f xs
set_same f xs at d y l e = map-set f xs at y ∙ (ap (slice_set (map f xs) at) (e ∙ sym (get_or-map f xs at d (f d) l)) ∙ set-get_or (map f xs) at (f d))

pub set_marked : (xs : List Region) (at : ℕ) (d y : Region) (m : Option Side) → at < length xs → region_slot_of y ≡ marked_slot m (region_slot_of (get_or xs at d)) → map region_slot_of (slice_set xs at y) ≡ marked_at (map region_slot_of xs) at m
set_marked xs at d y m l e = map-set region_slot_of xs at y ∙ ap (slice_set (map region_slot_of xs) at) (e ∙ ap (marked_slot m) (region_is xs at d l))

pub unmarked_is : (xs : List plain.RegionSlot) (at : ℕ) → xs ≡ marked_at xs at None
unmarked_is xs at = sym (set-get_or xs at (record { ends = false; goes = false; roots = [] }))

slots_more : (home : ℕ) (ws : List plain.What) (w : plain.What) → slots_in home (ws ++ w ∷ []) ≡ slots_in home ws ++ record { home = home; what = w } ∷ []
slots_more home [] w = refl
slots_more home (v ∷ ws) w = ap (λ l. record { home = home; what = v } ∷ l) (slots_more home ws w)

pub slots_then : (home : ℕ) (base old new : List plain.Slot) (ws : List plain.What) (w : plain.What) → new ≡ old ++ record { home = home; what = w } ∷ [] → old ≡ base ++ slots_in home ws → new ≡ base ++ slots_in home (ws ++ w ∷ [])
slots_then home base old new ws w e was =
    let x : plain.Slot = record { home = home; what = w } in
    e ∙ (ap (λ l. l ++ x ∷ []) was ∙ (append_assoc base (slots_in home ws) (x ∷ []) ∙ ap (λ l. base ++ l) (sym (slots_more home ws w))))

pub hold_more : (n : ℕ) (ws : List plain.What) (w : plain.What) (hs : List ℕ) → hold_all n (ws ++ w ∷ []) hs ≡ hold (n + length ws) w (hold_all n ws hs)
hold_more n [] w hs = let e : n ≡ n + 0 = omega arith in ap (λ i. hold i w hs) e
hold_more n (v ∷ ws) w hs = hold_more (n + 1) ws w (hold n v hs) ∙ (let e : n + 1 + length ws ≡ n + suc (length ws) = omega arith in ap (λ i. hold i w (hold_all (n + 1) ws (hold n v hs))) e)

pub below_at : (c : ℕ) (ws : List plain.What) (i : ℕ) (d : plain.What) → AllBelow c ws → i < length ws → AreBelow c (get_or ws i d)
below_at c [] i d b l = absurd (omega (arith, l))
below_at c (w ∷ ws) zero d b l = b.0
below_at c (w ∷ ws) (suc i) d b l = below_at c ws i d b.1 (omega (arith, l))

pub hold_bare : (n : ℕ) (ws vs : List plain.What) (hs : List ℕ) → AreBare ws → hold_all n (ws ++ vs) hs ≡ hold_all (n + length ws) vs hs
hold_bare n [] vs hs b = let e : n ≡ n + 0 = omega arith in ap (λ i. hold_all i vs hs) e
hold_bare n (plain.bare l ∷ ws) vs hs b = hold_bare (n + 1) ws vs hs b.1 ∙ (let e : n + 1 + length ws ≡ n + suc (length ws) = omega arith in ap (λ i. hold_all i vs hs) e)
hold_bare n (plain.holds k p o ∷ ws) vs hs b = absurd b.0
hold_bare n (plain.gone by ∷ ws) vs hs b = absurd b.0

abbrev pub seen : Slot → plain.What
seen x = what_of x.what

seen_slots : (xs : List Slot) → map seen xs ≡ map (λ (y : plain.Slot). y.what) (map slot_of xs)
seen_slots [] = refl
seen_slots (x ∷ xs) = ap (λ l. seen x ∷ l) (seen_slots xs)

whats_in : (home : ℕ) (ws : List plain.What) → map (λ (y : plain.Slot). y.what) (slots_in home ws) ≡ ws
whats_in home [] = refl
whats_in home (w ∷ ws) = ap (λ l. w ∷ l) (whats_in home ws)

-- what stands in the new slots
pub news_are : (r h : ℕ) (ins outs : List plain.What) (mid all : List Slot) → map slot_of mid ≡ slots_in r ins → map slot_of all ≡ map slot_of mid ++ slots_in h outs → map seen all ≡ ins ++ outs
news_are r h ins outs mid all a b =
    seen_slots all
    ∙ (ap (map (λ (y : plain.Slot). y.what)) (b ∙ ap (λ l. l ++ slots_in h outs) a)
    ∙ (map-append (λ (y : plain.Slot). y.what) (slots_in r ins) (slots_in h outs)
    ∙ (let x = whats_in r ins in let y = whats_in h outs in λ i. x i ++ y i)))

pub all_below : (c : ℕ) (ins outs : List plain.What) → AreBare ins → AllBelow c outs → AllBelow c (ins ++ outs)
all_below c [] outs a b = b
all_below c (plain.bare l ∷ ws) outs a b = (tt, all_below c ws outs a.1 b)
all_below c (plain.holds k p o ∷ ws) outs a b = absurd a.0
all_below c (plain.gone by ∷ ws) outs a b = absurd a.0

pub begun_count : (n m c : ℕ) → length (begun n c) ≡ length (begun m c)
begun_count n m zero = refl
begun_count n m (suc c) = refl

-- Where each list goes before the one that is added first, the numbers before those of a range are added after them.
pub range_before : {A : Type 0} (back : List ℕ → List A) (one : ℕ → A) → ((x : ℕ) (xs : List ℕ) → back (x ∷ xs) ≡ back xs ++ one x ∷ []) → (before : List A) (first count left : ℕ) → 0 < left → left ≤ count
    → (before ++ back (range_with_len (first + left) (count - left))) ++ one (first + (left - 1)) ∷ [] ≡ before ++ back (range_with_len (first + (left - 1)) (count - (left - 1)))
range_before back one is before first count left a i =
    let k = left - 1 in
    let n : count - k ≡ suc (count - left) = omega (arith, i, a) in
    let m : first + left ≡ first + k + 1 = omega (arith, a) in
    append_assoc before (back (range_with_len (first + left) (count - left))) (one (first + k) ∷ [])
    ∙ (ap (λ j. before ++ (back (range_with_len j (count - left)) ++ one (first + k) ∷ [])) m
    ∙ (ap (λ l. before ++ l) (sym (is (first + k) (range_with_len (first + k + 1) (count - left))))
    ∙ ap (λ j. before ++ back (range_with_len (first + k) j)) (sym n)))
