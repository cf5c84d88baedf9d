-- From the lanes of a load to the bytes of a class.
use Rattle.std.proofs.Common.{refl, ap, ap₂, sym, subst, ◌∙◌, ◌≡◌, ◌≢◌, ℕ, ◌+◌, ◌%◌, ◌^◌, ◌<◌, ◌≤◌, Bool, true, false, cond, not, ◌&&◌, ◌||◌, nat_lt, nat_le, eqb, List, [], ◌∷◌, map, length, take, drop, slice_index, replicate, bit_and, bit_or, arith}
use Rattle.std.specs.List.{prefix_len}
use Rattle.std.proofs.lemmas.Bool.Decides.{nat_tests}
use Rattle.std.proofs.lemmas.Bool.{cond-true, cond-false, eq-eqb, ne_eqb}
use Rattle.std.proofs.lemmas.List.Folds.{prefix_len-append}
use Rattle.std.proofs.lemmas.List.Sums.{prefix_len-le-length}
use Rattle.std.proofs.lemmas.List.{length-map}
use Rattle.std.proofs.lemmas.Simd.{map-map, mask_l-mod, first_set_mask_l, chunk-drop, length-chunk, zip2_splat, zip2_splat_left, zip2_of_maps}
use lib.Lanes.{mask_l, top, zip2}
use Rattle.tp_lanes.specs.declared.class.Class.{Class}
use Rattle.tp_lanes.specs.Classes.{in_range, in_class, range_ends, first_set}

-- ---- one load

-- a lane that tells whether a byte lies outside of a range
abbrev pub out_lane : ℕ × ℕ → ℕ → ℕ
out_lane e x = bit_or (cond (nat_lt x e.0) 255 0) (cond (nat_lt e.1 x) 255 0)

-- and outside of four
abbrev pub out_lanes : ℕ × ℕ → ℕ × ℕ → ℕ × ℕ → ℕ × ℕ → ℕ → ℕ
out_lanes e f g h x = bit_and (bit_and (bit_and (out_lane e x) (out_lane f x)) (out_lane g x)) (out_lane h x)

-- the lanes of a comparison
abbrev pub less : ℕ → ℕ → ℕ
less a b = cond (nat_lt a b) 255 0

out_of : (v : List ℕ) (e : ℕ × ℕ) → length v ≡ 16 → zip2 bit_or (zip2 less v (replicate 16 e.0)) (zip2 less (replicate 16 e.1) v) ≡ map (out_lane e) v
out_of v e long = zip2_of_maps bit_or (λ x. less x e.0) (λ x. less e.1 x) v (zip2_splat less v 16 e.0 long) (zip2_splat_left less e.1 16 v long)

-- the lanes of the load
pub out_of_four : (v : List ℕ) (e f g h : ℕ × ℕ) → length v ≡ 16
    → zip2 bit_and (zip2 bit_and (zip2 bit_and (zip2 bit_or (zip2 less v (replicate 16 e.0)) (zip2 less (replicate 16 e.1) v)) (zip2 bit_or (zip2 less v (replicate 16 f.0)) (zip2 less (replicate 16 f.1) v)))
    (zip2 bit_or (zip2 less v (replicate 16 g.0)) (zip2 less (replicate 16 g.1) v))) (zip2 bit_or (zip2 less v (replicate 16 h.0)) (zip2 less (replicate 16 h.1) v)) ≡ map (out_lanes e f g h) v
out_of_four v e f g h long =
    zip2_of_maps bit_and (λ x. bit_and (bit_and (out_lane e x) (out_lane f x)) (out_lane g x)) (out_lane h) v
    (zip2_of_maps bit_and (λ x. bit_and (out_lane e x) (out_lane f x)) (out_lane g) v (zip2_of_maps bit_and (out_lane e) (out_lane f) v (out_of v e long) (out_of v f long)) (out_of v g long)) (out_of v h long)

or_lanes : (a b : Bool) → bit_or (cond a 255 0) (cond b 255 0) ≡ cond (a || b) 255 0
or_lanes true true = refl
or_lanes true false = refl
or_lanes false true = refl
or_lanes false false = refl

beyond : (l u x : ℕ) → (nat_lt x l || nat_lt u x) ≡ not (nat_le l x && nat_le x u)
beyond l u x = grind (arith, nat_tests)

beyond_none : (x : ℕ) → (nat_lt x 255 || nat_lt 0 x) ≡ true
beyond_none x = grind (arith, nat_tests)

outside : (class : Class) (i x : ℕ) (counts : Bool) → nat_lt i class.count ≡ counts
    → (nat_lt x (cond {A = ℕ × ℕ} counts (slice_index class.from i, slice_index class.to i) (255, 0)).0 || nat_lt (cond {A = ℕ × ℕ} counts (slice_index class.from i, slice_index class.to i) (255, 0)).1 x)
    ≡ not (counts && (nat_le (slice_index class.from i) x && nat_le x (slice_index class.to i)))
outside class i x true e = beyond (slice_index class.from i) (slice_index class.to i) x
outside class i x false e = beyond_none x

lane_is : (class : Class) (i x : ℕ) (e : ℕ × ℕ) → e ≡ range_ends class i → out_lane e x ≡ cond (not (in_range class i x)) 255 0
lane_is class i x e is = ap (λ d. out_lane d x) is ∙ (or_lanes _ _ ∙ ap (λ b. cond b 255 0) (outside class i x (nat_lt i class.count) refl))

and_lanes : (a b : Bool) → bit_and (cond a 255 0) (cond b 255 0) ≡ cond (a && b) 255 0
and_lanes true true = refl
and_lanes true false = refl
and_lanes false true = refl
and_lanes false false = refl

top_lane : (a : Bool) → top 7 (cond a 255 0) ≡ a
top_lane true = refl
top_lane false = refl

none_of : (a b c d : Bool) → not (((not a && not b) && not c) && not d) ≡ (a || (b || (c || d)))
none_of true b c d = refl
none_of false true c d = refl
none_of false false true d = refl
none_of false false false true = refl
none_of false false false false = refl

same_run : (p q : ℕ → Bool) → ((x : ℕ) → p x ≡ q x) → (xs : List ℕ) → prefix_len p xs ≡ prefix_len q xs
same_run p q same [] = refl
same_run p q same (x ∷ xs) = ap₂ (λ b n. cond b (1 + n) 0) (same x) (same_run p q same xs)

module _ (class : Class) (e f g h : ℕ × ℕ) (is_e : e ≡ range_ends class 0) (is_f : f ≡ range_ends class 1) (is_g : g ≡ range_ends class 2) (is_h : h ≡ range_ends class 3) where
  abbrev stops : ℕ → Bool
  stops x = top 7 (out_lanes e f g h x)

  -- the byte lies in the range
  abbrev has : ℕ → ℕ → Bool
  has i x = in_range class i x

  lanes_are : (x : ℕ) → out_lanes e f g h x ≡ cond (((not (has 0 x) && not (has 1 x)) && not (has 2 x)) && not (has 3 x)) 255 0
  lanes_are x =
      let two = ap₂ bit_and (lane_is class 0 x e is_e) (lane_is class 1 x f is_f) ∙ and_lanes (not (has 0 x)) (not (has 1 x)) in
      let three = ap₂ bit_and two (lane_is class 2 x g is_g) ∙ and_lanes (not (has 0 x) && not (has 1 x)) (not (has 2 x)) in
      ap₂ bit_and three (lane_is class 3 x h is_h) ∙ and_lanes ((not (has 0 x) && not (has 1 x)) && not (has 2 x)) (not (has 3 x))

  stops_is : (x : ℕ) → not (stops x) ≡ in_class class x
  stops_is x = ap (λ n. not (top 7 n)) (lanes_are x) ∙ (ap not (top_lane (((not (has 0 x) && not (has 1 x)) && not (has 2 x)) && not (has 3 x))) ∙ none_of (has 0 x) (has 1 x) (has 2 x) (has 3 x))

  -- the first lane that stops comes behind the bytes of the class
  pub run_is : (v z : List ℕ) (r : ℕ) → length v ≡ 16 → z ≡ map (out_lanes e f g h) v → r ≡ first_set (mask_l (map (top 7) z) % 2 ^ 64) → r ≡ prefix_len (in_class class) v
  run_is v z r long lanes found =
      let mask : mask_l (map (top 7) z) % 2 ^ 64 ≡ mask_l (map stops v) = ap (λ l. mask_l l % 2 ^ 64) (ap (map (top 7)) lanes ∙ map-map (top 7) (out_lanes e f g h) v) ∙ mask_l-mod (map stops v) 64 (omega (arith, length-map v stops, long)) in
      found ∙ (ap first_set mask ∙ (first_set_mask_l stops v 16 long (omega arith) ∙ same_run (λ x. not (stops x)) (in_class class) stops_is v))

-- ---- a run by blocks

-- what is left begins with a block
block : (p : ℕ → Bool) (z : List ℕ) (at n : ℕ) → at + n ≤ length z
    → prefix_len p (drop at z) ≡ cond (eqb (prefix_len p (take n (drop at z))) n) (n + prefix_len p (drop (at + n) z)) (prefix_len p (take n (drop at z)))
block p z at n room =
    ap (prefix_len p) (chunk-drop at n z) ∙ (prefix_len-append p (take n (drop at z)) (drop (at + n) z)
    ∙ ap (λ m. cond (eqb (prefix_len p (take n (drop at z))) m) (m + prefix_len p (drop (at + n) z)) (prefix_len p (take n (drop at z)))) (length-chunk at n z room))

pub run_low : (p : ℕ → Bool) (z : List ℕ) (at n r : ℕ) → at + n ≤ length z → r ≡ prefix_len p (take n (drop at z)) → at + r ≤ length z
run_low p z at n r room is = omega (arith, is, prefix_len-le-length p (take n (drop at z)), length-chunk at n z room)

-- the run ends within the block
pub short_run : (p : ℕ → Bool) (z : List ℕ) (at n r : ℕ) → at + n ≤ length z → r ≡ prefix_len p (take n (drop at z)) → r < n
    → prefix_len p z ≡ at + prefix_len p (drop at z) → at + r ≡ prefix_len p z
short_run p z at n r room is less so_far =
    let other : prefix_len p (take n (drop at z)) ≢ n = λ e. omega (arith, is, e, less) in
    let left : prefix_len p (drop at z) ≡ r = block p z at n room ∙ (cond-false _ _ _ (ne_eqb _ _ other) ∙ sym is) in
    omega (arith, so_far, left)

-- the whole block is of the run
pub full_run : (p : ℕ → Bool) (z : List ℕ) (at n r : ℕ) → at + n ≤ length z → r ≡ prefix_len p (take n (drop at z)) → n ≤ r
    → prefix_len p z ≡ at + prefix_len p (drop at z) → prefix_len p z ≡ (at + r) + prefix_len p (drop (at + r) z)
full_run p z at n r room is more so_far =
    let whole : prefix_len p (take n (drop at z)) ≡ n = omega (arith, is, more, prefix_len-le-length p (take n (drop at z)), length-chunk at n z room) in
    let left : prefix_len p (drop at z) ≡ n + prefix_len p (drop (at + n) z) = block p z at n room ∙ cond-true _ _ _ (eq-eqb _ _ whole) in
    let same : r ≡ n = is ∙ whole in
    let later : prefix_len p z ≡ (at + n) + prefix_len p (drop (at + n) z) = omega (arith, so_far, left) in
    subst (λ (k : ℕ). prefix_len p z ≡ (at + k) + prefix_len p (drop (at + k) z)) (sym same) later
