-- Bits in words, and in rows of eight words.
use Rattle.std.proofs.Common.{◌≡◌, ℕ, zero, suc, ◌+◌, ◌*◌, ◌/◌, ◌%◌, ◌^◌, ◌<◌, ◌≤◌, Bool, true, false, cond, eqb, List, map, length, slice_index, count_by, count_ones, refl, ap, ap₂, subst, sym, ◌∙◌, inl, inr, arith, w64, ◌-◌}
use Rattle.std.specs.Int.{bit_at, trailing_zeros}
use lib.Count.{count_leading_zeros}
use Rattle.std.proofs.lemmas.Nat.{leading_top, pow-add, le-div, div_below}
use Rattle.std.specs.List.{range_with_len}
use Rattle.std.proofs.lemmas.Bool.{eq-eqb, ne_eqb, cases_eq, cases_lt}
use Rattle.std.proofs.lemmas.List.{map-id, take_all}
use Rattle.std.proofs.lemmas.List.FromFn.{get_or-map-range_with_len, length-map-range_with_len}
use Rattle.std.proofs.lemmas.Nat.Bits.{bit_at-zero, bit_at-lt, bit_at_above, bit_at-trailing_zeros, same_from_bits_below}
use Rattle.std.proofs.lemmas.Simd.{mask_l-lt, bit_mask_l, ones-mask_l}
use lib.Lanes.{mask_l}
use Rattle.tp_lanes.specs.Planes.{bit_of, bit_in, passing_below, HasBetween, AreEmpty}
use Rattle.tp_lanes.proofs.Passing.{counted, nothing_between}

-- ---- one word

pub bit_as_number : (x i : ℕ) → cond (bit_of x i) 1 0 ≡ bit_at x i
bit_as_number x i = elim (cases_eq (bit_at x i) 1) [
  | inl e ↦ ap (λ b. cond b 1 0) (eq-eqb (bit_at x i) 1 e) ∙ sym e
  | inr ne ↦ let less = bit_at-lt x i in let zero_there : 0 ≡ bit_at x i = omega (arith, less, ne) in ap (λ b. cond b 1 0) (ne_eqb (bit_at x i) 1 ne) ∙ zero_there
]

abbrev bits : ℕ → List Bool
bits x = map (bit_of x) (range_with_len 0 64)

mask_is : (x : ℕ) → x < 2 ^ 64 → mask_l (bits x) ≡ x
mask_is x small =
    let long : length (bits x) ≡ 64 = length-map-range_with_len (bit_of x) 0 64 in
    let below : mask_l (bits x) < 2 ^ 64 = subst (λ (k : ℕ). mask_l (bits x) < 2 ^ k) long (mask_l-lt (bits x)) in
    same_from_bits_below 64 (mask_l (bits x)) x below small
    (λ i less. bit_mask_l (bits x) i ∙ (ap (λ b. cond b 1 0) (get_or-map-range_with_len (bit_of x) 0 64 i i false less (omega arith)) ∙ bit_as_number x i))

-- how many bits a word has
pub word_ones : (x : ℕ) → x < 2 ^ 64 → passing_below (bit_of x) 64 ≡ count_ones x
word_ones x small =
    let long : length (bits x) ≡ 64 = length-map-range_with_len (bit_of x) 0 64 in
    let all = counted (bit_of x) 64 64 (omega arith) in
    let whole = ap (count_by (λ b. b)) (take_all 64 (bits x) (omega (arith, long))) in
    sym all ∙ (whole ∙ (sym (ones-mask_l (λ b. b) (bits x)) ∙ (ap (λ l. count_ones (mask_l l)) (map-id (bits x)) ∙ ap count_ones (mask_is x small))))

quotient_one : (a p q : ℕ) → q ≡ 2 * p → p ≤ a → a < q → a / p % 2 ≡ 1
quotient_one a p q e le less =
    let some : 0 < p = omega (arith, e, le, less) in
    let low = le-div 1 a p some (omega (arith, le)) in
    let high = div_below a p 2 some (omega (arith, e, less)) in
    let one : a / p ≡ 1 = omega (arith, low, high) in
    ap (λ (x : ℕ). x % 2) one

top_bit : (a j : ℕ) → 2 ^ j ≤ a → a < 2 ^ suc j → bit_at a j ≡ 1
top_bit a j le less =
    let one_more : 1 + j ≡ suc j = omega arith in
    let e : 2 ^ suc j ≡ 2 * 2 ^ j = subst (λ (x : ℕ). 2 ^ x ≡ 2 * 2 ^ j) one_more (pow-add 2 1 j) in
    quotient_one a (2 ^ j) (2 ^ suc j) e le less

-- ---- words

module _ (words : List ℕ) where
  -- the bit j of the word i
  pub at_word : (n i j : ℕ) → n ≡ 64 * i + j → j < 64 → bit_in words n ≡ bit_of (slice_index words i) j
  at_word n i j is less =
      let word : n / 64 ≡ i = omega (arith, is, less) in
      let bit : n % 64 ≡ j = omega (arith, is, less) in
      ap₂ (λ (q r : ℕ). bit_of (slice_index words q) r) word bit

  pub within_word : (i j n : ℕ) → n ≡ 64 * i + j → j ≤ 64 → passing_below (bit_in words) n ≡ passing_below (bit_in words) (64 * i) + passing_below (bit_of (slice_index words i)) j
  within_word i zero n is le =
      let e : n ≡ 64 * i = omega (arith, is) in
      let same : passing_below (bit_in words) n ≡ passing_below (bit_in words) (64 * i) = ap (passing_below (bit_in words)) e in
      omega (arith, same)
  within_word i (suc j) zero is le = omega (arith, is)
  within_word i (suc j) (suc n) is le =
      let r = within_word i j n (omega (arith, is)) (omega (arith, le)) in
      let here : ◌≡◌ {A = ℕ} (cond (bit_in words n) 1 0) (cond (bit_of (slice_index words i) j) 1 0) = ap (λ b. cond {A = ℕ} b 1 0) (at_word n i j (omega (arith, is)) (omega (arith, le))) in
      omega (arith, r, here)

  -- how many members a word has
  pub word_has : (i from to : ℕ) → from ≡ 64 * i → to ≡ 64 * i + 64 → slice_index words i < 2 ^ 64 → HasBetween (bit_in words) from to (count_ones (slice_index words i))
  word_has i from to is_from is_to small =
      let part = within_word i 64 to is_to (omega arith) in
      let ones = word_ones (slice_index words i) small in
      let low : passing_below (bit_in words) from ≡ passing_below (bit_in words) (64 * i) = ap (passing_below (bit_in words)) is_from in
      omega (arith, part, ones, low)

  pub empty_word : (n i : ℕ) → n / 64 ≡ i → slice_index words i ≡ 0 → bit_in words n ≡ false
  empty_word n i is none = ap (λ x. bit_of x (n % 64)) (ap (slice_index words) is ∙ none) ∙ ap (λ x. eqb x 1) (bit_at-zero (n % 64))

  pub empty_row : (r : ℕ) → AreEmpty words (8 * r) (8 * r + 8) → (n : ℕ) → 512 * r ≤ n → n < 512 * r + 512 → bit_in words n ≡ false
  empty_row r none n from to = empty_word n (n / 64) refl (none (n / 64) (omega (arith, from)) (omega (arith, to)))

  -- a row that has a member isn't empty
  pub filled_row : (r : ℕ) → passing_below (bit_in words) (512 * r) < passing_below (bit_in words) (512 * r + 512) → AreEmpty words (8 * r) (8 * r + 8) → ⊥
  filled_row r more none = let e = nothing_between (bit_in words) (512 * r) (512 * r + 512) (omega arith) (empty_row r none) in omega (arith, e, more)

  -- ---- the word i has a member

  module _ (i : ℕ) (here : 0 < slice_index words i) (small : slice_index words i < 2 ^ 64) where
    abbrev low : ℕ
    low = trailing_zeros w64 (slice_index words i)

    pub lowest : bit_in words (64 * i + low) ≡ true
    lowest =
        let b = bit_at-trailing_zeros w64 (slice_index words i) here small in
        at_word (64 * i + low) i low refl b.0 ∙ eq-eqb (bit_at (slice_index words i) low) 1 b.1

    pub below_lowest : (from : ℕ) → AreEmpty words from i → (k : ℕ) → 64 * from ≤ k → k < 64 * i + low → bit_in words k ≡ false
    below_lowest from none k le less = elim (cases_lt (k / 64) i) [
      | inl before ↦ empty_word k (k / 64) refl (none (k / 64) (omega (arith, le)) before)
      | inr there ↦
          let b = bit_at-trailing_zeros w64 (slice_index words i) here small in
          let j : k - 64 * i < low = omega (arith, there, less) in
          let in_word : k - 64 * i < 64 = omega (arith, j, b.0) in
          let e : bit_at (slice_index words i) (k - 64 * i) ≡ 0 = b.2 (k - 64 * i) j in
          at_word k i (k - 64 * i) (omega (arith, there)) in_word ∙ ap (λ x. eqb x 1) e
    ]

    pub highest : (top : ℕ) → count_leading_zeros 64 (slice_index words i) + suc top ≡ 64 → bit_in words (64 * i + top) ≡ true
    highest top is =
        let t = leading_top 64 (slice_index words i) here small in
        let same : t.0 ≡ top = omega (arith, t.1, is) in
        let one : bit_at (slice_index words i) top ≡ 1 = subst (λ (x : ℕ). bit_at (slice_index words i) x ≡ 1) same (top_bit (slice_index words i) t.0 t.2 t.3) in
        at_word (64 * i + top) i top refl (omega (arith, is)) ∙ eq-eqb (bit_at (slice_index words i) top) 1 one

    pub above_highest : (top : ℕ) → count_leading_zeros 64 (slice_index words i) + suc top ≡ 64 → (to : ℕ) → AreEmpty words (i + 1) to → (k : ℕ) → 64 * i + top < k → k < 64 * to → bit_in words k ≡ false
    above_highest top is to none k more less = elim (cases_lt i (k / 64)) [
      | inl behind ↦ empty_word k (k / 64) refl (none (k / 64) (omega (arith, behind)) (omega (arith, less)))
      | inr there ↦
          let t = leading_top 64 (slice_index words i) here small in
          let bound : suc t.0 ≤ k - 64 * i = omega (arith, t.1, is, more, there) in
          let e : bit_at (slice_index words i) (k - 64 * i) ≡ 0 = bit_at_above (slice_index words i) (suc t.0) (k - 64 * i) t.3 bound in
          at_word k i (k - 64 * i) (omega (arith, more)) (omega (arith, there)) ∙ ap (λ x. eqb x 1) e
    ]
