-- A plane's flags, from its words, its counts and its size.
use Rattle.std.proofs.Common.{◌≡◌, ◌≢◌, ℕ, zero, suc, ◌+◌, ◌*◌, ◌/◌, ◌^◌, ◌<◌, ◌≤◌, Bool, true, false, cond, List, length, take, set, get_or, count_by, ap, subst, sym, ◌∙◌, inl, inr, arith, add-one}
use Rattle.std.specs.List.{sum}
use Rattle.std.proofs.lemmas.Bool.{cases_lt, cases_eq, both_ways}
use Rattle.std.proofs.lemmas.List.{length-set, get_or-set_same, get_or-set_other, get_or_past, take_all, ext_get_or}
use Rattle.std.proofs.lemmas.List.FromFn.{get_or-map-range_with_len, length-map-range_with_len}
use Rattle.std.proofs.lemmas.List.Sums.{sum_by_more}
use Rattle.tp_lanes.specs.Planes.{flag, bit_in, flags_below, passing_below, HasBetween, IsPlane, AreEmpty}
use Rattle.tp_lanes.proofs.Passing.{upward, at_most, counts_there, none_between, nothing_between, counted, count_stays, edited_behind, edited_before}
use Rattle.tp_lanes.proofs.Words.{filled_row}

pub length_is : (bound : ℕ) (words : List ℕ) → length (flags_below bound words) ≡ bound
length_is bound words = length-map-range_with_len (bit_in words) 0 bound

-- as many flags as callers see
pub seen_long : (bound : ℕ) (words : List ℕ) {xs : List Bool} → flags_below bound words ≡ xs → bound ≡ length xs
seen_long bound words seen = sym (length_is bound words) ∙ ap length seen

pub flag_below : (bound : ℕ) (words : List ℕ) (n : ℕ) → n < bound → flag (flags_below bound words) n ≡ bit_in words n
flag_below bound words n less = get_or-map-range_with_len (bit_in words) 0 bound n n false less (omega arith)

-- a number that doesn't pass leaves room
pub room_left : (f : ℕ → Bool) (n b : ℕ) → n < b → f n ≡ false → passing_below f b + 1 ≤ b
room_left f n b less none =
    let here : ◌≡◌ {A = ℕ} (cond (f n) 1 0) 0 = ap (λ c. cond {A = ℕ} c 1 0) none in
    let low = at_most f 0 n (omega arith) in
    let high = at_most f (suc n) b less in
    omega (arith, here, low, high)

-- flags that differ at n alone
pub edited_flags : (bound : ℕ) (words others : List ℕ) (n : ℕ) (b : Bool) → n < bound → bit_in others n ≡ b → ((i : ℕ) → i ≢ n → bit_in words i ≡ bit_in others i)
    → flags_below bound others ≡ set (flags_below bound words) n b
edited_flags bound words others n b less here same =
    let long = length_is bound words in
    let other_long = length_is bound others in
    ext_get_or false (flags_below bound others) (set (flags_below bound words) n b)
    (other_long ∙ (sym long ∙ sym (length-set (flags_below bound words) n b)))
    (λ i within.
    let i_less : i < bound = omega (arith, within, other_long) in
    flag_below bound others i i_less ∙ elim (cases_eq i n) [
      | inl e ↦ ap (bit_in others) e ∙ (here ∙ (sym (get_or-set_same (flags_below bound words) n b false (omega (arith, long, less))) ∙ ap (λ (k : ℕ). get_or (set (flags_below bound words) n b) k false) (sym e)))
      | inr ne ↦ sym (same i ne) ∙ (sym (flag_below bound words i i_less) ∙ sym (get_or-set_other (flags_below bound words) n i b false ne))
    ])

module _ (bound : ℕ) (words rows : List ℕ) (size : ℕ) (p : IsPlane bound words rows size) where
  pub flag_is : (n : ℕ) → flag (flags_below bound words) n ≡ bit_in words n
  flag_is n = elim (cases_lt n bound) [
    | inl less ↦ flag_below bound words n less
    | inr more ↦ let long = length_is bound words in get_or_past (flags_below bound words) n false (omega (arith, long, more)) ∙ sym (p.beyond n more)
  ]

  -- a member, found in the same words, is one that callers see
  pub member_seen : {xs : List Bool} → flags_below bound words ≡ xs → {ws : List ℕ} → ws ≡ words → (n : ℕ) → bit_in ws n ≡ true → flag xs n ≡ true
  member_seen seen e n member = sym (ap (λ (ys : List Bool). flag ys n) seen) ∙ (flag_is n ∙ (sym (ap (λ (ys : List ℕ). bit_in ys n) e) ∙ member))

  pub word_within : (n : ℕ) → n < bound → n / 64 < length words
  word_within n less = omega (arith, less, p.words_are, p.rows_are)

  pub row_within : (n : ℕ) → n < bound → n / 512 < length rows
  row_within n less = omega (arith, less, p.rows_are)

  pub row_fits : (r : ℕ) → r < length rows → 512 * r + 512 ≤ 2 ^ 64
  row_fits r less = omega (arith, less, p.rows_are, p.bounded)

  pub whole : passing_below (bit_in words) (512 * length rows) ≡ passing_below (bit_in words) bound
  whole = sym (nothing_between (bit_in words) bound (512 * length rows) (omega (arith, p.rows_are)) (λ k from to. p.beyond k from))

  pub count_is : size ≡ count_by (λ b. b) (flags_below bound words)
  count_is =
      let long = length_is bound words in
      p.size_is ∙ (sym (counted (bit_in words) bound bound (omega arith)) ∙ ap (count_by (λ b. b)) (take_all bound (flags_below bound words) (omega (arith, long))))

  pub sum_rows : (r : ℕ) → r ≤ length rows → sum (take r rows) ≡ passing_below (bit_in words) (512 * r)
  sum_rows zero le = let e : 0 ≡ 512 * zero = omega arith in ap (passing_below (bit_in words)) e
  sum_rows (suc r) le =
      let low = sum_rows r (omega (arith, le)) in
      let more = sum_by_more (λ x. x) rows r 0 (omega (arith, le)) in
      let e : sum (take (r + 1) rows) ≡ sum (take (suc r) rows) = ap (λ (i : ℕ). sum (take i rows)) (add-one r) in
      let to : 512 * r + 512 ≡ 512 * suc r = omega arith in
      let high : passing_below (bit_in words) (512 * r + 512) ≡ passing_below (bit_in words) (512 * suc r) = ap (passing_below (bit_in words)) to in
      let has = p.counts r (omega (arith, le)) in
      omega (arith, low, more, e, high, has)

  -- the sum of the counts is the count of all
  pub sum_is : sum rows ≡ size
  sum_is =
      let all = sum_rows (length rows) (omega arith) in
      let e : sum (take (length rows) rows) ≡ sum rows = ap sum (take_all (length rows) rows (omega arith)) in
      omega (arith, all, e, whole, p.size_is)

  pub row_clear : (r : ℕ) → r < length rows → get_or rows r 0 ≡ 0 → (n : ℕ) → 512 * r ≤ n → n < 512 * r + 512 → bit_in words n ≡ false
  row_clear r less none n from to =
      let has = p.counts r less in
      none_between (bit_in words) (512 * r) (512 * r + 512) n (omega (arith, has, none)) from to

  -- no row has a member
  pub all_clear : ((k : ℕ) → k < length rows → get_or rows k 0 ≡ 0) → (n : ℕ) → flag (flags_below bound words) n ≡ false
  all_clear none n = flag_is n ∙ elim (cases_lt n bound) [
    | inl less ↦ row_clear (n / 512) (row_within n less) (none (n / 512) (row_within n less)) n (omega arith) (omega arith)
    | inr more ↦ p.beyond n more
  ]

  pub row_filled : (r : ℕ) → r < length rows → 0 < get_or rows r 0 → AreEmpty words (8 * r) (8 * r + 8) → ⊥
  row_filled r less some = let has = p.counts r less in filled_row words r (omega (arith, has, some))

  pub least_is : (row n : ℕ) → row < length rows → ((k : ℕ) → k < row → get_or rows k 0 ≡ 0) → ((k : ℕ) → 512 * row ≤ k → k < n → bit_in words k ≡ false)
      → (k : ℕ) → flag (flags_below bound words) k ≡ true → n ≤ k
  least_is row n less before here k yea = elim (cases_lt k n) [
    | inl low ↦ absurd (both_ways (bit_in words k) (elim (cases_lt k (512 * row)) [
      | inl earlier ↦
          let e : k / 512 < row = omega (arith, earlier) in
          row_clear (k / 512) (omega (arith, e, less)) (before (k / 512) e) k (omega arith) (omega arith)
      | inr there ↦ here k there low
    ]) (sym (flag_is k) ∙ yea))
    | inr high ↦ high
  ]

  pub greatest_is : (row n : ℕ) → row < length rows → ((k : ℕ) → row + 1 ≤ k → k < length rows → get_or rows k 0 ≡ 0) → ((k : ℕ) → n < k → k < 512 * row + 512 → bit_in words k ≡ false)
      → (k : ℕ) → flag (flags_below bound words) k ≡ true → k ≤ n
  greatest_is row n less behind here k yea = elim (cases_lt n k) [
    | inl high ↦ absurd (both_ways (bit_in words k) (elim (cases_lt k (512 * row + 512)) [
      | inl there ↦ here k high there
      | inr later ↦ elim (cases_lt k bound) [
        | inl within ↦
            let e : row + 1 ≤ k / 512 = omega (arith, later) in
            row_clear (k / 512) (row_within k within) (behind (k / 512) e (row_within k within)) k (omega arith) (omega arith)
        | inr past ↦ p.beyond k past
      ]
    ]) (sym (flag_is k) ∙ yea))
    | inr low ↦ low
  ]

  -- ---- one bit of another value

  pub row_small : (r : ℕ) → r < length rows → get_or rows r 0 ≤ 512
  row_small r less = let has = p.counts r less in let most = at_most (bit_in words) (512 * r) (512 * r + 512) (omega arith) in omega (arith, has, most)

  pub row_has : (n : ℕ) → n < bound → bit_in words n ≡ true → 0 < get_or rows (n / 512) 0
  row_has n less yea =
      let has = p.counts (n / 512) (row_within n less) in
      let there = counts_there (bit_in words) n (512 * (n / 512) + 512) (omega arith) yea in
      let up = upward (bit_in words) (512 * (n / 512)) n (omega arith) in
      omega (arith, has, there, up)

  pub size_has : (n : ℕ) → n < bound → bit_in words n ≡ true → 0 < size
  size_has n less yea = let there = counts_there (bit_in words) n bound less yea in omega (arith, there, p.size_is)

  pub size_room : (n : ℕ) → n < bound → bit_in words n ≡ false → size + 1 < 2 ^ 64
  size_room n less none = let r = room_left (bit_in words) n bound less none in omega (arith, r, p.size_is, p.bounded)

  module _ (others : List ℕ) (n count total : ℕ) (less : n < bound) (long : length others ≡ length words) (same : (i : ℕ) → i ≢ n → bit_in words i ≡ bit_in others i)
      (row : count + cond (bit_in words n) 1 0 ≡ get_or rows (n / 512) 0 + cond (bit_in others n) 1 0)
      (all : total + cond (bit_in words n) 1 0 ≡ size + cond (bit_in others n) 1 0) where
    counts_then : (r : ℕ) → r < length (set rows (n / 512) count) → HasBetween (bit_in others) (512 * r) (512 * r + 512) (get_or (set rows (n / 512) count) r 0)
    counts_then r within =
        let r_less : r < length rows = omega (arith, within, length-set rows (n / 512) count) in
        let has = p.counts r r_less in
        elim (cases_eq r (n / 512)) [
          | inl e ↦
              let now : get_or (set rows (n / 512) count) r 0 ≡ count = ap (λ (k : ℕ). get_or (set rows (n / 512) count) k 0) e ∙ get_or-set_same rows (n / 512) count 0 (row_within n less) in
              let was : get_or rows r 0 ≡ get_or rows (n / 512) 0 = ap (λ (k : ℕ). get_or rows k 0) e in
              let low = edited_behind (bit_in words) (bit_in others) n same (512 * r) (omega (arith, e)) in
              let high = edited_before (bit_in words) (bit_in others) n same (512 * r + 512) (omega (arith, e)) in
              omega (arith, has, now, was, low, high, row)
          | inr ne ↦ subst (HasBetween (bit_in others) (512 * r) (512 * r + 512)) (sym (get_or-set_other rows (n / 512) r count 0 ne))
              (count_stays (bit_in words) (bit_in others) (512 * r) (512 * r + 512) (get_or rows r 0) (omega arith)
              (λ k from to. same k (λ e. ne (omega (arith, e, from, to)))) has)
        ]

    pub edited : IsPlane bound others (set rows (n / 512) count) total
    edited =
        let high = edited_before (bit_in words) (bit_in others) n same bound less in
        record {
          bounded = p.bounded;
          rows_are = length-set rows (n / 512) count ∙ p.rows_are;
          words_are = omega (arith, long, p.words_are, length-set rows (n / 512) count);
          beyond = λ k le. sym (same k (λ e. omega (arith, e, le, less))) ∙ p.beyond k le;
          counts = counts_then;
          size_is = omega (arith, high, p.size_is, all);
        }
