-- One bit of a word set or cleared, planes with no members, planes joined.
use Rattle.std.proofs.Common.{◌≡◌, ◌≢◌, ℕ, ◌+◌, ◌*◌, ◌/◌, ◌%◌, ◌^◌, ◌<◌, ◌≤◌, false, eqb, ◌||◌, List, length, set, get_or, replicate, bit_or, max, refl, ap, ap₂, sym, ◌∙◌, inl, inr, arith}
use Rattle.std.specs.Int.{bit_at}
use Rattle.std.proofs.lemmas.Bool.{cases_lt, cases_eq, or_from, eq-eqb, ne_eqb}
use Rattle.std.proofs.lemmas.List.{get_or-set_same, get_or-set_other, get_or_past, get_or-replicate, length-replicate, ext_get_or}
use Rattle.std.proofs.lemmas.Nat.Bits.{bit_at-lt, bit_at_or}
use Rattle.tp_lanes.specs.Planes.{flag, bit_of, bit_in, flags_below, passing_below, HasBetween, IsPlane}
use Rattle.tp_lanes.proofs.Passing.{nothing_between, at_most}
use Rattle.tp_lanes.proofs.Words.{empty_word}
use Rattle.tp_lanes.proofs.Planes.{length_is, flag_below, flag_is}

-- ---- one bit

module _ (words : List ℕ) (n v a : ℕ) (within : n / 64 < length words) (read : v ≡ get_or words (n / 64) 0) where
  pub bit_here : bit_in (set words (n / 64) a) n ≡ bit_of a (n % 64)
  bit_here = ap (λ (x : ℕ). bit_of x (n % 64)) (get_or-set_same words (n / 64) a 0 within)

  pub bits_elsewhere : ((j : ℕ) → j < 64 → j ≢ n % 64 → bit_at a j ≡ bit_at v j) → (i : ℕ) → i ≢ n → bit_in words i ≡ bit_in (set words (n / 64) a) i
  bits_elsewhere same i ne = elim (cases_eq (i / 64) (n / 64)) [
    | inl e ↦
        let apart : i % 64 ≢ n % 64 = λ f. ne (omega (arith, e, f)) in
        let was : get_or words (i / 64) 0 ≡ v = ap (λ (k : ℕ). get_or words k 0) e ∙ sym read in
        let now : get_or (set words (n / 64) a) (i / 64) 0 ≡ a = ap (λ (k : ℕ). get_or (set words (n / 64) a) k 0) e ∙ get_or-set_same words (n / 64) a 0 within in
        ap (λ (x : ℕ). bit_of x (i % 64)) was ∙ (ap (λ (b : ℕ). eqb b 1) (sym (same (i % 64) (omega arith) apart)) ∙ ap (λ (x : ℕ). bit_of x (i % 64)) (sym now))
    | inr other ↦ ap (λ (x : ℕ). bit_of x (i % 64)) (sym (get_or-set_other words (n / 64) (i / 64) a 0 other))
  ]

-- ---- no members

no_words : (m k : ℕ) → get_or {A = ℕ} (replicate m 0) k 0 ≡ 0
no_words m k = elim (cases_lt k m) [
  | inl less ↦ get_or-replicate {A = ℕ} m k 0 0 less
  | inr more ↦ let long = length-replicate {A = ℕ} m 0 in get_or_past (replicate m 0) k 0 (omega (arith, long, more))
]

no_bits : (m n : ℕ) → bit_in (replicate m 0) n ≡ false
no_bits m n = empty_word (replicate m 0) n (n / 64) refl (no_words m (n / 64))

pub no_flags : (bound m : ℕ) (words : List ℕ) → words ≡ replicate m 0 → flags_below bound words ≡ replicate bound false
no_flags bound m words e =
    let long = length_is bound words in
    let other_long = length-replicate bound false in
    ext_get_or false (flags_below bound words) (replicate bound false) (long ∙ sym other_long)
    (λ i within.
    let less : i < bound = omega (arith, within, long) in
    flag_below bound words i less ∙ (ap (λ (ws : List ℕ). bit_in ws i) e ∙ (no_bits m i ∙ sym (get_or-replicate bound i false false less))))

pub no_members : (bound count : ℕ) (words rows : List ℕ) → bound < 2 ^ 64 → count ≡ (bound + 511) / 512 → words ≡ replicate (8 * count) 0 → rows ≡ replicate count 0 → IsPlane bound words rows 0
no_members bound count words rows small is words_are rows_are =
    let none : (n : ℕ) → bit_in words n ≡ false = λ n. ap (λ (ws : List ℕ). bit_in ws n) words_are ∙ no_bits (8 * count) n in
    let rows_long : length rows ≡ count = ap length rows_are ∙ length-replicate {A = ℕ} count 0 in
    let words_long : length words ≡ 8 * count = ap length words_are ∙ length-replicate {A = ℕ} (8 * count) 0 in
    record {
      bounded = small;
      rows_are = rows_long ∙ is;
      words_are = omega (arith, rows_long, words_long);
      beyond = λ n le. none n;
      counts = λ r less.
          let zero_there : get_or rows r 0 ≡ 0 = ap (λ (rs : List ℕ). get_or rs r 0) rows_are ∙ no_words count r in
          let e = nothing_between (bit_in words) (512 * r) (512 * r + 512) (omega arith) (λ k from to. none k) in
          omega (arith, zero_there, e);
      size_is = nothing_between (bit_in words) 0 bound (omega arith) (λ k from to. none k);
    }

-- ---- planes joined

or_bits : (x y : ℕ) → x < 2 → y < 2 → eqb (max x y) 1 ≡ (eqb x 1 || eqb y 1)
or_bits x y x_small y_small = elim (cases_eq x 1) [
  | inl e ↦ eq-eqb (max x y) 1 (omega (arith, e, y_small)) ∙ sym (ap (λ b. b || eqb y 1) (eq-eqb x 1 e))
  | inr ne ↦ let x_zero : x ≡ 0 = omega (arith, ne, x_small) in let e : max x y ≡ y = omega (arith, x_zero) in ap (λ (b : ℕ). eqb b 1) e ∙ sym (ap (λ b. b || eqb y 1) (ne_eqb x 1 ne))
]

-- the words zs have what xs and ys have
abbrev pub AreJoined : (xs zs ys : List ℕ) → Type 0
AreJoined xs zs ys = (k : ℕ) → get_or zs k 0 ≡ bit_or (get_or xs k 0) (get_or ys k 0)

module _ (xs ys zs : List ℕ) (each : AreJoined xs zs ys) where
  pub joined_bit : (n : ℕ) → bit_in zs n ≡ (bit_in xs n || bit_in ys n)
  joined_bit n =
      let x = get_or xs (n / 64) 0 in
      let y = get_or ys (n / 64) 0 in
      ap (λ (w : ℕ). bit_of w (n % 64)) (each (n / 64)) ∙ (ap (λ (b : ℕ). eqb b 1) (bit_at_or x y (n % 64)) ∙ or_bits (bit_at x (n % 64)) (bit_at y (n % 64)) (bit_at-lt x (n % 64)) (bit_at-lt y (n % 64)))

  module _ (bound low size other_size : ℕ) (rows other_rows : List ℕ) (p : IsPlane bound xs rows size) (q : IsPlane low ys other_rows other_size) (le : low ≤ bound) where
    joined_beyond : (n : ℕ) → bound ≤ n → bit_in zs n ≡ false
    joined_beyond n from = joined_bit n ∙ or_from (bit_in xs n) (bit_in ys n) (p.beyond n from) (q.beyond n (omega (arith, from, le)))

    joined_whole : passing_below (bit_in zs) bound ≡ passing_below (bit_in zs) (512 * length rows)
    joined_whole = nothing_between (bit_in zs) bound (512 * length rows) (omega (arith, p.rows_are)) (λ k from to. joined_beyond k from)

    pub words_fit : length ys ≤ length xs
    words_fit = omega (arith, le, p.rows_are, p.words_are, q.rows_are, q.words_are)

    pub joined_few : passing_below (bit_in zs) (512 * length rows) < 2 ^ 64
    joined_few = let most = at_most (bit_in zs) 0 bound (omega arith) in omega (arith, most, joined_whole, p.bounded)

    pub joined_plane : (new_rows : List ℕ) (total : ℕ) → length zs ≡ length xs → length new_rows ≡ length rows
        → ((r : ℕ) → r < length new_rows → HasBetween (bit_in zs) (512 * r) (512 * r + 512) (get_or new_rows r 0))
        → total ≡ passing_below (bit_in zs) (512 * length new_rows) → IsPlane bound zs new_rows total
    joined_plane new_rows total long rows_long counts is =
        let e : passing_below (bit_in zs) (512 * length new_rows) ≡ passing_below (bit_in zs) (512 * length rows) = ap (λ (k : ℕ). passing_below (bit_in zs) (512 * k)) rows_long in
        record {
          bounded = p.bounded;
          rows_are = rows_long ∙ p.rows_are;
          words_are = omega (arith, long, rows_long, p.words_are);
          beyond = joined_beyond;
          counts = counts;
          size_is = omega (arith, is, e, joined_whole);
        }

    pub joined_flags : (n : ℕ) → flag (flags_below bound zs) n ≡ (flag (flags_below bound xs) n || flag (flags_below low ys) n)
    joined_flags n =
        let right = ap₂ (λ a b. a || b) (flag_is bound xs rows size p n) (flag_is low ys other_rows other_size q n) in
        elim (cases_lt n bound) [
          | inl less ↦ flag_below bound zs n less ∙ (joined_bit n ∙ sym right)
          | inr more ↦
              let long = length_is bound zs in
              get_or_past (flags_below bound zs) n false (omega (arith, long, more)) ∙ (sym (joined_beyond n more) ∙ (joined_bit n ∙ sym right))
        ]
