-- One number of a plane, as callers name it: where its bit is, what is read there, the bit set and cleared.
use Rattle.std.proofs.Common.{◌≡◌, ◌≢◌, ℕ, ◌+◌, ◌-◌, ◌*◌, ◌/◌, ◌%◌, ◌^◌, ◌<◌, ◌≤◌, Bool, true, false, cond, eqb, List, length, set, get_or, bit_and, bit_or, ap, sym, ◌∙◌, arith, w64}
use Rattle.std.specs.Int.{bit_at, bit_not}
use Rattle.std.specs.Vec.{vec_len}
use Rattle.std.proofs.lemmas.Bool.{eq-eqb}
use Rattle.std.proofs.lemmas.List.{get_or_read, length-set}
use Rattle.std.proofs.lemmas.Nat.Bits.{bit_at_set_same, bit_at_set_other, bit_at_clear_same, bit_at_clear_other}
use Rattle.tp_lanes.specs.Planes.{flag, bit_of, bit_in, flags_below, IsPlane}
use Rattle.tp_lanes.specs.declared.plane.Plane.TheInside.{Inside}
use Rattle.tp_lanes.proofs.Planes.{flag_below, seen_long, word_within, row_within, row_small, row_has, size_has, size_room, edited_flags, edited}
use Rattle.tp_lanes.proofs.Edits.{bit_here, bits_elsewhere}

-- a word in which the number's bit alone is set
abbrev pub own_bit : ℕ → ℕ
own_bit n = 1 * 2 ^ (n % 64) % 2 ^ 64

module _ (s : Inside) (p : IsPlane s.bound s.words.items s.rows.items s.size) {xs : List Bool} (seen : flags_below s.bound s.words.items ≡ xs) (n : ℕ) (named : n < length xs) where
  below : n < s.bound
  below = let long = seen_long s.bound s.words.items seen in omega (arith, named, long)

  pub word_there : n / 64 < vec_len s.words
  word_there = let within = word_within s.bound s.words.items s.rows.items s.size p n below in omega (arith, within, s.words.ok.0)

  pub row_there : n / 512 < vec_len s.rows
  row_there = let within = row_within s.bound s.words.items s.rows.items s.size p n below in omega (arith, within, s.rows.ok.0)

  pub flag_read : flag xs n ≡ bit_in s.words.items n
  flag_read = ap (λ (ys : List Bool). flag ys n) (sym seen) ∙ flag_below s.bound s.words.items n below

  -- the row's count, as it is read
  module _ (count : ℕ) (read : count ≡ get_or s.rows.items (n / 512) count) where
    count_is : count ≡ get_or s.rows.items (n / 512) 0
    count_is = get_or_read s.rows.items (n / 512) count (row_within s.bound s.words.items s.rows.items s.size p n below) read 0

    pub count_small : count + 1 ≤ 513
    count_small =
        let small = row_small s.bound s.words.items s.rows.items s.size p (n / 512) (row_within s.bound s.words.items s.rows.items s.size p n below) in
        omega (arith, small, count_is)

    pub count_some : flag xs n ≡ true → 0 < count
    count_some yea = let some = row_has s.bound s.words.items s.rows.items s.size p n below (sym flag_read ∙ yea) in omega (arith, some, count_is)

  pub size_some : flag xs n ≡ true → 0 < s.size
  size_some yea = size_has s.bound s.words.items s.rows.items s.size p n below (sym flag_read ∙ yea)

  pub size_small : flag xs n ≡ false → s.size + 1 < 2 ^ 64
  size_small none = size_room s.bound s.words.items s.rows.items s.size p n below (sym flag_read ∙ none)

  -- its word, as it is read
  module _ (v : ℕ) (read : v ≡ get_or s.words.items (n / 64) v) where
    within : n / 64 < length s.words.items
    within = word_within s.bound s.words.items s.rows.items s.size p n below

    word_is : v ≡ get_or s.words.items (n / 64) 0
    word_is = get_or_read s.words.items (n / 64) v within read 0

    pub bit_read : (b : ℕ) → b ≡ bit_at v (n % 64) → eqb b 1 ≡ flag xs n
    bit_read b is = sym (flag_read ∙ (ap (λ (x : ℕ). bit_of x (n % 64)) (sym word_is) ∙ ap (λ (x : ℕ). eqb x 1) (sym is)))

    -- another word in its place, with the same other bits
    module _ (a : ℕ) (b : Bool) (here : bit_of a (n % 64) ≡ b) (same : (j : ℕ) → j < 64 → j ≢ n % 64 → bit_at a j ≡ bit_at v j) where
      now_here : bit_in (set s.words.items (n / 64) a) n ≡ b
      now_here = bit_here s.words.items n v a within word_is ∙ here

      elsewhere : (i : ℕ) → i ≢ n → bit_in s.words.items i ≡ bit_in (set s.words.items (n / 64) a) i
      elsewhere = bits_elsewhere s.words.items n v a within word_is same

      flags_then : flags_below s.bound (set s.words.items (n / 64) a) ≡ set xs n b
      flags_then = edited_flags s.bound s.words.items (set s.words.items (n / 64) a) n b below now_here elsewhere ∙ ap (λ (ys : List Bool). set ys n b) seen

      plane_then : (count total : ℕ) → count + cond (bit_in s.words.items n) 1 0 ≡ get_or s.rows.items (n / 512) 0 + cond b 1 0 → total + cond (bit_in s.words.items n) 1 0 ≡ s.size + cond b 1 0
          → IsPlane s.bound (set s.words.items (n / 64) a) (set s.rows.items (n / 512) count) total
      plane_then count total row all =
          let now : ◌≡◌ {A = ℕ} (cond (bit_in (set s.words.items (n / 64) a) n) 1 0) (cond b 1 0) = ap (λ c. cond {A = ℕ} c 1 0) now_here in
          edited s.bound s.words.items s.rows.items s.size p (set s.words.items (n / 64) a) n count total below
          (length-set s.words.items (n / 64) a) elsewhere (omega (arith, row, now)) (omega (arith, all, now))

    set_here : bit_of (bit_or v (own_bit n)) (n % 64) ≡ true
    set_here = eq-eqb (bit_at (bit_or v (own_bit n)) (n % 64)) 1 (bit_at_set_same w64 v (n % 64) (omega arith))

    clear_here : bit_of (bit_and v (bit_not w64 (own_bit n))) (n % 64) ≡ false
    clear_here = ap (λ (b : ℕ). eqb b 1) (bit_at_clear_same w64 v (n % 64) (omega arith))

    pub set_flags : flags_below s.bound (set s.words.items (n / 64) (bit_or v (own_bit n))) ≡ set xs n true
    set_flags = flags_then (bit_or v (own_bit n)) true set_here (λ j j_less ne. bit_at_set_other w64 v (n % 64) (omega arith) j ne)

    pub clear_flags : flags_below s.bound (set s.words.items (n / 64) (bit_and v (bit_not w64 (own_bit n)))) ≡ set xs n false
    clear_flags = flags_then (bit_and v (bit_not w64 (own_bit n))) false clear_here (λ j j_less ne. bit_at_clear_other w64 v (n % 64) (omega arith) j j_less ne)

    module _ (count : ℕ) (counted : count ≡ get_or s.rows.items (n / 512) count) where
      pub set_plane : flag xs n ≡ false → IsPlane s.bound (set s.words.items (n / 64) (bit_or v (own_bit n))) (set s.rows.items (n / 512) (count + 1)) (s.size + 1)
      set_plane none =
          let was : ◌≡◌ {A = ℕ} (cond (bit_in s.words.items n) 1 0) 0 = ap (λ b. cond {A = ℕ} b 1 0) (sym flag_read ∙ none) in
          let is = count_is count counted in
          plane_then (bit_or v (own_bit n)) true set_here (λ j j_less ne. bit_at_set_other w64 v (n % 64) (omega arith) j ne)
          (count + 1) (s.size + 1) (omega (arith, is, was)) (omega (arith, was))

      pub clear_plane : flag xs n ≡ true → IsPlane s.bound (set s.words.items (n / 64) (bit_and v (bit_not w64 (own_bit n)))) (set s.rows.items (n / 512) (count - 1)) (s.size - 1)
      clear_plane yea =
          let was : ◌≡◌ {A = ℕ} (cond (bit_in s.words.items n) 1 0) 1 = ap (λ b. cond {A = ℕ} b 1 0) (sym flag_read ∙ yea) in
          let is = count_is count counted in
          let some = count_some count counted yea in
          plane_then (bit_and v (bit_not w64 (own_bit n))) false clear_here (λ j j_less ne. bit_at_clear_other w64 v (n % 64) (omega arith) j j_less ne)
          (count - 1) (s.size - 1) (omega (arith, is, was, some)) (omega (arith, was, size_some yea))
