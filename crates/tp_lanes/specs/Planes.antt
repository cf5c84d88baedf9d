-- Sets of numbers below a bound, as a flag for each number.
use Rattle.std.specs.Prelude.{◌≡◌, ℕ, zero, suc, ◌+◌, ◌*◌, ◌/◌, ◌%◌, ◌^◌, ◌≤◌, ◌<◌, Bool, true, false, cond, ◌==◌, List, map, length, take, slice_index, slice_index_or, count_by}
use Rattle.std.specs.Int.{bit_at}
use Rattle.std.specs.List.{range_with_len}

-- ---- what callers see

-- the number is a member
abbrev pub flag : List Bool → ℕ → Bool
flag xs n = slice_index_or xs n false

-- the least member
pub record IsFirstMember (xs : List Bool) (n : ℕ) : Type 0 where
  pub member : flag xs n ≡ true
  pub least : (k : ℕ) → flag xs k ≡ true → n ≤ k

-- the greatest member
pub record IsLastMember (xs : List Bool) (n : ℕ) : Type 0 where
  pub member : flag xs n ≡ true
  pub greatest : (k : ℕ) → flag xs k ≡ true → k ≤ n

-- the member that has so many before it
pub record IsNthMember (xs : List Bool) (place n : ℕ) : Type 0 where
  pub member : flag xs n ≡ true
  pub before : count_by (λ b. b) (take n xs) ≡ place

-- ---- how a plane is kept

-- the bit of the number, in a word
abbrev pub bit_of : ℕ → ℕ → Bool
bit_of word n = bit_at word n == 1

-- and in words of 64 bits
abbrev pub bit_in : List ℕ → ℕ → Bool
bit_in words n = bit_of (slice_index words (n / 64)) (n % 64)

-- these words have no members
abbrev pub AreEmpty : List ℕ → (from to : ℕ) → Type 0
AreEmpty words from to = (k : ℕ) → from ≤ k → k < to → slice_index words k ≡ 0

-- the bits of the numbers below the bound
abbrev pub flags_below : (bound : ℕ) → List ℕ → List Bool
flags_below bound words = map (bit_in words) (range_with_len 0 bound)

-- how many numbers below n pass
abbrev pub passing_below : (ℕ → Bool) → ℕ → ℕ
passing_below passes zero = 0
passing_below passes (suc n) = passing_below passes n + cond (passes n) 1 0

-- so many numbers from this one up to that one pass
abbrev pub HasBetween : (ℕ → Bool) → (from to count : ℕ) → Type 0
HasBetween passes from to count = passing_below passes from + count ≡ passing_below passes to

-- Rows of eight words hold the numbers, none at or above the bound. Each row has its count, and the
-- size is the sum.
pub record IsPlane (bound : ℕ) (words rows : List ℕ) (size : ℕ) : Type 0 where
  pub bounded : bound < 2 ^ 64
  pub rows_are : length rows ≡ (bound + 511) / 512
  pub words_are : length words ≡ 8 * length rows
  pub beyond : (n : ℕ) → bound ≤ n → bit_in words n ≡ false
  pub counts : (r : ℕ) → r < length rows
      → HasBetween (bit_in words) (512 * r) (512 * r + 512) (slice_index rows r)
  pub size_is : size ≡ passing_below (bit_in words) bound
