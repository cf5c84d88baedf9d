-- Rows of bits, as words of 64 bits.
use Rattle.std.specs.Prelude.{ℕ, ◌/◌, ◌%◌, eqb, Bool, List, slice_index}
use Rattle.std.specs.Int.{bit_at}

-- whether the bit with this number is 1; there is none beyond the words
abbrev pub has_bit : List ℕ → ℕ → Bool
has_bit words k = eqb (bit_at (slice_index words (k / 64)) (k % 64)) 1
