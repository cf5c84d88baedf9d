-- The limit of the language's numbers.
use Rattle.std.specs.Prelude.{ℤ, pos, negsuc, neg_ℤ, ◌-ℤ◌, ◌*ℤ◌, int_lt, ℕ, Bool, nat_le, nat_lt, IsTrue, Option, Some, None, if◌then◌else◌}
use Rattle.std.specs.Int.{Width, w128, int_div_euclid}

-- the width of the machine's type of numbers
abbrev pub number_width : Width
number_width = w128

-- the greatest number; the least is its negation
abbrev pub number_limit : ℕ
number_limit = 170141183460469231731687303715884105727

-- whether a whole number is within the limit
abbrev pub is_within_limit : ℤ → Bool
is_within_limit (pos n) = nat_le n number_limit
is_within_limit (negsuc n) = nat_lt n number_limit

-- a number of the language
abbrev pub IsNumber : ℤ → Type 0
IsNumber n = IsTrue (is_within_limit n)

-- the number, where it is within the limit
abbrev pub within_limit : ℤ → Option ℤ
within_limit n = if is_within_limit n then Some n else None

-- the quotient rounded down, for a divisor that is not 0
abbrev pub floor_div : ℤ → ℤ → ℤ
floor_div a b = if int_lt (pos 0) b then int_div_euclid a b else int_div_euclid (neg_ℤ a) (neg_ℤ b)

-- what the quotient leaves of the dividend
abbrev pub floor_mod : ℤ → ℤ → ℤ
floor_mod a b = a -ℤ (floor_div a b *ℤ b)
