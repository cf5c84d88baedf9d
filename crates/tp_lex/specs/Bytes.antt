-- Kinds of byte, the value of digits, and how long a name may be.
use Rattle.std.specs.Prelude.{ℕ, ◌+◌, ◌-◌, ◌*◌, Bool, ◌||◌, ◌==◌, List, fold}
use Rattle.std.specs.Char.{is_ascii_digit, is_ascii_alphanumeric}

-- space, tab, carriage return and line feed
abbrev pub is_blank : ℕ → Bool
is_blank b = b == 32 || b == 9 || b == 13 || b == 10

-- letters, digits and `_`
abbrev pub is_name_byte : ℕ → Bool
is_name_byte b = is_ascii_alphanumeric b || b == 95

abbrev pub is_digit : ℕ → Bool
is_digit b = is_ascii_digit b

-- the number that digits spell
abbrev pub spelled_value : List ℕ → ℕ
spelled_value digits = fold (λ n b. 10 * n + (b - 48)) 0 digits

-- how many bytes a name has at most
abbrev pub name_limit : ℕ
name_limit = 64
