-- Classes of bytes.
use Rattle.std.specs.Prelude.{ℕ, Bool, ◌&&◌, ◌||◌, if◌then◌else◌, ◌==◌, nat_lt, nat_le, slice_index}
use Rattle.std.specs.Int.{w64, trailing_zeros}
use Rattle.tp_lanes.specs.declared.class.Class.{Class}

-- the range counts, and has the byte
abbrev pub in_range : Class → ℕ → ℕ → Bool
in_range class i b =
    let inside = nat_le (slice_index class.from i) b && nat_le b (slice_index class.to i) in
    nat_lt i class.count && inside

-- a range has the byte
abbrev pub in_class : Class → ℕ → Bool
in_class class b =
    in_range class 0 b || (in_range class 1 b || (in_range class 2 b || in_range class 3 b))

-- the ends of a range; one that doesn't count ends before it begins
abbrev pub range_ends : Class → ℕ → ℕ × ℕ
range_ends class i =
    if nat_lt i class.count then (slice_index class.from i, slice_index class.to i) else (255, 0)

-- the place of the lowest bit that is set, or 16
abbrev pub first_set : ℕ → ℕ
first_set mask = if mask == 0 then 16 else trailing_zeros w64 mask
