-- What files hold, and when a count of faults rose.
use Rattle.std.specs.Prelude.{◌≤◌, ◌+◌, ℕ, min, List, [], Option, None, Some, unwrap_or}
use Rattle.std.specs.Ordering.{nat_cmp}
use Rattle.std.specs.Cmp.Lexicographic.{slice_cmp}
use Rattle.std.specs.FinMap.{FinMap, get}

-- the least number that a count has after it rose; a count stands still at its greatest number
abbrev pub next_count : Option ℕ → ℕ → ℕ
next_count None count = count + 1
next_count (Some greatest) count = min (count + 1) greatest

-- the count rose, or it stands at its greatest number
abbrev pub Rose : Option ℕ → ℕ → ℕ → Type 0
Rose greatest before now = next_count greatest before ≤ now

-- a map from names to the bytes that they hold
abbrev pub Held : Type 0
Held = FinMap (slice_cmp nat_cmp) (List ℕ)

-- what a name holds; a name that is not in the map holds nothing
abbrev pub bytes_of : Held → List ℕ → List ℕ
bytes_of files name = unwrap_or (get files name) []

-- what a read asks for: the first bytes of what the name holds, at most so many
pub record FileRequest : Type 0 where
  pub name : List ℕ
  pub most : ℕ

abbrev pub file_request : List ℕ → ℕ → FileRequest
file_request name most = record { name = name; most = most }
