-- Values of rows, by their places in a list.
use Rattle.std.specs.Prelude.{◌≡◌, ℕ, ◌^◌, ◌<◌, false, List, length, map, get_or}
use Rattle.tp_value.specs.declared.value.Value.{Value}
use Rattle.tp_value.specs.Tree.{Tree, truth}
use Rattle.tp_value.specs.Read.{tree}
use Rattle.tp_inputs.specs.declared.ranges.Row.{Row}

-- the row ends at a state of 32 bits, and the place of its value is one of so many
abbrev pub IsPlaced : ℕ → Row → Type 0
IsPlaced count row = (row.last < 2 ^ 32) × (row.value < count)

-- the value at the place; places of rows are within the list, so the value behind it is never meant
abbrev pub tree_at : List Value → ℕ → Tree
tree_at values place = get_or (map tree values) place (truth false)

-- the value is at the place
abbrev pub HasPlace : List Value → Tree → ℕ → Type 0
HasPlace values value place = (place < length values) × (tree_at values place ≡ value)
