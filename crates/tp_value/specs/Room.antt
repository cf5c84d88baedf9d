-- How much of the limits on lists a value leaves.
use Rattle.std.specs.Prelude.{ℕ, ◌-◌, ◌&&◌, nat_le, IsTrue, Option, Some, None, if◌then◌else◌}
use Rattle.tp_value.specs.Tree.{Tree}
use Rattle.tp_value.specs.Limits.{items_in, depth_of, is_within_list_limit}

abbrev pub IsWithinListLimit : Tree → Type 0
IsWithinListLimit t = IsTrue (is_within_list_limit t)

-- how much of the room for items a value leaves; none where it is deeper than the depth or has more
-- items than the room
abbrev pub room_left : ℕ → ℕ → Tree → Option ℕ
room_left depth room t =
    if nat_le (depth_of t) depth && nat_le (items_in t) room then Some (room - items_in t) else None
