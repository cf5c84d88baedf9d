-- The ends that the marks of a scene tell.
use Rattle.std.specs.Prelude.{ℕ, Bool, true, false, Option, None, Some}
use Rattle.tp_scene.specs.Scene as S
use Rattle.tp_slots.specs.declared.scene.Mark.{Mark}
use Rattle.tp_slots.specs.declared.scene.Mark.TheVariants.{Open, Ends, Goes}
use Rattle.tp_slots.specs.Status.{region_mark}

abbrev pub is_known_mark : Option Mark → Bool
is_known_mark None = false
is_known_mark (Some Open) = false
is_known_mark (Some Ends) = true
is_known_mark (Some Goes) = true

-- the region's end is known by its mark
abbrev pub has_known_end : S.Scene → (region : ℕ) → Bool
has_known_end s r = is_known_mark (region_mark r s)
