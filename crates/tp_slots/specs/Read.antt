-- What slots stand for.
use Rattle.std.specs.Prelude.{ℕ, Bool, List, map, Option, Some, None}
use Rattle.std.specs.List.{range_with_len}
use Rattle.tp_scene.specs.Scene as S
use Rattle.tp_decide.specs.Decided.{plain_leaf}
use Rattle.tp_decide.specs.ReadBound.{formula_of, env_of}
use Rattle.tp_slots.specs.Plain as plain
use Rattle.tp_slots.specs.declared.scene.Scene.{Scene}
use Rattle.tp_slots.specs.declared.scene.Slot.{Slot}
use Rattle.tp_slots.specs.declared.scene.Region.{Region}
use Rattle.tp_slots.specs.declared.scene.Holder.{Holder}
use Rattle.tp_slots.specs.declared.scene.Holder.TheVariants.{Split, SplitProject, Closed, Opened, Running}
use Rattle.tp_slots.specs.declared.scene.What.{What}
use Rattle.tp_slots.specs.declared.scene.What.TheVariants as what

abbrev pub plain_holder : Holder → plain.What
plain_holder (Split left after) =
    plain.holds (S.Split (formula_of after) (env_of after)) left None
plain_holder (SplitProject left outer piece) =
    plain.holds (S.SplitProject (formula_of piece) (env_of piece)) left (Some outer)
plain_holder (Closed closed) = plain.holds S.Closed closed None
plain_holder (Opened outer piece) =
    plain.holds (S.Opened (formula_of piece) (env_of piece)) outer None
plain_holder (Running inner outer piece) =
    plain.holds (S.Running (formula_of piece) (env_of piece)) inner (Some outer)

abbrev pub what_of : What → plain.What
what_of (what.Leaf l) = plain.bare (plain_leaf l)
what_of (what.Holder h) = plain_holder h
what_of (what.Gone first count) = plain.gone (range_with_len first count)

abbrev pub slot_of : Slot → plain.Slot
slot_of x = record { home = x.home; what = what_of x.what }

abbrev pub region_slot_of : Region → plain.RegionSlot
region_slot_of x = record { ends = x.ends; goes = x.goes; roots = x.roots.items }

abbrev pub slots_of : Scene → plain.Slots
slots_of s =
    record { slots = map slot_of s.slots.items; regions = map region_slot_of s.regions.items }

-- The scene that slots stand for.
abbrev pub scene_of : Scene → S.Scene
scene_of s = plain.scene_in (slots_of s)

-- Of each region what holds it, and whether it is known to end, or to go, by its marks or from
-- within.
abbrev pub holders_of : Scene → List ℕ
holders_of s = map (λ x. x.holder) s.regions.items

abbrev pub ends_of : Scene → List Bool
ends_of s = map (λ x. x.ends_now) s.regions.items

abbrev pub goes_of : Scene → List Bool
goes_of s = map (λ x. x.goes_now) s.regions.items

abbrev pub flag_of : S.Side → Region → Bool
flag_of S.Ending x = x.ends_now
flag_of S.Going x = x.goes_now

abbrev pub flags_of : S.Side → Scene → List Bool
flags_of z s = map (flag_of z) s.regions.items

-- Of each item what is visited after it.
abbrev pub afters_of : Scene → List (Option ℕ)
afters_of s = map (λ x. x.after) s.slots.items

-- Lists of regions, of slots and of what stands in slots, read one by one.
abbrev pub region_slots : List Region → List plain.RegionSlot
region_slots xs = map region_slot_of xs

abbrev pub region_holders : List Region → List ℕ
region_holders xs = map (λ x. x.holder) xs

abbrev pub region_ends : List Region → List Bool
region_ends xs = map (λ x. x.ends_now) xs

abbrev pub region_goes : List Region → List Bool
region_goes xs = map (λ x. x.goes_now) xs

abbrev pub all_slots : List Slot → List plain.Slot
all_slots xs = map slot_of xs

abbrev pub whats_of : List What → List plain.What
whats_of xs = map what_of xs

abbrev pub slot_whats : List Slot → List plain.What
slot_whats xs = map (λ x. what_of x.what) xs

abbrev pub slot_afters : List Slot → List (Option ℕ)
slot_afters xs = map (λ x. x.after) xs

-- what stands in the slot of an item
abbrev pub item_what : Scene → ℕ → plain.What
item_what s t = (plain.slot_at (slots_of s) t).what

abbrev pub item_home : Scene → ℕ → ℕ
item_home s t = (plain.slot_at (slots_of s) t).home
