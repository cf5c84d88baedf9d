-- Slots by item number, and the scene that they stand for.
use Rattle.std.specs.Prelude.{◌≡◌, ℕ, zero, suc, ◌≤◌, ◌<◌, Bool, true, false, List, [], ◌∷◌, length, get_or, Option, Some, None}
use Rattle.tp_scene.specs.Scene.{Head, no_region, Leaf, Holder, Split, SplitProject, Closed, Opened, Running, Entries, none, leaf, node, Scene}

-- What stands under an item's number: an item without a region; one that holds a region, or two; or
-- the items that stand in its place, in order.
pub data What : Type 0 where
  bare : Leaf → What
  holds : Holder → (held : ℕ) → (second : Option ℕ) → What
  gone : (by : List ℕ) → What

-- and the number of the region in which it stands
pub record Slot : Type 0 where
  pub home : ℕ
  pub what : What

-- a region's marks, and the items that it began with
pub record RegionSlot : Type 0 where
  pub ends : Bool
  pub goes : Bool
  pub roots : List ℕ

pub record Slots : Type 0 where
  pub slots : List Slot
  pub regions : List RegionSlot

abbrev pub slot_at : Slots → ℕ → Slot
slot_at s t = get_or s.slots t (record { home = 0; what = gone [] })

abbrev pub region_slot : Slots → ℕ → RegionSlot
region_slot s r = get_or s.regions r (record { ends = false; goes = false; roots = [] })

abbrev pub slot_head : ℕ → RegionSlot → Head
slot_head r x = record { number = r; ends = x.ends; goes = x.goes }

abbrev pub head_at : Slots → ℕ → Head
head_at s r = slot_head r (region_slot s r)

abbrev pub other_head : Slots → Option ℕ → Head
other_head s None = no_region
other_head s (Some q) = head_at s q

abbrev pub second_of : (ℕ → Entries) → Option ℕ → Entries
second_of deeper None = none
second_of deeper (Some q) = deeper q

abbrev pub in_order : (ℕ → Entries → Entries) → List ℕ → Entries → Entries
in_order each [] rest = rest
in_order each (t ∷ ts) rest = each t (in_order each ts rest)

-- what stands under the number t, in front of the rest
abbrev pub of_what : Slots → (deeper : ℕ → Entries) → (each : ℕ → Entries → Entries) → (t : ℕ)
    → What → Entries → Entries
of_what s deeper each t (bare l) rest = leaf t l rest
of_what s deeper each t (holds k r q) rest =
    node t k (head_at s r) (deeper r) (other_head s q) (second_of deeper q) rest
of_what s deeper each t (gone by) rest = in_order each by rest

-- the same, as far as so many replacements
abbrev pub item_entries : Slots → (deeper : ℕ → Entries) → ℕ → (t : ℕ) → Entries → Entries
item_entries s deeper zero t rest = rest
item_entries s deeper (suc n) t rest =
    of_what s deeper (item_entries s deeper n) t (slot_at s t).what rest

-- the entries of a region, as far as so many regions deep
abbrev pub region_entries : Slots → ℕ → (r : ℕ) → Entries
region_entries s zero r = none
region_entries s (suc n) r =
    in_order (item_entries s (region_entries s n) (length s.slots)) (region_slot s r).roots none

abbrev pub entries_at : Slots → ℕ → Entries
entries_at s r = region_entries s (length s.regions) r

-- The scene: the root is region 0, and the next numbers are the lengths.
abbrev pub scene_in : Slots → Scene
scene_in s =
    record {
      root = record { head = head_at s 0; entries = entries_at s 0 };
      next_item = length s.slots;
      next_region = length s.regions;
    }

abbrev pub IsLive : What → Type 0
IsLive (bare l) = Unit {0}
IsLive (holds k r q) = Unit {0}
IsLive (gone by) = ⊥

abbrev pub has_second : Holder → Bool
has_second (Split f env) = false
has_second (SplitProject f env) = true
has_second Closed = false
has_second (Opened f env) = false
has_second (Running f env) = true

-- Items of that region, with numbers from `from` on.
abbrev pub AreIn : Slots → (from home : ℕ) → List ℕ → Type 0
AreIn s from home [] = Unit {0}
AreIn s from home (u ∷ us) =
    (from ≤ u) × (u < length s.slots) × ((slot_at s u).home ≡ home) × AreIn s from home us

-- a region inside has a greater number
abbrev pub IsInner : Slots → (home r : ℕ) → Type 0
IsInner s home r = (home < r) × (r < length s.regions)

abbrev pub SecondFits : Slots → (home : ℕ) → Holder → Option ℕ → Type 0
SecondFits s home k None = has_second k ≡ false
SecondFits s home k (Some q) = (has_second k ≡ true) × IsInner s home q

abbrev pub WhatFits : Slots → (home t : ℕ) → What → Type 0
WhatFits s home t (bare l) = Unit {0}
WhatFits s home t (holds k r q) = IsInner s home r × SecondFits s home k q
WhatFits s home t (gone by) = AreIn s (suc t) home by

-- Numbers lead to greater ones: those of the items that stand in an item's place, and those of the
-- regions that an item holds.
pub record IsOrdered (s : Slots) : Type 0 where
  pub items : (t : ℕ) → t < length s.slots
      → ((slot_at s t).home < length s.regions) × WhatFits s (slot_at s t).home t (slot_at s t).what
  pub regions : (r : ℕ) → r < length s.regions → AreIn s 0 r (region_slot s r).roots
  pub root : 0 < length s.regions
