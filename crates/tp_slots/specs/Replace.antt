-- A replacement.
use Rattle.std.specs.Prelude.{ℕ, suc, ◌<◌, true, false, List, [], ◌∷◌, ◌++◌, length, get_or, slice_set, Option, Some, None}
use Rattle.tp_scene.specs.Scene.{Side, Ending, Going}
use Rattle.tp_slots.specs.Plain.{gone, Slot, RegionSlot, Slots, slot_at, region_slot, AreIn, WhatFits}

abbrev pub marked_slot : Option Side → RegionSlot → RegionSlot
marked_slot None x = x
marked_slot (Some Ending) x = record { ends = true; goes = x.goes; roots = x.roots }
marked_slot (Some Going) x = record { ends = x.ends; goes = true; roots = x.roots }

abbrev pub home_in : List Slot → ℕ → ℕ
home_in xs t = (get_or xs t (record { home = 0; what = gone [] })).home

-- the slots with these items in place of the item t
abbrev pub gone_at : List Slot → (t : ℕ) → (by : List ℕ) → List Slot
gone_at xs t by = slice_set xs t (record { home = home_in xs t; what = gone by })

abbrev pub marked_at : List RegionSlot → (home : ℕ) → Option Side → List RegionSlot
marked_at xs home m =
    slice_set xs home (marked_slot m
    (get_or xs home (record { ends = false; goes = false; roots = [] })))

-- The items `by` stand in place of the item t, whose region is marked so. These slots and regions
-- are new.
abbrev pub replaced : Slots → (t : ℕ) → (by : List ℕ) → Option Side → (news : List Slot)
    → (more : List RegionSlot) → Slots
replaced s t by m news more =
    let home = (slot_at s t).home in
    record {
      slots = slice_set s.slots t (record { home = home; what = gone by }) ++ news;
      regions = slice_set s.regions home (marked_slot m (region_slot s home)) ++ more;
    }

-- new slots from number n on, and new regions from number r on, fit
abbrev pub NewFit : Slots → (n : ℕ) → List Slot → Type 0
NewFit s n [] = Unit {0}
NewFit s n (x ∷ xs) =
    ((x.home < length s.regions) × WhatFits s x.home n x.what) × NewFit s (suc n) xs

abbrev pub NewRegionsFit : Slots → (r : ℕ) → List RegionSlot → Type 0
NewRegionsFit s r [] = Unit {0}
NewRegionsFit s r (x ∷ xs) = AreIn s 0 r x.roots × NewRegionsFit s (suc r) xs
