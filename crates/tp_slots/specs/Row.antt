-- What one step makes of the slots.
use Rattle.std.specs.Prelude.{ℕ, zero, suc, ◌+◌, ◌<◌, false, List, [], ◌∷◌, ◌++◌, map, length, slice_set, Option, Some, None}
use Rattle.std.specs.List.{range_with_len}
use Rattle.tp_scene.specs.Scene.{Side}
use Rattle.tp_slots.specs.Plain.{What, bare, holds, gone, Slot, RegionSlot, Slots, slot_at}
use Rattle.tp_slots.specs.Replace.{replaced}

-- slots of one region
abbrev pub slots_in : (home : ℕ) → List What → List Slot
slots_in home [] = []
slots_in home (w ∷ ws) = record { home = home; what = w } ∷ slots_in home ws

-- the regions that the item u holds know it
abbrev pub hold : (u : ℕ) → What → List ℕ → List ℕ
hold u (bare l) hs = hs
hold u (holds k p None) hs = slice_set hs p u
hold u (holds k p (Some q)) hs = slice_set (slice_set hs p u) q u
hold u (gone by) hs = hs

abbrev pub hold_all : (from : ℕ) → List What → List ℕ → List ℕ
hold_all n [] hs = hs
hold_all n (w ∷ ws) hs = hold_all (n + 1) ws (hold n w hs)

-- a new region with so many items, where there are any
abbrev pub begun : (from count : ℕ) → List RegionSlot
begun n zero = []
begun n (suc c) = record { ends = false; goes = false; roots = range_with_len n (suc c) } ∷ []

-- The items `inner` stand in a new region, if there are any, and the items `outs` in place of the
-- item t, whose region is marked so.
abbrev pub stepped : Slots → (t : ℕ) → Option Side → (inner outs : List What) → Slots
stepped s t m inner outs =
    replaced s t (range_with_len (length s.slots + length inner) (length outs)) m
    (slots_in (length s.regions) inner ++ slots_in (slot_at s t).home outs)
    (begun (length s.slots) (length inner))

-- what holds each region then
abbrev pub held_after : Slots → (inner outs : List What) → List ℕ → List ℕ
held_after s inner outs hs =
    hold_all (length s.slots + length inner) outs
    (hs ++ map (λ x. 0) (begun (length s.slots) (length inner)))

-- each region that the item holds is one of so many
abbrev pub AreBelow : (count : ℕ) → What → Type 0
AreBelow c (bare l) = Unit {0}
AreBelow c (holds k p None) = p < c
AreBelow c (holds k p (Some q)) = (p < c) × (q < c)
AreBelow c (gone by) = Unit {0}

abbrev pub AllBelow : (count : ℕ) → List What → Type 0
AllBelow c [] = Unit {0}
AllBelow c (w ∷ ws) = AreBelow c w × AllBelow c ws
