-- The items that stand in a region itself, not inside of one that an item holds.
use Rattle.std.specs.Prelude.{ℕ, List, [], ◌∷◌, ◌++◌}
use Rattle.tp_scene.specs.Scene.{Entries, none, leaf, node}
use Rattle.tp_slots.specs.Plain.{Slots, entries_at}
use Rattle.tp_slots.specs.Walk.{item_front}
use Rattle.tp_slots.specs.Read.{slots_of}
use Rattle.tp_slots.specs.declared.scene.Scene.{Scene}

-- their numbers, in order
abbrev pub own_ids : Entries → List ℕ
own_ids none = []
own_ids (leaf id l rest) = id ∷ own_ids rest
own_ids (node id k h held g second rest) = id ∷ own_ids rest

-- those that the item t stands for
abbrev pub own_for : Slots → (t : ℕ) → List ℕ
own_for s t = own_ids (item_front s t none)

-- those that these items stand for
abbrev pub own_in : Slots → List ℕ → List ℕ
own_in s [] = []
own_in s (t ∷ ts) = own_for s t ++ own_in s ts

-- of the code's scene
abbrev pub own_inside : Scene → (region : ℕ) → List ℕ
own_inside s r = own_ids (entries_at (slots_of s) r)
