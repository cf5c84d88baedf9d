-- Walking the live items.
use Rattle.std.specs.Prelude.{ℕ, ◌<◌, List, [], ◌∷◌, ◌++◌, length}
use Rattle.tp_scene.specs.Scene.{Entries, none}
use Rattle.tp_scene.specs.LiveItems.{live_items}
use Rattle.tp_slots.specs.Plain.{Slots, item_entries, region_entries, entries_at}
use Rattle.tp_slots.specs.Read.{slots_of}
use Rattle.tp_slots.specs.declared.scene.Scene.{Scene}
use Rattle.tp_slots.specs.declared.walk.WalkTask.{WalkTask}
use Rattle.tp_slots.specs.declared.walk.WalkTask.TheVariants.{Visit, Tell}

-- what the item t stands for, in front of the rest
abbrev pub item_front : Slots → (t : ℕ) → Entries → Entries
item_front s t rest = item_entries s (region_entries s (length s.regions)) (length s.slots) t rest

abbrev pub live_of : Slots → ℕ → List ℕ
live_of s t = live_items (item_front s t none)

abbrev pub live_in : Slots → List ℕ → List ℕ
live_in s [] = []
live_in s (t ∷ ts) = live_of s t ++ live_in s ts

abbrev pub told_by : Slots → WalkTask → List ℕ
told_by s (Visit t) = live_of s t
told_by s (Tell t) = t ∷ []

-- what is still to be told: the last task comes first
abbrev pub todo : Slots → List WalkTask → List ℕ
todo s [] = []
todo s (x ∷ xs) = todo s xs ++ told_by s x

-- tasks to visit these items, the first one last
abbrev pub visits : List ℕ → List WalkTask
visits [] = []
visits (t ∷ ts) = visits ts ++ Visit t ∷ []

abbrev pub IsTask : Slots → WalkTask → Type 0
IsTask s (Visit t) = t < length s.slots
IsTask s (Tell t) = Unit {0}

abbrev pub AreTasks : Slots → List WalkTask → Type 0
AreTasks s [] = Unit {0}
AreTasks s (x ∷ xs) = IsTask s x × AreTasks s xs

-- of the code's scene
abbrev pub left_todo : Scene → List WalkTask → List ℕ
left_todo s xs = todo (slots_of s) xs

abbrev pub live_inside : Scene → (region : ℕ) → List ℕ
live_inside s r = live_items (entries_at (slots_of s) r)
