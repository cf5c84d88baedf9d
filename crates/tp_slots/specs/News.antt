-- The items that become live.
use Rattle.std.specs.Prelude.{ℕ, ◌+◌, not, List, [], ◌∷◌, ◌++◌, length, map, Some, None}
use Rattle.std.specs.List.{filter, range_with_len}
use Rattle.tp_scene.specs.Scene as S
use Rattle.tp_scene.specs.Scene.{has}
use Rattle.tp_scene.specs.LiveItems.{live_items}
use Rattle.tp_decide.specs.Decided.{plain_leaf}
use Rattle.tp_decide.specs.declared.decision.Leaf.{Leaf}
use Rattle.tp_slots.specs.Plain.{What, bare, holds, gone, Slots, entries_at}

-- the items that are live in the new scene and weren't in the old one, in walk order
abbrev pub new_items : S.Scene → S.Scene → List ℕ
new_items old new = filter (λ u. not (has u old.root.entries)) (live_items new.root.entries)

-- leaves as what stands in slots
abbrev pub bare_leaves : List Leaf → List What
bare_leaves ls = map (λ l. bare (plain_leaf l)) ls

-- What becomes live where an item with a region is reduced: the items that it begins, with the next
-- numbers, and the dormant ones that its outer region has.
abbrev pub moved_news : Slots → What → List ℕ
moved_news s (bare l) = []
moved_news s (holds (S.Split f env) p o) = range_with_len (length s.slots) 2
moved_news s (holds (S.SplitProject f env) p None) = []
moved_news s (holds (S.SplitProject f env) p (Some q)) =
    length s.slots ∷ live_items (entries_at s q) ++ (length s.slots + 1) ∷ []
moved_news s (holds S.Closed p o) = []
moved_news s (holds (S.Opened f env) p o) = range_with_len (length s.slots) 3
moved_news s (holds (S.Running f env) p o) = []
moved_news s (gone by) = []
