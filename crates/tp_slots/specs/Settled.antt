-- What is shown, and what isn't settled, by the slots of the live items.
use Rattle.std.specs.Prelude.{ℕ, Bool, false, List, [], ◌∷◌, ◌++◌, filter, Option, Some, None}
use Rattle.tp_value.specs.Tree.{Tree}
use Rattle.tp_scene.specs.Scene.{Leaf, Do, Later, Shown, only_if, second_lives}
use Rattle.tp_scene.specs.LiveItems.{live_items}
use Rattle.tp_scene.specs.Rest.{is_unsettled, holds_back}
use Rattle.tp_slots.specs.Plain.{What, bare, holds, gone, Slots, slot_at, second_of, entries_at}
use Rattle.tp_slots.specs.Places.{place_outward}
use Rattle.tp_slots.specs.Read.{holders_of, slots_of}
use Rattle.tp_slots.specs.declared.scene.Scene.{Scene}

abbrev pub leaf_shows : Leaf → List (List Tree)
leaf_shows (Do f env) = []
leaf_shows (Later f env) = []
leaf_shows (Shown vs) = vs ∷ []

abbrev pub what_shows : What → List (List Tree)
what_shows (bare l) = leaf_shows l
what_shows (holds k r q) = []
what_shows (gone by) = []

-- what these items show, in order
abbrev pub shows_at : Slots → List ℕ → List (List Tree)
shows_at s [] = []
shows_at s (t ∷ ts) = what_shows (slot_at s t).what ++ shows_at s ts

-- what stands in a slot isn't done with this state
abbrev pub what_waits : Slots → (holders : List ℕ) → What → Bool
what_waits s hs (bare l) = is_unsettled l
what_waits s hs (holds k r q) = holds_back k (place_outward s hs r)
what_waits s hs (gone by) = false

abbrev pub item_waits : Slots → (holders : List ℕ) → ℕ → Bool
item_waits s hs t = what_waits s hs (slot_at s t).what

-- those of these items that do, and the first one
abbrev pub waiting_in : Scene → List ℕ → List ℕ
waiting_in s ids = filter (item_waits (slots_of s) (holders_of s)) ids

abbrev pub first_in : List ℕ → Option ℕ
first_in [] = None
first_in (t ∷ ts) = Some t

abbrev pub first_waiting : Scene → List ℕ → Option ℕ
first_waiting s ids = first_in (waiting_in s ids)

-- the live items of what stands in the slot of an item, itself among them; none where others stand
-- in its place
abbrev pub standing_in : Slots → (t : ℕ) → What → List ℕ
standing_in s t (bare l) = t ∷ []
standing_in s t (holds k r q) =
    (only_if (second_lives k) (live_items (second_of (entries_at s) q))
    ++ live_items (entries_at s r)) ++ t ∷ []
standing_in s t (gone by) = []

abbrev pub standing : Scene → (t : ℕ) → What → List ℕ
standing s t w = standing_in (slots_of s) t w

-- the items that stand in its place
abbrev pub stands_by : What → List ℕ
stands_by (bare l) = []
stands_by (holds k r q) = []
stands_by (gone by) = by
