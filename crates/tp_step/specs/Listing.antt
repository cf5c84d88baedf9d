-- Listing the items that stand in a region itself.
use Rattle.std.specs.Prelude.{ℕ, List, [], ◌∷◌, ◌++◌}
use Rattle.tp_slots.specs.Plain.{Slots, AreIn}
use Rattle.tp_slots.specs.Cost.{sum_over, cost_of}
use Rattle.tp_slots.specs.Own.{own_for}
use Rattle.tp_slots.specs.Read.{slots_of}
use Rattle.tp_slots.specs.declared.scene.Scene.{Scene}

-- those that are still to be listed: the last one on the stack comes first
abbrev pub own_stacked : Slots → (stack : List ℕ) → List ℕ
own_stacked s [] = []
own_stacked s (t ∷ ts) = own_stacked s ts ++ own_for s t

-- the last one first
abbrev pub backward : List ℕ → List ℕ
backward [] = []
backward (t ∷ ts) = backward ts ++ t ∷ []

-- of the code's scene
abbrev pub own_to_list : Scene → (stack : List ℕ) → List ℕ
own_to_list s xs = own_stacked (slots_of s) xs

abbrev pub listing_cost : Scene → (stack : List ℕ) → ℕ
listing_cost s xs = sum_over (cost_of (slots_of s)) xs

abbrev pub AreItemsOf : Scene → (region : ℕ) → List ℕ → Type 0
AreItemsOf s r xs = AreIn (slots_of s) 0 r xs
