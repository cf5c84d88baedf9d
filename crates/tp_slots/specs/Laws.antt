-- What callers of the calls on places need.
use Rattle.std.specs.Prelude.{◌≡◌, ℕ, ◌≤◌, Bool, true, List}
use Rattle.tp_meaning.specs.Syntax.{Definition}
use Rattle.tp_store.specs.Known.{Variable}
use Rattle.tp_scene.specs.Scene.{has, root_place}
use Rattle.tp_scene.specs.Step.{region_limit}
use Rattle.tp_scene.specs.Fits.{EntriesFit}
use Rattle.tp_slots.specs.Kept.{IsWellKept}
use Rattle.tp_slots.specs.Picked.{IsHolding, first_held}
use Rattle.tp_slots.specs.Places.{place_outward}
use Rattle.tp_slots.specs.Plain.{slot_at}
use Rattle.tp_slots.specs.Read.{holders_of, scene_of, slots_of}
use Rattle.tp_slots.specs.declared.scene.Scene.{Scene}

-- the region of the item t, and the one that it holds
pub record IsShallow (s : Scene) (t : ℕ) : Type 0 where
  pub stands : (place_outward (slots_of s) (holders_of s) (slot_at (slots_of s) t).home).depth
      ≤ region_limit
  pub inside : IsHolding (slot_at (slots_of s) t).what
      → (place_outward (slots_of s) (holders_of s) (first_held (slot_at (slots_of s) t).what)).depth
      ≤ region_limit

abbrev pub PlacesAreShallow : Type 0
PlacesAreShallow =
    (defs : List Definition) (kinds : List Bool) (variables : List Variable) (s : Scene) (t : ℕ)
    → IsWellKept s → EntriesFit defs kinds variables (scene_of s).root.entries
    (root_place (scene_of s).root) → has t (scene_of s).root.entries ≡ true → IsShallow s t
