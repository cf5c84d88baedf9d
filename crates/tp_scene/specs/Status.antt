-- Status, by its rules.
use Rattle.std.specs.Prelude.{IsTrue}
use Rattle.tp_scene.specs.Scene.{Side, Ending, Going, Head, Entries, Scene}
use Rattle.tp_scene.specs.Regions.{left_region, closed_region, inner_region, outer_region, HoldsRegion, LiveRegion, the_held}

-- A live region ends, or it goes, exactly where one of these rules gives it.
pub data HasStatus (s : Scene) : Side → (h : Head) (es : Entries) → LiveRegion s h es → Type 0 where
  -- a region ends where it is marked so
  marked_to_end : {h : Head} {es : Entries} → (x : LiveRegion s h es) → IsTrue h.ends
      → HasStatus s Ending h es x
  -- a left or inner region ends where the region around it ends
  left_ends : {h i : Head} {es held : Entries}
      → (x : LiveRegion s h es) (in_it : HoldsRegion es left_region i held)
      → HasStatus s Ending h es x → HasStatus s Ending i held (the_held x in_it)
  inner_ends : {h i : Head} {es held : Entries}
      → (x : LiveRegion s h es) (in_it : HoldsRegion es inner_region i held)
      → HasStatus s Ending h es x → HasStatus s Ending i held (the_held x in_it)
  -- a closed region ends
  closed_ends : {h i : Head} {es held : Entries}
      → (x : LiveRegion s h es) (in_it : HoldsRegion es closed_region i held)
      → HasStatus s Ending i held (the_held x in_it)
  -- a region goes where it is marked so
  marked_to_go : {h : Head} {es : Entries} → (x : LiveRegion s h es) → IsTrue h.goes
      → HasStatus s Going h es x
  -- a region goes where a left region in it goes
  left_goes : {h i : Head} {es held : Entries}
      → (x : LiveRegion s h es) (in_it : HoldsRegion es left_region i held)
      → HasStatus s Going i held (the_held x in_it) → HasStatus s Going h es x
  -- a region goes where an inner region in it goes
  inner_goes : {h i : Head} {es held : Entries}
      → (x : LiveRegion s h es) (in_it : HoldsRegion es inner_region i held)
      → HasStatus s Going i held (the_held x in_it) → HasStatus s Going h es x
  -- an outer region and the region around it have one status, both ways
  outer_takes : {z : Side} {h i : Head} {es held : Entries}
      → (x : LiveRegion s h es) (in_it : HoldsRegion es outer_region i held) → HasStatus s z h es x
      → HasStatus s z i held (the_held x in_it)
  outer_gives : {z : Side} {h i : Head} {es held : Entries}
      → (x : LiveRegion s h es) (in_it : HoldsRegion es outer_region i held)
      → HasStatus s z i held (the_held x in_it) → HasStatus s z h es x
