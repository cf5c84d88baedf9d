-- Where live items stand, and where the status of a live region is computed.
use Rattle.std.specs.Prelude.{◌≡◌, ◌↔◌, ℕ, true, IsTrue}
use Rattle.tp_scene.specs.Scene.{Head, Split, SplitProject, Closed, Opened, Running, Entries, none, leaf, node, Scene, has, Side, Place, root_place, held_place, second_place}
use Rattle.tp_scene.specs.Regions.{LiveRegion, IsTail, Role, HoldsRegion, by_split, by_split_project, by_closed, by_opened, by_running, by_running_second, past_leaf, past_node, the_root, the_held}
use Rattle.tp_scene.specs.Status.{HasStatus}

-- the first of these entries is the item t
abbrev pub StartsWith : (t : ℕ) → Entries → Type 0
StartsWith t none = ⊥
StartsWith t (leaf id l rest) = id ≡ t
StartsWith t (node id k h held g second rest) = id ≡ t

-- The item t stands in a live region.
pub record StandsLive (s : Scene) (t : ℕ) : Type 0 where
  pub head : Head
  pub entries : Entries
  pub region : LiveRegion s head entries
  pub tail : Entries
  pub is_tail : IsTail tail entries
  pub first : StartsWith t tail

-- The live items of a scene are those that stand in its live regions.
abbrev pub LiveItemsStandInLiveRegions : Type 0
LiveItemsStandInLiveRegions = (s : Scene) (t : ℕ) → (has t s.root.entries ≡ true) ↔ StandsLive s t

-- the place of the items of a region that is held in a region of that place
abbrev pub place_through : {es : Entries} {role : Role} {i : Head} {held : Entries}
    → HoldsRegion es role i held → Place → Place
place_through (by_split {f = f} {env = env} {h = h} {held = held}) p =
    held_place (Split f env) h held p
place_through (by_split_project {f = f} {env = env} {h = h} {held = held}) p =
    held_place (SplitProject f env) h held p
place_through (by_closed {h = h} {held = held}) p = held_place Closed h held p
place_through (by_opened {f = f} {env = env} {h = h} {held = held}) p =
    held_place (Opened f env) h held p
place_through (by_running {f = f} {env = env} {h = h} {held = held}) p =
    held_place (Running f env) h held p
place_through (by_running_second {g = g} {second = second}) p = second_place g second p
place_through (past_leaf in_it) p = place_through in_it p
place_through (past_node in_it) p = place_through in_it p

-- the place of the items of a live region, as it is computed on the way to it
abbrev pub computed_place : {s : Scene} {h : Head} {es : Entries} → LiveRegion s h es → Place
computed_place {s = s} the_root = root_place s.root
computed_place (the_held around in_it) = place_through in_it (computed_place around)

-- The status that is computed for a live region of any scene is the least that the rules give.
abbrev pub StatusIsLeast : Type 0
StatusIsLeast =
    (s : Scene) (h : Head) (es : Entries) (x : LiveRegion s h es) (z : Side)
    → IsTrue ((computed_place x).is z) ↔ HasStatus s z h es x
