-- The list of live items.
use Rattle.std.specs.Prelude.{◌≡◌, ◌↔◌, ℕ, true}
use Rattle.std.specs.List.{Contains}
use Rattle.tp_scene.specs.Scene.{Entries, has}
use Rattle.tp_scene.specs.LiveItems.{live_items}

-- An item is in it exactly where it is live.
abbrev pub LiveItemsAreListed : Type 0
LiveItemsAreListed = (es : Entries) (t : ℕ) → Contains (live_items es) t ↔ (has t es ≡ true)
