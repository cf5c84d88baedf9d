-- The numbers of live items.
use Rattle.std.proofs.Common.{◌≡◌, ℕ, ◌<◌, true}
use Rattle.tp_scene.specs.Scene.{has}
use Rattle.tp_slots.specs.Kept.{IsWellKept}
use Rattle.tp_slots.specs.Plain.{entries_at}
use Rattle.tp_slots.specs.Read.{scene_of, slots_of}
use Rattle.tp_slots.specs.declared.scene.Scene.{Scene}
use Rattle.tp_slots.proofs.Showing.{all_shown, has_shown}

-- each live item is below the next new one
pub live_below : (s : Scene) → IsWellKept s → (t : ℕ) → has t (scene_of s).root.entries ≡ true → t < (scene_of s).next_item
live_below s kept t lives =
    let o = kept.shape.ordered in
    (has_shown (slots_of s) o t 0 (entries_at (slots_of s) 0) (all_shown (slots_of s) o 0 o.root) lives).0
