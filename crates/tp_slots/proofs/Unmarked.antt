-- Leaves in an item's place, without a mark.
use Rattle.std.proofs.Common.{◌≡◌, ℕ, ◌++◌, List, [], ◌∷◌, length, true, None, refl, ap, ◌∙◌}
use Rattle.tp_scene.specs.Scene.{has}
use Rattle.tp_scene.specs.Pick.{scene_after}
use Rattle.std.specs.List.{range_with_len}
use Rattle.tp_slots.specs.Plain.{What, Slot, Slots, slot_at}
use Rattle.tp_slots.specs.Replace.{gone_at, home_in}
use Rattle.tp_slots.specs.Kept.{IsWellKept}
use Rattle.tp_slots.specs.News.{new_items}
use Rattle.tp_slots.specs.Row.{stepped}
use Rattle.tp_slots.specs.Reductions.{IsBare, AreBare, becomes_leaves}
use Rattle.tp_slots.specs.Threads.{afters_then}
use Rattle.tp_slots.specs.Read.{slots_of, scene_of, afters_of, holders_of, ends_of, goes_of}
use Rattle.tp_slots.proofs.Changing.{leaves_threads, leaves_flags, leaves_looks, leaves_quiet, leaves_scene, leaves_shape, unmarked_kept}
use Rattle.tp_slots.proofs.Placing.{leaves_stepped}
use Rattle.tp_slots.proofs.Lists.{unmarked_is}
use Rattle.tp_slots.proofs.Newly.{leaves_news}
use Rattle.tp_slots.specs.declared.scene.Scene.{Scene}

-- one item more, where no region changes
pub one_stepped : (s : Slots) (t first : ℕ) (w : What) (l : List Slot) → l ≡ gone_at s.slots t (first ∷ []) ++ record { home = home_in s.slots t; what = w } ∷ [] → first ≡ length s.slots → record { slots = l; regions = s.regions } ≡ stepped s t None [] (w ∷ [])
one_stepped s t first w l e f = leaves_stepped s t first 1 None (w ∷ []) l s.regions e (unmarked_is s.regions (slot_at s t).home) f refl

module _ (s : Scene) (t : ℕ) (outs : List What) (kept : IsWellKept s) (lives : has t (scene_of s).root.entries ≡ true) (free : IsBare (slot_at (slots_of s) t).what) (bare : AreBare outs) (next : Scene)
    (es : slots_of next ≡ stepped (slots_of s) t None [] outs) (eh : holders_of next ≡ holders_of s) (ee : ends_of next ≡ ends_of s) (eg : goes_of next ≡ goes_of s) where
  pub unmarked_leaves_kept : next.looks ≡ s.looks → afters_of next ≡ afters_then (afters_of s) 0 (length outs) t → IsWellKept next
  unmarked_leaves_kept el ea =
      unmarked_kept next (slot_at (slots_of s) t).home (leaves_shape s t None outs kept lives free bare next es eh ee eg) (leaves_flags s t None outs kept lives free bare next es eh ee eg)
      (leaves_quiet s t None outs kept lives free bare next es eh ee eg) (leaves_looks s t None outs kept lives free bare next es eh ee eg el)
      (leaves_threads s t None outs kept lives free bare next es eh ee eg ea)

  pub unmarked_leaves_scene : scene_of next ≡ scene_after t (becomes_leaves (scene_of s) outs None) (scene_of s)
  unmarked_leaves_scene = leaves_scene s t None outs kept lives free bare next es eh ee eg

  pub unmarked_leaves_news : new_items (scene_of s) (scene_of next) ≡ range_with_len (length (slots_of s).slots) (length outs)
  unmarked_leaves_news = ap (new_items (scene_of s)) unmarked_leaves_scene ∙ leaves_news s t kept lives outs None
