-- The scene after a replacement is the scene after the reduction.
use Rattle.std.proofs.Common.{◌≡◌, ℕ, ◌+◌, true, ◌∷◌, length, sym, ◌∙◌, arith}
use Rattle.tp_scene.specs.Scene.{has}
use Rattle.tp_scene.specs.Step.{Reduction}
use Rattle.tp_scene.specs.Fits.{AreNumbers, item_numbers, region_numbers}
use Rattle.tp_scene.specs.Pick.{mark_at, put, scene_after}
use Rattle.tp_scene.proofs.Count.{count_first, numbers_once}
use Rattle.tp_slots.specs.Plain.{Slots, slot_at, head_at, entries_at, scene_in, IsOrdered}
use Rattle.tp_slots.specs.Edit.{one_place, one_mark, Follows}
use Rattle.tp_slots.proofs.Read.{region_edited}
use Rattle.tp_slots.proofs.PutEdits.{put_edited}
use Rattle.tp_slots.proofs.Showing.{all_shown, has_shown}

pub scene_edited : (s s' : Slots) (t : ℕ) (r : Reduction) → IsOrdered s → has t (entries_at s 0) ≡ true
    → AreNumbers (length s.slots) (item_numbers (entries_at s 0)) → AreNumbers (length s.regions) (0 ∷ region_numbers (entries_at s 0))
    → Follows 0 s s' (one_place t r.news) (one_mark (slot_at s t).home r.mark)
    → length s'.slots ≡ length s.slots + r.items → length s'.regions ≡ length s.regions + r.regions
    → scene_in s' ≡ scene_after t r (scene_in s)
scene_edited s s' t r sound lives ns rs f i j =
    let home = (slot_at s t).home in
    let there = has_shown s sound t 0 (entries_at s 0) (all_shown s sound 0 sound.root) lives in
    let a = (numbers_once (length s.slots) (item_numbers (entries_at s 0)) ns).once t in
    let b = (numbers_once (length s.regions) (0 ∷ region_numbers (entries_at s 0)) rs).once home in
    let c = count_first home 0 (region_numbers (entries_at s 0)) in
    let e = put_edited t home r.mark r.news (entries_at s 0) (head_at s 0) lives there.1 a (omega (arith, b, c)) in
    let g = region_edited s s' (one_place t r.news) (one_mark home r.mark) 0 sound f (length s.regions) (length s'.regions) 0 (omega arith) (omega arith) (omega arith) sound.root in
    let head : head_at s' 0 ≡ mark_at t r.mark (head_at s 0) (entries_at s 0) = f.heads 0 sound.root (omega arith) ∙ sym e.head in
    let entries : entries_at s' 0 ≡ put t r.mark r.news (entries_at s 0) = g ∙ sym e.entries in
    λ x. record { root = record { head = head x; entries = entries x }; next_item = i x; next_region = j x }
