-- Entries that say of each item what its slot has.
use Rattle.std.specs.Prelude.{◌≡◌, ℕ, ◌<◌, length, Option}
use Rattle.tp_scene.specs.Scene.{Entries, none, leaf, node}
use Rattle.tp_slots.specs.Plain.{bare, holds, Slots, slot_at, head_at, other_head, second_of, entries_at}

abbrev pub AreShown : Slots → (r : ℕ) → Entries → Type 0
AreShown s r none = Unit {0}
AreShown s r (leaf id l rest) =
    (id < length s.slots) × (slot_at s id ≡ record { home = r; what = bare l }) × AreShown s r rest
AreShown s r (node id k h held g second rest) =
    (id < length s.slots) × (q : Option ℕ)
    × (slot_at s id ≡ record { home = r; what = holds k h.number q })
    × (h ≡ head_at s h.number) × (held ≡ entries_at s h.number) × (g ≡ other_head s q)
    × (second ≡ second_of (entries_at s) q)
    × AreShown s h.number held × AreShown s g.number second × AreShown s r rest
