-- Places of regions, by the items that hold them.
use Rattle.std.specs.Prelude.{◌≡◌, ℕ, zero, suc, ◌<◌, false, cond, eqb, List, length, get_or, Some, IfSome, ◌⊎◌}
use Rattle.tp_scene.specs.Scene.{Place, root_place, held_place, second_place}
use Rattle.tp_slots.specs.Plain.{What, bare, holds, gone, Slots, slot_at, head_at, entries_at, scene_in}

-- the item that holds the region
abbrev pub holder_at : List ℕ → ℕ → ℕ
holder_at hs r = get_or hs r 0

-- the place of the region r that this item holds, in a region of place p
abbrev pub held_in : Slots → (r : ℕ) → What → Place → Place
held_in s r (bare l) p = p
held_in s r (holds k h q) p =
    cond (eqb h r) (held_place k (head_at s r) (entries_at s r) p)
    (second_place (head_at s r) (entries_at s r) p)
held_in s r (gone by) p = p

-- so many regions outward
abbrev pub place_up : Slots → (holders : List ℕ) → ℕ → (r : ℕ) → Place
place_up s hs zero r = root_place (scene_in s).root
place_up s hs (suc n) r =
    cond (eqb r 0) (root_place (scene_in s).root)
    (held_in s r (slot_at s (holder_at hs r)).what
    (place_up s hs n (slot_at s (holder_at hs r)).home))

abbrev pub place_outward : Slots → (holders : List ℕ) → (r : ℕ) → Place
place_outward s hs r = place_up s hs r r

-- of each region that the item t holds, it is known that t does
abbrev pub HeldBy : List ℕ → (t : ℕ) → What → Type 0
HeldBy hs t (bare l) = Unit {0}
HeldBy hs t (holds k r q) =
    (holder_at hs r ≡ t) × IfSome q (λ p. (holder_at hs p ≡ t) × (eqb r p ≡ false))
HeldBy hs t (gone by) = Unit {0}

-- it holds the region r
abbrev pub HoldsByNumber : What → (r : ℕ) → Type 0
HoldsByNumber (bare l) r = ⊥
HoldsByNumber (holds k p o) r = (p ≡ r) ⊎ (o ≡ Some r)
HoldsByNumber (gone by) r = ⊥

-- Of each region but the root the item that holds it is known.
pub record AreHeld (s : Slots) (hs : List ℕ) : Type 0 where
  pub count : length hs ≡ length s.regions
  pub by : (t : ℕ) → t < length s.slots → HeldBy hs t (slot_at s t).what
  pub holders : (r : ℕ) → 0 < r → r < length s.regions
      → (holder_at hs r < length s.slots) × HoldsByNumber (slot_at s (holder_at hs r)).what r
