-- Which items are live.
use Rattle.std.specs.Prelude.{◌≡◌, ℕ, zero, suc, ◌<◌, Bool, true, false, ◌||◌, ◌&&◌, eqb, List, length, Option, Some, None}
use Rattle.tp_scene.specs.Scene.{Entries, none, leaf, node, second_lives}
use Rattle.tp_slots.specs.Plain.{What, bare, holds, gone, Slots, slot_at, entries_at, IsLive}
use Rattle.tp_slots.specs.Places.{holder_at}

-- it is among these entries, and not inside of them
abbrev pub has_own : ℕ → Entries → Bool
has_own t none = false
has_own t (leaf id l rest) = eqb id t || has_own t rest
has_own t (node id k h held g second rest) = eqb id t || has_own t rest

abbrev pub is_item : What → Bool
is_item (bare l) = true
is_item (holds k r q) = true
is_item (gone by) = false

abbrev pub is_second : Option ℕ → (r : ℕ) → Bool
is_second None r = false
is_second (Some p) r = eqb p r

-- it holds the region r, which is live where the item is
abbrev pub leads_to : What → (r : ℕ) → Bool
leads_to (bare l) r = false
leads_to (holds k p o) r = eqb p r || (second_lives k && is_second o r)
leads_to (gone by) r = false

-- the region r is live, as far as so many regions outward
abbrev pub lives_up : Slots → (holders : List ℕ) → ℕ → (r : ℕ) → Bool
lives_up s hs zero r = eqb r 0
lives_up s hs (suc n) r =
    eqb r 0 || (leads_to (slot_at s (holder_at hs r)).what r
    && lives_up s hs n (slot_at s (holder_at hs r)).home)

abbrev pub lives_in : Slots → (holders : List ℕ) → (r : ℕ) → Bool
lives_in s hs r = lives_up s hs r r

-- each item is read in its region
abbrev pub HasOwn : Slots → Type 0
HasOwn s =
    (t : ℕ) → t < length s.slots → IsLive (slot_at s t).what
    → has_own t (entries_at s (slot_at s t).home) ≡ true
