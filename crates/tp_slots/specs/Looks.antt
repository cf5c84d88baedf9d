-- What was found of regions by a look.
use Rattle.std.specs.Prelude.{◌≡◌, ℕ, zero, suc, ◌≤◌, ◌<◌, Bool, true, false, cond, eqb, ◌||◌, ◌&&◌, List, length, get_or, ◌⊎◌}
use Rattle.tp_lanes.specs.Planes.{flag}
use Rattle.tp_scene.specs.Scene.{Side, Ending, Going}
use Rattle.tp_slots.specs.Plain.{What, bare, holds, gone, Slot, Slots, slot_at}
use Rattle.tp_slots.specs.Places.{holder_at, place_outward}
use Rattle.tp_slots.specs.Flags.{Flags, forced_in, sinks_in}
use Rattle.tp_slots.specs.Lives.{lives_in}
use Rattle.tp_slots.specs.declared.looks.Looks.{Looks}

-- the depth that was found of the region r, or 0
abbrev pub depth_known : Looks → (r : ℕ) → ℕ
depth_known k r = get_or k.depths.items r 0

-- whether it was found that the region r isn't so on that side
abbrev pub found_not_so : Side → Looks → (r : ℕ) → Bool
found_not_so Ending k r = flag k.not_ending r
found_not_so Going k r = flag k.not_going r

-- Where a depth was found of a region, it is live, and that deep.
pub record DepthsAreRight (s : Slots) (holders : List ℕ) (k : Looks) : Type 0 where
  pub few : length k.depths.items ≤ length s.regions
  pub known : (r : ℕ) → r < length s.regions → 0 < depth_known k r
      → (lives_in s holders r ≡ true) × ((place_outward s holders r).depth ≡ depth_known k r)

-- And what was found not to be so on a side isn't.
pub record LooksAreRight (s : Slots) (holders : List ℕ) (k : Looks) : Type 0 where
  pub depths : DepthsAreRight s holders k
  pub not_so : (z : Side) (r : ℕ) → found_not_so z k r ≡ true
      → (r < length s.regions) × ((place_outward s holders r).is z ≡ false)

-- what is seen of the region r on that side, by flags of at most so many regions outward
abbrev pub seen_up : Slots → (holders : List ℕ) → Side → Flags → ℕ → (r : ℕ) → Bool
seen_up s hs z f zero r = f r
seen_up s hs z f (suc n) r =
    f r || cond (eqb r 0) false
    (forced_in (slot_at s (holder_at hs r)).what r z
    || (sinks_in (slot_at s (holder_at hs r)).what r z
    && seen_up s hs z f n (slot_at s (holder_at hs r)).home))

-- The same after a step, by the flags alone: those that follow from its mark aren't set yet.
pub record LooksFollow (s : Slots) (holders : List ℕ) (flags : Side → Flags)
    (k : Looks) : Type 0 where
  pub depths : DepthsAreRight s holders k
  pub not_so : (z : Side) (r n : ℕ) → found_not_so z k r ≡ true
      → (r < length s.regions) × (seen_up s holders z (flags z) n r ≡ false)

-- In the set are numbers below the least one as before, and no others.
pub record IsLeftBelow (least : ℕ) (old new : List Bool) : Type 0 where
  pub below : (n : ℕ) → n < least → flag new n ≡ flag old n
  pub gone : (n : ℕ) → least ≤ n → flag new n ≡ false

-- In the set are numbers of before and the new one, and no others.
abbrev pub IsJoined : (number : ℕ) → (old new : List Bool) → Type 0
IsJoined number old new = (n : ℕ) → flag new n ≡ true → (flag old n ≡ true) ⊎ (n ≡ number)

-- What was found on a marked side is forgotten of the regions from top on.
pub record IsAfterMark (z : Side) (top : ℕ) (old new : Looks) : Type 0 where
  pub depths : new.depths ≡ old.depths
  pub found : (y : Side) (r : ℕ) → found_not_so y new r ≡ true
      → (found_not_so y old r ≡ true) × (y ≡ z → r < top)

-- The same depths, with places as far as that of the region r.
pub record IsLonger (r : ℕ) (old new : List ℕ) : Type 0 where
  pub same : (q : ℕ) → get_or new q 0 ≡ get_or old q 0
  pub few : (c : ℕ) → r < c → length old ≤ c → length new ≤ c

-- The same looks, but for the depth that may be kept of the region r.
pub record IsDepthKept (r depth : ℕ) (old new : Looks) : Type 0 where
  pub same : (q : ℕ) → (depth_known new q ≡ depth_known old q)
      ⊎ ((q ≡ r) × (depth_known new q ≡ depth))
  pub few : (c : ℕ) → r < c → length old.depths.items ≤ c → length new.depths.items ≤ c
  pub not_ending : new.not_ending ≡ old.not_ending
  pub not_going : new.not_going ≡ old.not_going

-- The same looks, but that of the region r it may be kept that it isn't so.
pub record IsNotSoKept (z : Side) (r : ℕ) (old new : Looks) : Type 0 where
  pub depths : new.depths ≡ old.depths
  pub found : (y : Side) (q : ℕ) → found_not_so y new q ≡ true
      → (found_not_so y old q ≡ true) ⊎ ((y ≡ z) × (q ≡ r))

-- The region at which a try of what stands in a slot looks.
abbrev pub looked_into : (home : ℕ) → What → ℕ
looked_into home (bare l) = home
looked_into home (holds k r q) = r
looked_into home (gone by) = home

abbrev pub looked_at : Slot → ℕ
looked_at x = looked_into x.home x.what
