-- The status of a region, kept by its number: marked or risen, on one side.
use Rattle.std.specs.Prelude.{◌≡◌, ℕ, ◌<◌, Bool, true, false, ◌||◌, ◌&&◌, cond, eqb, List, length, get_or, Option, Some, None}
use Rattle.tp_scene.specs.Scene.{Side, Ending, Going, marked, rises, sinks, forced, risen, second_lives, Entries, none, leaf, node}
use Rattle.tp_slots.specs.Plain.{What, bare, holds, gone, Slots, head_at, entries_at}
use Rattle.tp_slots.specs.Lives.{is_second}

-- which regions are so
abbrev pub Flags : Type 0
Flags = ℕ → Bool

abbrev pub set_flag : (r : ℕ) → Flags → Flags
set_flag r f q = eqb q r || f q

-- The flag of each region is its status from within.
abbrev pub FlagsAreRight : Slots → Side → Flags → Type 0
FlagsAreRight s z f =
    (r : ℕ) → r < length s.regions → f r ≡ (marked z (head_at s r) || risen z (entries_at s r))

-- what rises, by the flags of the regions held
abbrev pub risen_by : Side → Flags → Entries → Bool
risen_by z f none = false
risen_by z f (leaf id l rest) = risen_by z f rest
risen_by z f (node id k h held g second rest) =
    (rises k z && f h.number) || ((second_lives k && f g.number) || risen_by z f rest)

-- the same, a step at a time
abbrev pub FlagHolds : Slots → Side → Flags → ℕ → Type 0
FlagHolds s z f r = f r ≡ (marked z (head_at s r) || risen_by z f (entries_at s r))

abbrev pub FlagsHold : Slots → Side → Flags → Type 0
FlagsHold s z f = (r : ℕ) → r < length s.regions → FlagHolds s z f r

abbrev pub number_or_zero : Option ℕ → ℕ
number_or_zero None = 0
number_or_zero (Some p) = p

-- what rises from what stands in a slot
abbrev pub rises_what : Side → Flags → What → Bool
rises_what z f (bare l) = false
rises_what z f (holds k r o) = (rises k z && f r) || (second_lives k && f (number_or_zero o))
rises_what z f (gone by) = false

-- a flag of the region r rises through what holds it
abbrev pub rises_from : What → (r : ℕ) → Side → Bool
rises_from (bare l) r z = false
rises_from (holds k p o) r z = (eqb p r && rises k z) || (second_lives k && is_second o r)
rises_from (gone by) r z = false

-- What holds the region r lets through what the region around it is; it makes the region r so
-- itself.
abbrev pub sinks_in : What → (r : ℕ) → Side → Bool
sinks_in (bare l) r z = true
sinks_in (holds k p o) r z = cond (eqb p r) (sinks k z) true
sinks_in (gone by) r z = true

abbrev pub forced_in : What → (r : ℕ) → Side → Bool
forced_in (bare l) r z = false
forced_in (holds k p o) r z = eqb p r && forced k z
forced_in (gone by) r z = false

-- flags in a list
abbrev pub flags_in : List Bool → Flags
flags_in xs q = get_or xs q false

-- below that number the flags are the same
abbrev pub AgreeBelow : ℕ → (old new : Flags) → Type 0
AgreeBelow top f g = (r : ℕ) → r < top → g r ≡ f r

-- Flags hold but for the region r, which is so.
abbrev pub Pending : Slots → Side → Flags → ℕ → Type 0
Pending s z f r =
    ((q : ℕ) → q < length s.regions → (q ≡ r → ⊥) → FlagHolds s z f q)
    × ((marked z (head_at s r) || risen_by z f (entries_at s r)) ≡ true)

-- the same after a step with that mark, on the mark's side
abbrev pub FlagsFollow : Slots → Option Side → (home : ℕ) → Side → Flags → Type 0
FlagsFollow s None home z f = FlagsAreRight s z f
FlagsFollow s (Some Ending) home Ending f = Pending s Ending f home
FlagsFollow s (Some Ending) home Going f = FlagsAreRight s Going f
FlagsFollow s (Some Going) home Ending f = FlagsAreRight s Ending f
FlagsFollow s (Some Going) home Going f = Pending s Going f home
