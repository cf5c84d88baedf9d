-- What holds of a scene between the steps of a state.
use Rattle.std.specs.Prelude.{◌≡◌, ℕ, ◌+◌, ◌<◌, ◌≤◌, Bool, true, false, List, ◌∷◌, length, map, vec_len, vec_capacity}
use Rattle.tp_store.specs.Known.{Contents}
use Rattle.tp_scene.specs.Scene.{Side, Ending, Going, has, Place}
use Rattle.tp_scene.specs.Step.{Reduction, PickOutcome, Numbers, region_limit}
use Rattle.tp_scene.specs.Pick.{Setting, outcome_of, numbers_of, scene_after}
use Rattle.tp_scene.specs.Fits.{AreNumbers, item_numbers, region_numbers}
use Rattle.tp_slots.specs.Plain.{Slots, IsOrdered, entries_at}
use Rattle.tp_slots.specs.Places.{AreHeld, place_outward}
use Rattle.tp_slots.specs.Lives.{HasOwn, lives_in}
use Rattle.tp_slots.specs.Flags.{Flags, FlagsAreRight, flags_in}
use Rattle.tp_slots.specs.Looks.{LooksAreRight}
use Rattle.tp_slots.specs.Row.{begun}
use Rattle.tp_slots.specs.Threads.{AreThreaded}
use Rattle.tp_slots.specs.Read.{slots_of, scene_of, afters_of, holders_of, ends_of, goes_of, flags_of}
use Rattle.tp_slots.specs.declared.scene.Scene.{Scene}

-- no number stands twice
pub record IsNumberedOnce (s : Slots) : Type 0 where
  pub items : AreNumbers (length s.slots) (item_numbers (entries_at s 0))
  pub regions : AreNumbers (length s.regions) (0 ∷ region_numbers (entries_at s 0))

-- Numbers lead to greater ones, none stands twice, each item is read in its region, and each region
-- knows what holds it.
pub record IsShaped (s : Slots) (holders : List ℕ) : Type 0 where
  pub ordered : IsOrdered s
  pub numbers : IsNumberedOnce s
  pub own : HasOwn s
  pub held : AreHeld s holders

-- a region that isn't live has no flag
abbrev pub IsQuiet : Slots → (holders : List ℕ) → Flags → Type 0
IsQuiet s hs f = (r : ℕ) → r < length s.regions → lives_in s hs r ≡ false → f r ≡ false

-- And it is known what is visited after each item; the status that is kept with each region is
-- right, and so is what was found of it.
pub record IsWellKept (s : Scene) : Type 0 where
  pub shape : IsShaped (slots_of s) (holders_of s)
  pub threads : AreThreaded (slots_of s) (afters_of s)
  pub ending : FlagsAreRight (slots_of s) Ending (flags_in (ends_of s))
  pub going : FlagsAreRight (slots_of s) Going (flags_in (goes_of s))
  pub quiet_ends : IsQuiet (slots_of s) (holders_of s) (flags_in (ends_of s))
  pub quiet_goes : IsQuiet (slots_of s) (holders_of s) (flags_in (goes_of s))
  pub looks : LooksAreRight (slots_of s) (holders_of s) s.looks

-- Nothing was changed.
pub record IsUnchanged (old new : Scene) : Type 0 where
  pub slots : new.slots.items ≡ old.slots.items
  pub regions : new.regions.items ≡ old.regions.items

-- There is room for so many items more.
abbrev pub HasRoomFor : (count : ℕ) → Scene → Type 0
HasRoomFor c s = vec_len s.slots + c ≤ vec_capacity s.slots

-- a live item
abbrev pub Lives : Scene → (item : ℕ) → Type 0
Lives s t = has t (scene_of s).root.entries ≡ true

-- the place of the items of a region, and whether it is live
abbrev pub region_place_of : Scene → ℕ → Place
region_place_of s r = place_outward (slots_of s) (holders_of s) r

abbrev pub region_lives : Scene → ℕ → Bool
region_lives s r = lives_in (slots_of s) (holders_of s) r

-- the flags of a scene on one side
abbrev pub flags_on : Side → Scene → Flags
flags_on z s = flags_in (flags_of z s)

-- the place can be read
abbrev pub PlaceFits : Scene → ℕ → Type 0
PlaceFits s r = (region_place_of s r).depth ≤ region_limit

-- the scene after a reduction of the item
abbrev pub IsReducedTo : (item : ℕ) → Reduction → (old new : Scene) → Type 0
IsReducedTo t r old new = scene_of new ≡ scene_after t r (scene_of old)

-- what comes of picking the item, with these facts and variables
abbrev pub outcome_in : Setting → Contents → Scene → ℕ → PickOutcome
outcome_in w k s t = outcome_of w k (scene_of s) t

abbrev pub numbers_in : Contents → Scene → Numbers
numbers_in k s = numbers_of (scene_of s) k.variables

-- so many false flags more
abbrev pub unset : (count : ℕ) → List Bool
unset c = map (λ x. false) (begun 0 c)
