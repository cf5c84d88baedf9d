-- Regions whose ends are known by a mark, by what stands around what.
use Rattle.std.specs.Prelude.{◌≡◌, ℕ, ◌<◌, ◌&&◌, not, Bool, true, false, List, [], ◌∷◌, ◌++◌, slice_get, Option, Some, None}
use Rattle.tp_scene.specs.declared.answer.Cell.TheVariants.{End}
use Rattle.tp_slots.specs.Places.{holder_at}
use Rattle.tp_slots.specs.Plain.{What, bare, holds, gone}
use Rattle.tp_slots.specs.Read.{holders_of, item_home, item_what, scene_of}
use Rattle.tp_slots.specs.declared.scene.Scene.{Scene}
use Rattle.tp_step.specs.declared.tally.Wait.{Wait}
use Rattle.tp_lanes.specs.Planes.{flag}
use Rattle.tp_agenda.specs.Ready.{WaitsFor}
use Rattle.tp_agenda.specs.Marks.{has_known_end}

-- the region in which the item stands that holds the region
abbrev pub region_around : Scene → (region : ℕ) → ℕ
region_around s r = item_home s (holder_at (holders_of s) r)

-- its end is known, and what waits for it wasn't woken yet
abbrev pub is_due : Scene → (taken : List Bool) → (region : ℕ) → Bool
is_due s taken r = not (flag taken r) && has_known_end (scene_of s) r

-- From one region outward to another, through regions that are due.
pub data LeadsThrough (s : Scene) (taken : List Bool) : ℕ → ℕ → Type 0 where
  is_there : {r : ℕ} → is_due s taken r ≡ true → LeadsThrough s taken r r
  goes_out : {r top : ℕ} → is_due s taken r ≡ true → 0 < r
      → LeadsThrough s taken (region_around s r) top → LeadsThrough s taken r top

-- Two regions lead outward to the same one.
pub record MeetOutward (s : Scene) (taken : List Bool) (r q : ℕ) : Type 0 where
  pub top : ℕ
  pub first : LeadsThrough s taken r top
  pub second : LeadsThrough s taken q top

-- each end that is known, and for which a wait isn't over, is near the marked region
abbrev pub WaitsAreNear : Scene → (taken : List Bool) → (marked : ℕ) → List Wait
    → (over : List Bool) → Type 0
WaitsAreNear s taken marked waits over =
    (i : ℕ) (x : Wait) (r d : ℕ) → slice_get waits i ≡ Some x → flag over i ≡ false
    → WaitsFor x (End r d) → has_known_end (scene_of s) r ≡ true → MeetOutward s taken marked r

-- the regions that what stands in a slot holds, and those that these items hold
abbrev pub other_held : Option ℕ → List ℕ
other_held None = []
other_held (Some q) = q ∷ []

abbrev pub held_by_what : What → List ℕ
held_by_what (bare l) = []
held_by_what (holds k r o) = r ∷ other_held o
held_by_what (gone by) = []

abbrev pub held_by_items : Scene → (items : List ℕ) → List ℕ
held_by_items s [] = []
held_by_items s (t ∷ ts) = held_by_what (item_what s t) ++ held_by_items s ts
