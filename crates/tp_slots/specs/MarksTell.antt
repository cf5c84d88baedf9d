-- What the mark of a region tells of its status by the rules.
use Rattle.std.specs.Prelude.{◌≡◌, ◌↔◌, ◌⊎◌, ℕ, Bool, List, Some, None}
use Rattle.tp_scene.specs.Scene.{Ending, Going, Side, Head, Entries}
use Rattle.tp_scene.specs.Scene as S
use Rattle.tp_scene.specs.Regions.{LiveRegion}
use Rattle.tp_scene.specs.Status.{HasStatus}
use Rattle.tp_scene.specs.Cells.{IsKnownEnd}
use Rattle.tp_scene.specs.Seen.{IsLiveNumber}
use Rattle.tp_scene.specs.Pick.{Setting, Moment}
use Rattle.tp_scene.specs.Laws.{IsSound}
use Rattle.tp_slots.specs.Status.{region_mark}
use Rattle.tp_slots.specs.declared.scene.Mark.TheVariants.{Open, Ends, Goes}

-- The number of a live region has the mark that its status gives.
pub record MarkTells (s : S.Scene) (h : Head) (es : Entries) (region : LiveRegion s h es) :
    Type 0 where
  pub ends : (region_mark h.number s ≡ Some Ends) ↔ HasStatus s Ending h es region
  pub goes : (region_mark h.number s ≡ Some Goes) ↔ HasStatus s Going h es region
  pub unknown : (region_mark h.number s ≡ Some Open) ↔ ((z : Side) → HasStatus s z h es region → ⊥)

-- A number has a mark where it is that of a live region; the mark is `Open` where the region's end
-- isn't known, and else one of the others.
pub record MarksTell (s : S.Scene) (number : ℕ) : Type 0 where
  pub none : (region_mark number s ≡ None)
      ↔ ((depth : ℕ) → IsLiveNumber s number depth → ⊥)
  pub unknown : (region_mark number s ≡ Some Open)
      ↔ (((depth : ℕ) × IsLiveNumber s number depth) × (IsKnownEnd s number → ⊥))
  pub known : ((region_mark number s ≡ Some Ends) ⊎ (region_mark number s ≡ Some Goes))
      ↔ IsKnownEnd s number

-- They tell so in a sound moment.
abbrev pub MarksTellStatus : Type 0
MarksTellStatus = (w : Setting) (kinds : List Bool) (m : Moment) → IsSound w kinds m
    → ((h : Head) (es : Entries) (region : LiveRegion m.scene h es) → MarkTells m.scene h es region)
    × ((number : ℕ) → MarksTell m.scene number)
