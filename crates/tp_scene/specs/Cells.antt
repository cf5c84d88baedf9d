-- Which cells are decided.
use Rattle.std.specs.Prelude.{◌≡◌, ◌⊎◌, ℕ, IsTrue, Some}
use Rattle.tp_value.specs.declared.value.Shape.{Shape}
use Rattle.tp_store.specs.Facts.{kept_shape, is_excluded}
use Rattle.tp_scene.specs.declared.answer.Cell.{Cell}
use Rattle.tp_scene.specs.declared.answer.Cell.TheVariants.{Part, End}
use Rattle.tp_scene.specs.Scene.{Side, Head, Entries, Scene}
use Rattle.tp_scene.specs.Regions.{LiveRegion}
use Rattle.tp_scene.specs.Status.{HasStatus}
use Rattle.tp_scene.specs.Pick.{Moment}

-- A live region with this number ends, or one goes.
pub record IsKnownEnd (s : Scene) (number : ℕ) : Type 0 where
  pub head : Head
  pub entries : Entries
  pub region : LiveRegion s head entries
  pub numbered : head.number ≡ number
  pub side : Side
  pub status : HasStatus s side head entries region

-- A cell is decided where a kept fact gives its path a shape or excludes it, or where it is known
-- of its region that it ends or that it goes.
abbrev pub IsDecided : Moment → Cell → Type 0
IsDecided m (Part p) =
    ((sh : Shape) × (kept_shape m.store.facts p ≡ Some sh)) ⊎ IsTrue (is_excluded m.store.facts p)
IsDecided m (End region depth) = IsKnownEnd m.scene region
