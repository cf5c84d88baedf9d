-- What decides a path that wasn't decided before.
use Rattle.std.specs.Prelude.{◌≡◌, ◌⊎◌, ◌||◌, ℕ, Bool, true}
use Rattle.std.specs.List.{Contains}
use Rattle.tp_value.specs.declared.path.Path.{Path}
use Rattle.tp_value.specs.declared.path.Fact.{Fact}
use Rattle.tp_store.specs.Facts.{same_path, excludes}
use Rattle.tp_scene.specs.declared.answer.Cell.TheVariants.{Part}
use Rattle.tp_scene.specs.Step.{Reduction}
use Rattle.tp_scene.specs.Pick.{Setting, Moment, Reduces}
use Rattle.tp_scene.specs.Cells.{IsDecided}

-- the fact gives the path a shape, or excludes it
abbrev pub decides_path : Fact → Path → Bool
decides_path f p = same_path f.path p || excludes f p

-- A path that a step decides is decided by one of its facts.
abbrev pub FactsDecidePaths : Type 0
FactsDecidePaths = (w : Setting) (m : Moment) (t : ℕ) (r : Reduction) (next : Moment)
    → Reduces w m t r next → (p : Path) → IsDecided next (Part p)
    → IsDecided m (Part p) ⊎ ((f : Fact) × Contains r.facts f × (decides_path f p ≡ true))
