-- What waits goes on waiting where another item is picked, and what rests rests on.
use Rattle.std.specs.Prelude.{◌≡◌, ◌≢◌, ◌⊎◌, ℕ, true, Bool, List, Option, Some}
use Rattle.std.specs.List.{Contains}
use Rattle.tp_value.specs.declared.path.Fact.{Fact}
use Rattle.tp_scene.specs.declared.answer.Cell.{Cell}
use Rattle.tp_scene.specs.declared.answer.Cell.TheVariants.{Part, End}
use Rattle.tp_scene.specs.Scene.{Side, has}
use Rattle.tp_scene.specs.Step.{Reduction, PickOutcome, waits, rests}
use Rattle.tp_scene.specs.Pick.{Setting, Moment, Reduces, outcome_of}
use Rattle.tp_scene.specs.Cells.{IsDecided}
use Rattle.tp_scene.specs.CellLaws.{AreUndecided}
use Rattle.tp_scene.specs.Decided.{decides_path}
use Rattle.tp_scene.specs.Laws.{IsSound}
use Rattle.tp_step_laws.specs.Orders.{StepsTo}

-- the item is live, and picking it gives this
abbrev pub Gives : Setting → Moment → ℕ → PickOutcome → Type 0
Gives w m u o = (has u m.scene.root.entries ≡ true) × (outcome_of w m.store m.scene u ≡ o)

-- An item that waits goes on waiting for the same cells where another one is picked, as long as
-- none of them is decided.
abbrev pub WaitsStay : Type 0
WaitsStay = (w : Setting) (kinds : List Bool) (m next : Moment) (t u : ℕ) (first : Cell)
    (other : Option Cell)
    → t ≢ u → IsSound w kinds m → StepsTo w m t next → Gives w m u (waits first other)
    → AreUndecided next first other → Gives w next u (waits first other)

-- One that rests rests on.
abbrev pub RestsStay : Type 0
RestsStay = (w : Setting) (kinds : List Bool) (m next : Moment) (t u : ℕ) → t ≢ u
    → IsSound w kinds m → StepsTo w m t next → Gives w m u rests → Gives w next u rests

-- the step has what decides the cell: a fact at its path, or a mark
abbrev pub IsDecidedBy : Reduction → Cell → Type 0
IsDecidedBy r (Part p) = (f : Fact) × Contains r.facts f × (decides_path f p ≡ true)
IsDecidedBy r (End region depth) = (z : Side) × (r.mark ≡ Some z)

-- One of the cells is decided, and it is so by this step.
pub record IsWokenBy (r : Reduction) (next : Moment) (first : Cell) (other : Option Cell) :
    Type 0 where
  pub cell : Cell
  pub is_one : (cell ≡ first) ⊎ (other ≡ Some cell)
  pub decided : IsDecided next cell
  pub by : IsDecidedBy r cell

-- An item that waits goes on waiting where another one is picked, or the step decides one of the
-- cells that it waits for.
abbrev pub WaitsStayUntilWoken : Type 0
WaitsStayUntilWoken = (w : Setting) (kinds : List Bool) (m : Moment) (t u : ℕ) (r : Reduction)
    (next : Moment) (first : Cell) (other : Option Cell)
    → t ≢ u → IsSound w kinds m → Reduces w m t r next → Gives w m u (waits first other)
    → Gives w next u (waits first other) ⊎ IsWokenBy r next first other
