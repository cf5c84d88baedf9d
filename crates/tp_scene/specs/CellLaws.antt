-- What it means to wait for a cell, and what decides one.
use Rattle.std.specs.Prelude.{◌≡◌, ◌⊎◌, ℕ, true, Bool, List, Option, Some}
use Rattle.tp_scene.specs.declared.answer.Cell.{Cell}
use Rattle.tp_scene.specs.Scene.{has}
use Rattle.tp_scene.specs.Step.{Reduction, waits}
use Rattle.tp_scene.specs.Pick.{Setting, Moment, Reduces, outcome_of}
use Rattle.tp_scene.specs.Rest.{AtRest, waiting, ends, goes, settled, IsOpenCell}
use Rattle.tp_scene.specs.Laws.{IsSound}
use Rattle.tp_scene.specs.Cells.{IsDecided}

-- None of the cells that an item waits for is decided.
pub record AreUndecided (m : Moment) (first : Cell) (other : Option Cell) : Type 0 where
  pub not_first : IsDecided m first → ⊥
  pub not_other : (cell : Cell) → other ≡ Some cell → IsDecided m cell → ⊥

abbrev pub WaitsAreForUndecided : Type 0
WaitsAreForUndecided =
    (w : Setting) (kinds : List Bool) (m : Moment) (t : ℕ) (first : Cell) (other : Option Cell)
    → IsSound w kinds m → outcome_of w m.store m.scene t ≡ waits first other
    → AreUndecided m first other

-- A decided cell stays decided in a state.
abbrev pub DecidedStays : Type 0
DecidedStays =
    (w : Setting) (kinds : List Bool) (m : Moment) (t : ℕ) (r : Reduction) (next : Moment)
    → IsSound w kinds m → Reduces w m t r next
    → (cell : Cell) → IsDecided m cell → IsDecided next cell

-- A live item waits.
pub record ItemWaits (w : Setting) (m : Moment) (t : ℕ) : Type 0 where
  pub lives : has t m.scene.root.entries ≡ true
  pub first : Cell
  pub other : Option Cell
  pub outcome : outcome_of w m.store m.scene t ≡ waits first other

-- At rest, the item that settling names waits.
abbrev pub NamedItemWaits : Type 0
NamedItemWaits =
    (w : Setting) (kinds : List Bool) (m : Moment) (t : ℕ) → IsSound w kinds m → AtRest w m
    → settled m.scene ≡ waiting t → ItemWaits w m t

-- So what is at rest ends, goes on, or has an open cell;
abbrev pub RestEndsGoesOrIsOpen : Type 0
RestEndsGoesOrIsOpen =
    (w : Setting) (kinds : List Bool) (m : Moment) → IsSound w kinds m → AtRest w m
    → (settled m.scene ≡ ends) ⊎ ((settled m.scene ≡ goes) ⊎ ((cell : Cell) × IsOpenCell w m cell))

-- and its open cell isn't decided.
abbrev pub OpenCellsAreUndecided : Type 0
OpenCellsAreUndecided =
    (w : Setting) (kinds : List Bool) (m : Moment) (cell : Cell) → IsSound w kinds m
    → IsOpenCell w m cell → IsDecided m cell → ⊥
