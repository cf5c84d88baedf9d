-- Sides of equations that are places, and sides that are known already.
use Rattle.std.specs.Prelude.{◌≡◌, ◌⊎◌, Bool, true, false, List, Option, Some, None}
use Rattle.tp_value.specs.Tree.{Tree}
use Rattle.tp_value.specs.declared.path.Fact.{Fact}
use Rattle.tp_value.specs.declared.path.Path.{Path}
use Rattle.tp_store.specs.Known.{full}
use Rattle.tp_eval.specs.Evaluate.{of_full}
use Rattle.tp_eval.specs.Outcome as found
use Rattle.tp_eval.specs.Outcome.{outcome_reached}
use Rattle.tp_scene.specs.Step as row

-- what is found at a path
abbrev pub outcome_at : List Fact → Path → found.Outcome
outcome_at facts p = outcome_reached (of_full (full facts p) 0)

-- what a place is as an expression
abbrev pub outcome_of_place : List Fact → found.PlaceOutcome → found.Outcome
outcome_of_place facts (found.path p) = outcome_at facts p
outcome_of_place facts (found.other o) = o

-- no value can be set there
abbrev pub SetsNoValue : Option row.Target → Type 0
SetsNoValue t = (p : Path) → t ≡ Some (row.value_at p) → ⊥

-- the paths of the values that two sides can set, or none where one of them can set none
abbrev pub AreValuePaths : (left right : Option row.Target) → Option (Path × Path) → Type 0
AreValuePaths l r (Some paths) =
    (l ≡ Some (row.value_at paths.0)) × (r ≡ Some (row.value_at paths.1))
AreValuePaths l r None = SetsNoValue l ⊎ SetsNoValue r

-- the side can set a length
abbrev pub sets_length : Option row.Target → Bool
sets_length None = false
sets_length (Some (row.value_at p)) = false
sets_length (Some (row.length_at p)) = true

-- both are the same value
pub record AreOneValue (o p : found.Outcome) : Type 0 where
  pub value : Tree
  pub first : o ≡ found.value value
  pub second : p ≡ found.value value

-- Both sides are known by the same value, and the left one sets no length.
pub record AreEqual (left right : row.SideOf) : Type 0 where
  pub values : AreOneValue left.found right.found
  pub no_length : sets_length left.target ≡ false

-- The side can be set at this path, and waits.
pub record Awaits (side : row.SideOf) (p : Path) : Type 0 where
  pub target : side.target ≡ Some (row.value_at p)
  pub cell : Path
  pub found : side.found ≡ found.wait cell
