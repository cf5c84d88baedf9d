-- The outcome of an expression, and of a place, where these facts are known.
use Rattle.std.specs.Prelude.{List}
use Rattle.tp_value.specs.Tree.{Tree}
use Rattle.tp_value.specs.declared.path.Path.{Path}
use Rattle.tp_value.specs.declared.path.Fact.{Fact}
use Rattle.tp_kernel.specs.declared.fault.FaultKind.{FaultKind}
use Rattle.tp_kernel.specs.declared.fault.LimitKind.{LimitKind}
use Rattle.tp_meaning.specs.Syntax.{ExprTree, Definition, BindingTree}
use Rattle.tp_eval.specs.Reached.{Reached, reaches, stops, waits, faults, passes}
use Rattle.tp_eval.specs.Evaluate.{PlaceFound, at_path, inside, evaluate, find_place, value_at, depth_limit}

-- a value; the path whose shape it waits for; why it has no value; or the limit that it passes
pub data Outcome : Type 0 where
  value : Tree → Outcome
  wait : Path → Outcome
  fault : FaultKind → Outcome
  over : LimitKind → Outcome

abbrev pub outcome_reached : Reached Tree → Outcome
outcome_reached (reaches t calls) = value t
outcome_reached (stops (waits p)) = wait p
outcome_reached (stops (faults k)) = fault k
outcome_reached (stops (passes k)) = over k

-- the outcome of the whole expression, which is at the first of the levels
unfoldable pub outcome : List Fact → List Definition → ExprTree → List BindingTree → Outcome
outcome facts defs e env = outcome_reached (evaluate facts defs depth_limit e env 0)

-- a path, or else an outcome, which is a value where the name is bound to a known value that has
-- the element
pub data PlaceOutcome : Type 0 where
  path : Path → PlaceOutcome
  other : Outcome → PlaceOutcome

abbrev pub place_reached : List Fact → Reached PlaceFound → PlaceOutcome
place_reached facts (reaches (at_path p) calls) = path p
place_reached facts (reaches (inside t at) calls) =
    other (outcome_reached (value_at facts (inside t at) calls))
place_reached facts (stops (waits p)) = other (wait p)
place_reached facts (stops (faults k)) = other (fault k)
place_reached facts (stops (passes k)) = other (over k)

unfoldable pub place_outcome : List Fact → List Definition → ExprTree → List BindingTree
    → PlaceOutcome
place_outcome facts defs e env = place_reached facts (find_place facts defs depth_limit e env 0)
