-- What a place that a parameter is bound to means, in every state that agrees with the facts.
use Rattle.std.specs.Prelude.{◌≡◌, ℕ, ◌≤◌, Bool, List, length, Option, None, Some}
use Rattle.tp_value.specs.Tree.{Tree}
use Rattle.tp_value.specs.declared.path.Path.{Path}
use Rattle.tp_value.specs.declared.path.Fact.{Fact}
use Rattle.tp_kernel.specs.declared.fault.FaultKind.{FaultKind}
use Rattle.tp_meaning.specs.Syntax.{ExprTree, Definition, BindingTree, place_binding}
use Rattle.tp_meaning.specs.Course.{Course}
use Rattle.tp_meaning.specs.Bindings.{Locals, meaning_of, meanings_of}
use Rattle.tp_meaning.specs.Value.{Meaning, fixed, place_by, calls_at}
use Rattle.tp_eval.specs.Evaluate.{depth_limit}
use Rattle.tp_eval.specs.Outcome as found
use Rattle.tp_eval.specs.Outcome.{place_outcome}
use Rattle.tp_eval.specs.Right.{HoldsInStates}

-- what a place means at a depth of calls, its indices read at a position
abbrev pub meant_place : List Definition → (depth : ℕ) → (kinds : List Bool) → Course → Locals
    → (position : ℕ) → ExprTree → List BindingTree → Option Meaning
meant_place defs d kinds s locals a e env =
    place_by defs (calls_at defs d) e (meanings_of (length kinds) s locals env) s a

-- Said of one course, with values of its locals, whose state at a position agrees with the facts.
module _ (facts : List Fact) (defs : List Definition) (kinds : List Bool) (s : Course)
    (locals : Locals) (a : ℕ) where
  pub record PlaceIsRight (e : ExprTree) (env : List BindingTree) : Type 0 where
    -- a path means what stands there at each position, at the greatest depth of evaluation and at
    -- each beyond
    pub paths : (p : Path) → place_outcome facts defs e env ≡ found.path p → (d : ℕ)
        → depth_limit ≤ d → meant_place defs d kinds s locals a e env
        ≡ Some (meaning_of (length kinds) s locals (place_binding p))
    -- a value that is found in a known one is fixed
    pub from_values : (t : Tree) → place_outcome facts defs e env ≡ found.other (found.value t)
        → (d : ℕ) → depth_limit ≤ d → meant_place defs d kinds s locals a e env ≡ Some (fixed t)
    -- a place with a fault means nothing at any depth
    pub from_faults : (k : FaultKind) → place_outcome facts defs e env ≡ found.other (found.fault k)
        → (d : ℕ) → meant_place defs d kinds s locals a e env ≡ None

abbrev pub PlacesMean : Type 0
PlacesMean = HoldsInStates PlaceIsRight
