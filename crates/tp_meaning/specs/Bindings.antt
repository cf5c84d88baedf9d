-- What the bindings of a scene mean along a course.
use Rattle.std.specs.Prelude.{ℕ, List, [], ◌∷◌, if◌then◌else◌, nat_lt}
use Rattle.tp_value.specs.Tree.{Tree}
use Rattle.tp_value.specs.declared.path.VarId.{VarId}
use Rattle.tp_value.specs.Shape.{item_at}
use Rattle.tp_meaning.specs.Syntax.{BindingTree, place_binding, known_binding}
use Rattle.tp_meaning.specs.Course.{Course}
use Rattle.tp_meaning.specs.Value.{Meaning, fixed, varying, Env}

-- The values of the local variables by their numbers, which are those from the number of globals
-- on: one at each position.
abbrev pub Locals : Type 0
Locals = ℕ → ℕ → Tree

-- the value of a variable at a position, where there are so many globals
abbrev pub variable_at : (globals : ℕ) → Course → Locals → VarId → ℕ → Tree
variable_at globals s locals x j =
    if nat_lt x.number globals then (s j).values x.number else locals x.number j

-- a path means what is found there at each position, and a known value means itself
abbrev pub meaning_of : (globals : ℕ) → Course → Locals → BindingTree → Meaning
meaning_of globals s locals (place_binding p) =
    varying (λ j. item_at p.at (variable_at globals s locals p.var j))
meaning_of globals s locals (known_binding t) = fixed t

abbrev pub meanings_of : (globals : ℕ) → Course → Locals → List BindingTree → Env
meanings_of globals s locals [] = []
meanings_of globals s locals (b ∷ bs) =
    meaning_of globals s locals b ∷ meanings_of globals s locals bs
