-- Which definitions call which.
use Rattle.std.specs.Prelude.{◌≡◌, ◌↔◌, ◌⊎◌, ℕ, Bool, true, List, length, Some, slice_get, map}
use Rattle.std.specs.Global.{Global}
use Rattle.std.specs.List.{position, filter_map, Contains}
use Rattle.std.specs.Str.{bytes_eq}
use Rattle.std.specs.declared.vec.Vec.{Vec}
use Rattle.tp_tree.specs.Tree.{DefinitionTree}
use Rattle.tp_scope.specs.Scope.{Names}
use Rattle.tp_scope.specs.Phrases.{is_state_phrase}
use Rattle.tp_scope.specs.Names.{CallsDefinition}

-- whether each body says something of one state, whatever it calls
abbrev pub own_states : List DefinitionTree → List Bool
own_states ds = map (λ d. is_state_phrase (λ x. true) d.body) ds

-- the numbers that these have among the names, without those that aren't there
abbrev pub numbers_among : (names : Names) → Names → List ℕ
numbers_among names xs = filter_map (λ x. position (bytes_eq x) names) xs

-- the lists of which they are made
abbrev pub number_lists : List (Vec ℕ Global) → List (List ℕ)
number_lists vs = map (λ v. v.items) vs

-- the j-th of the lists has i
abbrev pub IsListed : List (List ℕ) → (j i : ℕ) → Type 0
IsListed lists j i = (is : List ℕ) × (slice_get lists j ≡ Some is) × Contains is i

-- a number comes into each of the lists with these numbers, and nothing else does
abbrev pub IsListedToo : (old : List (List ℕ)) → (numbers : List ℕ) → ℕ → (new : List (List ℕ))
    → Type 0
IsListedToo old numbers n new =
    (j i : ℕ) → IsListed new j i ↔ (IsListed old j i ⊎ (Contains numbers j × (i ≡ n)))

-- the j-th of the lists has the numbers of those definitions whose bodies call the j-th one
pub record AreCallers (ds : List DefinitionTree) (callers : List (List ℕ)) : Type 0 where
  pub each : length callers ≡ length ds
  pub right : (i j : ℕ) → IsListed callers j i ↔ CallsDefinition ds i j
