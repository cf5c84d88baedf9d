-- Values that variables have as a whole, by the numbers of the variables, and their facts.
use Rattle.std.specs.Prelude.{◌≡◌, ◌≢◌, ℕ, Bool, true, nat_eq, List, [], ◌∷◌, ◌++◌, Option, Some, None, if◌then◌else◌}
use Rattle.std.specs.Map.{lookup}
use Rattle.std.specs.declared.rc.Rc.{Rc}
use Rattle.std.specs.declared.alloc.Global.{Global}
use Rattle.tp_value.specs.Tree.{Tree, same_truth}
use Rattle.tp_value.specs.Limits.{is_within_list_limit}
use Rattle.tp_value.specs.Shape.{item_at}
use Rattle.tp_value.specs.declared.value.Value.{Value}
use Rattle.tp_value.specs.Read.{tree}
use Rattle.tp_value.specs.declared.path.VarId.{VarId}
use Rattle.tp_value.specs.declared.path.Fact.{Fact}
use Rattle.tp_store.specs.Facts.{facts_at}
use Rattle.tp_store.specs.Known.{Full, absent, limited, known}
use Rattle.tp_store.specs.Nodes.{path_along}

-- the facts of the whole value of a variable
abbrev pub facts_of_value : VarId → Tree → List Fact
facts_of_value x t = facts_at (path_along x []) t

-- the facts of these values, of variables of this kind
abbrev pub whole_facts : (lasting : Bool) → List (ℕ × Rc Value Global) → List Fact
whole_facts b [] = []
whole_facts b (e ∷ es) =
    facts_of_value (record { number = e.0; lasting = b }) (tree e.1.value) ++ whole_facts b es

-- the value of the variable, where it has one of these as a whole
abbrev pub whole_value : (lasting : Bool) → List (ℕ × Rc Value Global) → VarId
    → Option (Rc Value Global)
whole_value b es x = if same_truth x.lasting b then lookup (nat_eq x.number) es else None

-- no fact is of the variable with this number
abbrev pub AreOfOthers : ℕ → List Fact → Type 0
AreOfOthers n [] = Unit {0}
AreOfOthers n (f ∷ fs) = (f.path.var.number ≢ n) × AreOfOthers n fs

-- no variable has two of these values
abbrev pub AreOfDifferent : List (ℕ × Rc Value Global) → Type 0
AreOfDifferent [] = Unit {0}
AreOfDifferent (e ∷ es) = (lookup (nat_eq e.0) es ≡ None) × AreOfDifferent es

-- Each variable has one of these values at most, which may be read, and no other fact.
pub record AreWholes (es : List (ℕ × Rc Value Global)) (others : List Fact) : Type 0 where
  pub different : AreOfDifferent es
  pub apart : (n : ℕ) (v : Rc Value Global) → lookup (nat_eq n) es ≡ Some v
      → AreOfOthers n others
  pub limit : (n : ℕ) (v : Rc Value Global) → lookup (nat_eq n) es ≡ Some v
      → is_within_list_limit (tree v.value) ≡ true

-- what is known of what stands at these indices of a whole value
abbrev pub full_if_some : Option Tree → Full
full_if_some None = absent
full_if_some (Some t) = limited (known t)

abbrev pub full_inside : Tree → List ℕ → Full
full_inside t at = full_if_some (item_at at t)
