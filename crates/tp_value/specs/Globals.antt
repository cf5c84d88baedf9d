-- The variables of a list of names.
use Rattle.std.specs.Prelude.{ℕ, ◌&&◌, Bool, false, nat_le, List, [], ◌∷◌, ◌++◌, Option, None, Some}
use Rattle.std.specs.List.{position_from}
use Rattle.std.specs.Option.{option_map}
use Rattle.std.specs.Str.{bytes_eq}
use Rattle.tp_value.specs.declared.path.VarId.{VarId}

-- a name that begins with a lower-case letter
abbrev pub is_lower : List ℕ → Bool
is_lower [] = false
is_lower (c ∷ cs) = nat_le 97 c && nat_le c 122

-- the variable of this name, where the name has that place in the list
abbrev pub variable : List ℕ → ℕ → VarId
variable name i = record { number = i; lasting = is_lower name }

-- the variable of this name, if it is one of the list
abbrev pub variable_of : List (List ℕ) → List ℕ → Option VarId
variable_of names name = option_map (variable name) (position_from (bytes_eq name) 0 names)

-- the list with the name: as it is where the name is there, else with the name at its end
abbrev pub with_name : List (List ℕ) → List ℕ → List (List ℕ)
with_name names name = ending (variable_of names name)
  where
    ending : Option VarId → List (List ℕ)
    ending None = names ++ name ∷ []
    ending (Some x) = names
