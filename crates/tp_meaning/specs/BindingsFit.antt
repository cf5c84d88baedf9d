-- Which bindings fit the variables of a store.
use Rattle.std.specs.Prelude.{◌≤◌, Bool, List, [], ◌∷◌, length}
use Rattle.tp_meaning.specs.Syntax.{BindingTree, place_binding, known_binding}
use Rattle.tp_meaning.specs.Fits.{IsVariable}

-- the variable of each path is one of those of a store, and no path has more than 100 indices
abbrev pub BindingFits : (kinds : List Bool) → BindingTree → Type 0
BindingFits kinds (place_binding p) = IsVariable kinds p.var × (length p.at ≤ 100)
BindingFits kinds (known_binding t) = Unit {0}

abbrev pub BindingsFit : (kinds : List Bool) → List BindingTree → Type 0
BindingsFit kinds [] = Unit {0}
BindingsFit kinds (b ∷ bs) = BindingFits kinds b × BindingsFit kinds bs
