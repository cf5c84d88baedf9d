-- Inputs that are within the limits on items and depth.
use Rattle.std.specs.Prelude.{true, List, [], ◌∷◌, Option, Some, None}
use Rattle.std.specs.Coded.{Coded-set, coded_bool, ×_prop, Unit-prop}
use Rattle.tp_value.specs.Tree.{Tree}
use Rattle.tp_value.specs.Limits.{is_within_list_limit}
use Rattle.tp_value.specs.Room.{IsWithinListLimit}
use Rattle.tp_meaning.specs.Inputs.{InputRow, InputPort, InputTable}

-- the property holds of each value of the rows
abbrev pub RowValuesHave : (Tree → Type 0) → List InputRow → Type 0
RowValuesHave P [] = Unit {0}
RowValuesHave P (r ∷ rs) = P r.value × RowValuesHave P rs

abbrev pub DefaultValueHas : (Tree → Type 0) → Option Tree → Type 0
DefaultValueHas P None = Unit {0}
DefaultValueHas P (Some t) = P t

-- of each value of the port
abbrev pub PortValuesHave : (Tree → Type 0) → InputPort → Type 0
PortValuesHave P p = RowValuesHave P p.rows × DefaultValueHas P p.default

-- and of each value of the table
abbrev pub ValuesHave : (Tree → Type 0) → InputTable → Type 0
ValuesHave P [] = Unit {0}
ValuesHave P (p ∷ ps) = PortValuesHave P p × ValuesHave P ps

-- each value is within the limits, as those of an inputs file are
abbrev pub InputsWithin : InputTable → Type 0
InputsWithin table = ValuesHave IsWithinListLimit table

-- each of these facts has one proof at the most
value_prop : (t : Tree) → IsProp (IsWithinListLimit t)
value_prop t = Coded-set coded_bool (is_within_list_limit t) true

rows_prop : (rs : List InputRow) → IsProp (RowValuesHave IsWithinListLimit rs)
rows_prop [] = Unit-prop
rows_prop (r ∷ rs) = ×_prop (value_prop r.value) (rows_prop rs)

default_prop : (d : Option Tree) → IsProp (DefaultValueHas IsWithinListLimit d)
default_prop None = Unit-prop
default_prop (Some t) = value_prop t

pub InputsWithin-prop : (ps : InputTable) → IsProp (InputsWithin ps)
InputsWithin-prop [] = Unit-prop
InputsWithin-prop (p ∷ ps) =
    ×_prop (×_prop (rows_prop p.rows) (default_prop p.default)) (InputsWithin-prop ps)
