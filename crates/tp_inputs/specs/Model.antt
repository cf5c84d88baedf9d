-- The plain table that ports stand for.
use Rattle.std.specs.Prelude.{◌≡◌, ℕ, ◌≤◌, false, nat_le, List, map, Option, Some, None}
use Rattle.std.specs.Ordering.{nat_cmp}
use Rattle.std.specs.BTreeMap.{get}
use Rattle.std.specs.Option.{option_map}
use Rattle.tp_value.specs.declared.value.Value.{Value}
use Rattle.tp_value.specs.Tree.{Tree}
use Rattle.tp_value.specs.Read.{tree}
use Rattle.tp_meaning.specs.Inputs.{InputRow, InputPort, InputTable, row_value}
use Rattle.tp_inputs.specs.declared.ranges.Row.{Row}
use Rattle.tp_inputs.specs.declared.ranges.Ranges.{Ranges}
use Rattle.tp_inputs.specs.declared.ports.Port.{Port}
use Rattle.tp_inputs.specs.declared.ports.Ports.{Ports}
use Rattle.tp_inputs.specs.Spans.{rows_meet}
use Rattle.tp_inputs.specs.Places.{tree_at}

-- the row with its value, which is in the list
abbrev pub row_of : List Value → ℕ × Row → InputRow
row_of values e = record { first = e.0; last = e.1.last; value = tree_at values e.1.value }

abbrev pub rows_of : Ranges → List InputRow
rows_of r = map (row_of r.values.items) r.rows.entries

-- the last row that begins at the state or before it, with its first state, if there is one
abbrev pub IsLastBegun : Ranges → ℕ → Option (ℕ × Row) → Type 0
IsLastBegun r state None = (n : ℕ) → rows_meet (rows_of r) n state ≡ false
IsLastBegun r state (Some e) =
    (get nat_cmp r.rows e.0 ≡ Some e.1) × (e.0 ≤ state)
    × ((n : ℕ) → rows_meet (rows_of r) n state ≡ nat_le n e.1.last)

-- the row that has the state, with its first state, if there is one
abbrev pub FindsRow : Ranges → ℕ → Option (ℕ × Row) → Type 0
FindsRow r state None = row_value (rows_of r) state ≡ None
FindsRow r state (Some e) =
    (get nat_cmp r.rows e.0 ≡ Some e.1) × (e.0 ≤ state) × (state ≤ e.1.last)

abbrev pub default_of : Port → Option Tree
default_of p = option_map tree p.default

abbrev pub named_port : List ℕ → Port → InputPort
named_port name p = record { port = name; rows = rows_of p.ranges; default = default_of p }

abbrev pub table_of : Ports → InputTable
table_of t = map (λ e. named_port e.0.items e.1) t.by_name.entries
