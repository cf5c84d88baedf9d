-- The table of inputs.
use Rattle.std.specs.Prelude.{ℕ, List, [], ◌∷◌, Bool, ◌&&◌, nat_le, Option, Some, None, if◌then◌else◌}
use Rattle.std.specs.Str.{bytes_eq}
use Rattle.std.specs.Option.{option_and_then, option_or}
use Rattle.tp_value.specs.Tree.{Tree}

-- a value that a port has from one state to another, both included
pub record InputRow : Type 0 where
  pub first : ℕ
  pub last : ℕ
  pub value : Tree

-- a port's name, its values in ranges of states, and the one that it has in each other state, if any
pub record InputPort : Type 0 where
  pub port : List ℕ
  pub rows : List InputRow
  pub default : Option Tree

-- what is said of each port; no inputs are no port
abbrev pub InputTable : Type 0
InputTable = List InputPort

abbrev pub has_state : InputRow → ℕ → Bool
has_state r n = nat_le r.first n && nat_le n r.last

-- the value of the first row that has the state
abbrev pub row_value : List InputRow → ℕ → Option Tree
row_value [] n = None
row_value (r ∷ rs) n = if has_state r n then Some r.value else row_value rs n

abbrev pub port_of : InputTable → List ℕ → Option InputPort
port_of [] port = None
port_of (p ∷ ps) port = if bytes_eq port p.port then Some p else port_of ps port

-- the value that a range gives the port in a state
abbrev pub range_value : InputTable → ℕ → List ℕ → Option Tree
range_value table n port = option_and_then (λ p. row_value p.rows n) (port_of table port)

-- the value that the port has where no range gives one
abbrev pub default_value : InputTable → List ℕ → Option Tree
default_value table port = option_and_then (λ p. p.default) (port_of table port)

-- the value that a state of that number has for the port
abbrev pub input_at : InputTable → ℕ → List ℕ → Option Tree
input_at table number port = option_or (range_value table number port) (default_value table port)
