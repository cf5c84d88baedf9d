-- A value that a state has for a port is within the limits, where the table is.
use Rattle.std.proofs.Common.{◌≡◌, ℕ, List, Some}
use Rattle.tp_value.specs.Tree.{Tree}
use Rattle.tp_value.specs.Room.{IsWithinListLimit}
use Rattle.tp_meaning.specs.Inputs.{InputTable, input_at}
use Rattle.tp_inputs.specs.Within.{InputsWithin}
use Rattle.tp_inputs.proofs.WithinLemmas.{input_has}

pub input_within : (inputs : InputTable) (state : ℕ) (port : List ℕ) (t : Tree) → InputsWithin inputs → input_at inputs state port ≡ Some t → IsWithinListLimit t
input_within = input_has IsWithinListLimit
