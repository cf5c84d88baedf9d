-- Bytes are one table of inputs, or have one first fault.
use Rattle.std.specs.Prelude.{◌≡◌, ◌≢◌, ℕ, ◌≤◌, ◌⊎◌, List, length}
use Rattle.std.specs.Str.Lines.{lines}
use Rattle.tp_value.specs.declared.reading.ReadValue.{ReadValue}
use Rattle.tp_value.specs.declared.reading.ReadValue.TheVariants.{NoMemory}
use Rattle.tp_value.specs.Reading.{refused, value_answer}
use Rattle.tp_value.specs.Answers.{IsReadRefused}
use Rattle.tp_meaning.specs.Inputs.{InputTable}
use Rattle.tp_inputs.specs.declared.fault.LineFault.{LineFault}
use Rattle.tp_inputs.specs.Spans.{last_state}
use Rattle.tp_inputs.specs.Converted.{EndsWithin, converted}
use Rattle.tp_inputs.specs.Table.{IsInputsText, IsFirstFault}
use Rattle.tp_inputs.specs.Within.{InputsWithin}

-- the bytes are a table, or have a first fault
abbrev pub EachTextIsJudged : Type 0
EachTextIsJudged =
    (bytes : List ℕ) → ((table : InputTable) × IsInputsText bytes table)
    ⊎ ((line : ℕ) × (fault : LineFault) × IsFirstFault (lines bytes) line fault)

abbrev pub OneTable : Type 0
OneTable = (bytes : List ℕ) (t u : InputTable) → IsInputsText bytes t → IsInputsText bytes u → t ≡ u

abbrev pub OneFirstFault : Type 0
OneFirstFault =
    (bytes : List ℕ) (m n : ℕ) (e f : LineFault) → IsFirstFault (lines bytes) m e
    → IsFirstFault (lines bytes) n f → (m ≡ n) × (e ≡ f)

-- bytes with a fault are no table
abbrev pub NoFaultyTable : Type 0
NoFaultyTable =
    (bytes : List ℕ) (t : InputTable) (n : ℕ) (f : LineFault) → IsInputsText bytes t
    → ¬ IsFirstFault (lines bytes) n f

-- a value that is refused is refused for its first cause
abbrev pub RefusedValuesHaveTheirCause : Type 0
RefusedValuesHaveTheirCause =
    (bytes : List ℕ) (from : ℕ) (e : ReadValue) → from ≤ length bytes
    → value_answer bytes from ≡ refused e → (e ≢ NoMemory) × IsReadRefused bytes from e

-- the values of a table that is a text's are within the limits on items and depth
abbrev pub TablesAreWithin : Type 0
TablesAreWithin =
    (bytes : List ℕ) (table : InputTable) → IsInputsText bytes table → InputsWithin table

-- the bytes are a text of this table, if the table is that of some text, and its rows end at the
-- last state that a range may name, or before it
abbrev pub IsReadAsTable : List ℕ → InputTable → Type 0
IsReadAsTable appended table =
    (bytes : List ℕ) → IsInputsText bytes table → EndsWithin table → IsInputsText appended table

-- what is written of the table of a text is read as that table, where its rows end in time
abbrev pub ConvertedIsTheTable : Type 0
ConvertedIsTheTable =
    (bytes : List ℕ) (table : InputTable) → IsInputsText bytes table → EndsWithin table
    → IsInputsText (converted table) table

-- and they do, where the text has no more bytes than that
abbrev pub TablesEndWithin : Type 0
TablesEndWithin =
    (bytes : List ℕ) (table : InputTable) → length bytes ≤ last_state → IsInputsText bytes table
    → EndsWithin table
