-- How a table of inputs is written.
use Rattle.std.specs.Prelude.{ℕ, ◌==◌, ◌≤◌, List, [], ◌∷◌, ◌++◌, Option, Some, None, codes, if◌then◌else◌, map}
use Rattle.std.specs.List.{flat_map, AllByRecursion}
use Rattle.std.specs.Fmt.{decimal}
use Rattle.tp_value.specs.Tree.{Tree}
use Rattle.tp_value.specs.Written.{text_of}
use Rattle.tp_meaning.specs.Inputs.{InputRow, InputPort, InputTable}
use Rattle.tp_inputs.specs.Spans.{last_state, format_line}

-- one state, or the first and the last with `-` between them; the last state that a range may name
-- is left out
abbrev pub range_text : ℕ → ℕ → List ℕ
range_text first last =
    if last == first then decimal first
    else (if last == last_state then decimal first ++ codes "-"
    else decimal first ++ (codes "-" ++ decimal last))

-- what follows the states in a line
abbrev pub valued_text : List ℕ → Tree → List ℕ
valued_text port value = codes ": " ++ (port ++ (codes "=" ++ text_of value))

abbrev pub row_line : List ℕ → InputRow → List ℕ
row_line port r = range_text r.first r.last ++ valued_text port r.value

-- a line for each row of the port
abbrev pub row_lines : InputPort → List (List ℕ)
row_lines p = map (row_line p.port) p.rows

abbrev pub default_line : List ℕ → Tree → List ℕ
default_line port value = codes "*" ++ valued_text port value

-- a line for its default, if it has one
abbrev pub default_lines : InputPort → List (List ℕ)
default_lines p = of_default p.default
  where
    of_default : Option Tree → List (List ℕ)
    of_default None = []
    of_default (Some value) = default_line p.port value ∷ []

-- `inputs 2`, the rows of each port, and then the defaults
abbrev pub converted_lines : InputTable → List (List ℕ)
converted_lines table = format_line ∷ (flat_map row_lines table ++ flat_map default_lines table)

-- with its line feed
abbrev pub with_feed : List ℕ → List ℕ
with_feed line = line ++ codes "\n"

-- the table in the second format, each line with a line feed
abbrev pub converted : InputTable → List ℕ
converted table = flat_map with_feed (converted_lines table)

-- the rows end at the last state that a range may name, or before it
abbrev pub EndsWithin : InputTable → Type 0
EndsWithin table = AllByRecursion (λ p. AllByRecursion (λ r. r.last ≤ last_state) p.rows) table
