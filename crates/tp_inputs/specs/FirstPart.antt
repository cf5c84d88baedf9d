-- What a line of inputs begins with, as a function of the line.
use Rattle.std.specs.Prelude.{◌≡◌, ℕ, ◌+◌, ◌==◌, Bool, true, false, ◌&&◌, if◌then◌else◌, nat_le, List, take, slice_index, Option, Some, None, is_none}
use Rattle.std.specs.List.{prefix_len}
use Rattle.std.specs.Char.{is_ascii_lowercase}
use Rattle.tp_value.specs.Tree.{Tree}
use Rattle.tp_value.specs.Spelling.{is_value_blank}
use Rattle.tp_value.specs.Reading.{Answer, found, refused, value_answer}
use Rattle.tp_lex.specs.Bytes.{is_name_byte, name_limit}
use Rattle.tp_lex.specs.Spelled.{spelled_word}
use Rattle.tp_meaning.specs.Inputs.{InputTable}
use Rattle.tp_inputs.specs.declared.span.Span.{Span}
use Rattle.tp_inputs.specs.Spans.{is_given}
use Rattle.tp_inputs.specs.declared.fault.LineFault.TheVariants as f
use Rattle.tp_inputs.specs.declared.fault.LineFault.{LineFault}
use Rattle.tp_inputs.specs.Table.{is_set_apart, BeginsPair, fault_of, BeginsFault}

-- a blank, a pair with the number of its bytes, or a fault
pub data InputPart : Type 0 where
  Blank : InputPart
  Given : List ℕ → Tree → ℕ → InputPart
  Faulty : LineFault → InputPart

-- the rest of a line, which is not empty and speaks for this span behind this table, begins with
-- this
abbrev pub BeginsPart : Span → InputTable → List ℕ → InputPart → Type 0
BeginsPart span table z Blank = is_value_blank (slice_index z 0) ≡ true
BeginsPart span table z (Given port t n) = BeginsPair span table z port t n
BeginsPart span table z (Faulty fault) = BeginsFault span table z fault

-- whether the first n bytes, all those of a name, are a port with `=` behind it
abbrev pub is_port : List ℕ → ℕ → Bool
is_port z n =
    is_ascii_lowercase (slice_index z 0)
    && (nat_le n name_limit && (is_none (spelled_word (take n z)) && slice_index z n == 61))

-- how many bytes the port has that comes first
unfoldable pub port_len : List ℕ → Option ℕ
port_len z = let n = prefix_len is_name_byte z in if is_port z n then Some n else None

-- the pair of the port, or a fault
abbrev pub value_part : List ℕ → List ℕ → Answer → InputPart
value_part z port (found t m) =
    if is_set_apart z m then Given port t m else Faulty f.Bad
value_part z port (refused e) = Faulty (fault_of e)

-- the part of a port that is given already, or that is new, where this is read behind it
abbrev pub asked_part : List ℕ → List ℕ → Answer → Bool → InputPart
asked_part z port answer true = Faulty f.Twice
asked_part z port answer false = value_part z port answer

-- the part of the port that has the first n bytes
abbrev pub port_part : List ℕ → ℕ → Bool → InputPart
port_part z n b = asked_part z (take n z) (value_answer z (n + 1)) b

abbrev pub pair_of_len : Span → InputTable → List ℕ → Option ℕ → InputPart
pair_of_len span table z None = Faulty f.Bad
pair_of_len span table z (Some n) = port_part z n (is_given table span (take n z))

-- what comes first that is no blank
unfoldable pub pair_part : Span → InputTable → List ℕ → InputPart
pair_part span table z = pair_of_len span table z (port_len z)

-- what comes first, in a line that speaks for this span behind this table
unfoldable pub first_part : Span → InputTable → List ℕ → InputPart
first_part span table z =
    if is_value_blank (slice_index z 0) then Blank else pair_part span table z
