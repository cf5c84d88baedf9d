-- Which bytes are a table of inputs, and why others are none.
use Rattle.std.specs.Prelude.{◌≡◌, ℕ, ◌+◌, ◌≤◌, ◌==◌, Bool, true, false, ◌||◌, List, length, take, slice_index, [], drop, ◌≢◌, ◌∷◌, ◌++◌}
use Rattle.std.specs.List.{prefix_len}
use Rattle.std.specs.Char.{is_ascii_lowercase}
use Rattle.tp_value.specs.Tree.{Tree}
use Rattle.tp_value.specs.Spelling.{is_value_blank, IsRead}
use Rattle.tp_lex.specs.Bytes.{is_name_byte, name_limit}
use Rattle.tp_lex.specs.Pieces.{IsNoWord}
use Rattle.tp_meaning.specs.Inputs.{InputTable}
use Rattle.tp_inputs.specs.declared.span.Span.{Span}
use Rattle.tp_inputs.specs.Spans.{is_given, GivesValue, has_ranges, head_of}
use Rattle.tp_inputs.specs.declared.span.LineHead.{LineHead}
use Rattle.tp_inputs.specs.declared.span.LineHead.TheVariants.{Speaks, Silent, Unheard}
use Rattle.tp_value.specs.declared.reading.ReadValue.{ReadValue}
use Rattle.tp_value.specs.declared.reading.ReadValue.TheVariants.{NoValue, TooLarge, TooLong, TooDeep, NoMemory}
use Rattle.tp_value.specs.Reading.{refused, value_answer}
use Rattle.tp_inputs.specs.declared.fault.LineFault.{LineFault}
use Rattle.tp_inputs.specs.declared.fault.LineFault.TheVariants as f
use Rattle.std.specs.Str.Lines.{lines}

-- ---- what a line begins with where it is read: a blank or a pair

-- A port of n bytes, and `=` behind it: a lower-case letter, and as many letters, digits and `_` as
-- follow, within the limit on names. It is no word.
pub record BeginsPort (z : List ℕ) (n : ℕ) : Type 0 where
  pub lower : is_ascii_lowercase (slice_index z 0) ≡ true
  pub longest : n ≡ prefix_len is_name_byte z
  pub short : n ≤ name_limit
  pub no_word : IsNoWord (take n z)
  pub equals : slice_index z n ≡ 61

-- the port has no value so far for any of the span's states
abbrev pub IsNewPort : Span → InputTable → List ℕ → Type 0
IsNewPort span table port = is_given table span port ≡ false

-- behind n bytes comes a blank, or nothing
abbrev pub is_set_apart : List ℕ → ℕ → Bool
is_set_apart z n = n == length z || is_value_blank (slice_index z n)

-- a pair of m bytes comes first: a port that has no value in this table for the span, and a value
pub data BeginsPair (span : Span) (table : InputTable) (z : List ℕ) : List ℕ → Tree → ℕ → Type 0
  where
    pair : {n m : ℕ} {t : Tree} → BeginsPort z n → IsNewPort span table (take n z)
        → IsRead z (n + 1) t m → is_set_apart z m ≡ true → BeginsPair span table z (take n z) t m

-- ---- what a line says, read from the front

-- a blank or a pair of n bytes comes first, and with it the table becomes this one
pub data PassesPart (span : Span) (z : List ℕ) (table : InputTable) : InputTable → ℕ → Type 0
  where
    blank : is_value_blank (slice_index z 0) ≡ true → PassesPart span z table table 1
    given : {port : List ℕ} {value : Tree} {n : ℕ} {more : InputTable}
        → BeginsPair span table z port value n → GivesValue span port value table more
        → PassesPart span z table more n

-- From the first table on, the line is read up to a rest, where the table has become the second.
pub data ReadsPairs (span : Span) : List ℕ → InputTable → List ℕ → InputTable → Type 0 where
  here : {z : List ℕ} {table : InputTable} → ReadsPairs span z table z table
  passes : {z rest : List ℕ} {n : ℕ} {table more all : InputTable}
      → PassesPart span z table more n → ReadsPairs span (drop n z) more rest all
      → ReadsPairs span z table rest all

-- with what the line says, the first table becomes the second
abbrev pub IsLine : LineHead → List ℕ → InputTable → InputTable → Type 0
IsLine (Speaks span n) line table more = ReadsPairs span (drop n line) table [] more
IsLine Silent line table more = more ≡ table
IsLine Unheard line table more = ⊥

-- ---- the first fault of a line

-- the port has a value already for one of the span's states
abbrev pub IsGivenPort : Span → InputTable → List ℕ → Type 0
IsGivenPort span table port = is_given table span port ≡ true

-- what a value that is refused makes of its line; `NoMemory` is never the answer to bytes
abbrev pub fault_of : ReadValue → LineFault
fault_of (NoValue at) = f.Bad
fault_of (TooLarge at) = f.Bad
fault_of (TooLong at) = f.TooLong
fault_of (TooDeep at) = f.TooLong
fault_of NoMemory = f.Bad

-- the rest of a line, which speaks for this span behind this table, begins with a fault
pub data BeginsFault (span : Span) (table : InputTable) (z : List ℕ) : LineFault → Type 0 where
  no_port : z ≢ [] → is_value_blank (slice_index z 0) ≡ false → ((n : ℕ) → ¬ BeginsPort z n)
      → BeginsFault span table z f.Bad
  twice : {n : ℕ} → BeginsPort z n → IsGivenPort span table (take n z)
      → BeginsFault span table z f.Twice
  no_value : {n : ℕ} {e : ReadValue} → BeginsPort z n → IsNewPort span table (take n z)
      → value_answer z (n + 1) ≡ refused e → BeginsFault span table z (fault_of e)
  not_apart : {n m : ℕ} {t : Tree} → BeginsPort z n → IsNewPort span table (take n z)
      → IsRead z (n + 1) t m → is_set_apart z m ≡ false → BeginsFault span table z f.Bad

-- the pairs are read up to this fault
pub record StopsAt (span : Span) (z : List ℕ) (table : InputTable) (fault : LineFault)
    : Type 0 where
  pub rest : List ℕ
  pub more : InputTable
  pub reads : ReadsPairs span z table rest more
  pub faulty : BeginsFault span more rest fault

-- the line, behind this table, is read up to this fault
abbrev pub HasFault : LineHead → List ℕ → InputTable → LineFault → Type 0
HasFault (Speaks span n) line table fault = StopsAt span (drop n line) table fault
HasFault Silent line table fault = ⊥
HasFault Unheard line table fault = fault ≡ f.Bad

-- ---- the whole text

-- With the lines, of which the first has this number, the first table becomes the second.
abbrev pub AreLines : (second : Bool) → ℕ → List (List ℕ) → InputTable → InputTable → Type 0
AreLines second k [] table all = all ≡ table
AreLines second k (line ∷ texts) table all =
    (more : InputTable) × IsLine (head_of second k line) line table more
    × AreLines second (k + 1) texts more all

-- The bytes are the table, which is in its one form. A line ends with a line feed, or with a
-- carriage return and a line feed, which the last may lack. Where the first line is `inputs 2`, the
-- others say for which states they speak; else each speaks for the state of its number, from 0.
abbrev pub IsInputsText : List ℕ → InputTable → Type 0
IsInputsText bytes table = AreLines (has_ranges (lines bytes)) 0 (lines bytes) [] table

-- of the lines, that with this number, from 1, has this as its first fault, and those before it
-- have none
pub record IsFirstFault (texts : List (List ℕ)) (number : ℕ) (fault : LineFault) : Type 0 where
  pub before : List (List ℕ)
  pub line : List ℕ
  pub after : List (List ℕ)
  pub split : texts ≡ before ++ line ∷ after
  pub numbered : number ≡ length before + 1
  pub table : InputTable
  pub good : AreLines (has_ranges texts) 0 before [] table
  pub faulty : HasFault (head_of (has_ranges texts) (length before) line) line table fault
