-- The one form of a table; for which states a line speaks, and what it adds to a table.
use Rattle.std.specs.Prelude.{◌≡◌, ◌+◌, ◌==◌, Bool, true, not, ◌&&◌, ◌||◌, nat_le, nat_lt, List, [], ◌∷◌, length, map, is_some, ℕ, false, Option, Some, None, if◌then◌else◌, zero, suc, take, drop, slice_index, codes}
use Rattle.std.specs.List.Sorted.{IsStrictlySortedBy}
use Rattle.std.specs.Ordering.{nat_cmp}
use Rattle.std.specs.Cmp.Lexicographic.{slice_cmp}
use Rattle.tp_value.specs.Tree.{same_tree, Tree}
use Rattle.tp_meaning.specs.Inputs.{InputRow, InputPort, InputTable, port_of, range_value, default_value}
use Rattle.std.specs.Str.{bytes_eq}
use Rattle.tp_inputs.specs.declared.span.Span.{Span}
use Rattle.tp_inputs.specs.declared.span.Span.TheVariants.{States, Others}
use Rattle.std.specs.List.{position, prefix_len, list_all}
use Rattle.std.specs.Char.{is_ascii_digit}
use Rattle.tp_value.specs.Spelling.{is_value_blank, decimal_value}
use Rattle.tp_inputs.specs.declared.span.LineHead.{LineHead}
use Rattle.tp_inputs.specs.declared.span.LineHead.TheVariants.{Speaks, Silent, Unheard}

-- ---- tables in their one form: two tables that say the same are one table

-- the row ends before the next begins, and where it touches it, it has another value
abbrev pub is_ahead : InputRow → List InputRow → Bool
is_ahead r [] = true
is_ahead r (s ∷ rs) =
    nat_lt r.last s.first && not (r.last + 1 == s.first && same_tree r.value s.value)

-- rows in order and apart, as few as say what they say
abbrev pub are_rows : List InputRow → Bool
are_rows [] = true
are_rows (r ∷ rs) = nat_le r.first r.last && (is_ahead r rs && are_rows rs)

-- something is said of the port
abbrev pub is_told : InputPort → Bool
is_told p = nat_lt 0 (length p.rows) || is_some p.default

abbrev pub are_ports : InputTable → Bool
are_ports [] = true
are_ports (p ∷ ps) = are_rows p.rows && (is_told p && are_ports ps)

-- ports in the order of their names, each once
pub record IsCanonical (table : InputTable) : Type 0 where
  pub ordered : IsStrictlySortedBy (slice_cmp nat_cmp) (map (λ p. p.port) table)
  pub ports : are_ports table ≡ true

-- ---- what a line adds to a table

-- whether the state is one of a range
abbrev pub span_has : Span → ℕ → Bool
span_has (States a b) n = nat_le a n && nat_le n b
span_has Others n = false

-- whether it is for a default
abbrev pub is_others : Span → Bool
is_others (States a b) = false
is_others Others = true

-- whether a row has a state from a to b
abbrev pub rows_meet : List InputRow → ℕ → ℕ → Bool
rows_meet [] a b = false
rows_meet (r ∷ rs) a b = (nat_le r.first b && nat_le a r.last) || rows_meet rs a b

abbrev pub port_meets : Option InputPort → Span → Bool
port_meets None span = false
port_meets (Some p) (States a b) = rows_meet p.rows a b
port_meets (Some p) Others = is_some p.default

-- whether a range gives the port a value for one of these states, or whether it has a default
abbrev pub is_given : InputTable → Span → List ℕ → Bool
is_given table span port = port_meets (port_of table port) span

-- The second table says what the first says, and besides that the port has this value for the span.
pub record GivesValue (span : Span) (port : List ℕ) (value : Tree)
    (table more : InputTable) : Type 0 where
  pub canonical : IsCanonical more
  pub ranges : (n : ℕ) (q : List ℕ) → range_value more n q
      ≡ (if bytes_eq q port && span_has span n then Some value else range_value table n q)
  pub defaults : (q : List ℕ) → default_value more q
      ≡ (if bytes_eq q port && is_others span then Some value else default_value table q)

-- ---- what a line begins with: the states for which it speaks

-- The last state that a range may name.
abbrev pub last_state : ℕ
last_state = 99999999

-- the first line of a file of the second format
abbrev pub format_line : List ℕ
format_line = codes "inputs 2"

abbrev pub has_ranges : List (List ℕ) → Bool
has_ranges [] = false
has_ranges (line ∷ texts) = bytes_eq line format_line

-- one to eight digits
abbrev pub is_state : List ℕ → Bool
is_state z = nat_lt 0 (length z) && (nat_le (length z) 8 && list_all is_ascii_digit z)

-- the state that they name
unfoldable pub named_state : List ℕ → Option ℕ
named_state z = if is_state z then Some (decimal_value z) else None

-- from one state to another that isn't before it
abbrev pub between : Option ℕ → Option ℕ → Option Span
between None b = None
between (Some a) None = None
between (Some a) (Some b) = if nat_le a b then Some (States a b) else None

-- what stands behind the `-`: a state, or nothing, which is up to the last one
abbrev pub end_of : List ℕ → Option ℕ
end_of [] = Some last_state
end_of (b ∷ z) = named_state (b ∷ z)

-- one state, or two with `-` between them
abbrev pub cut_range : List ℕ → Option ℕ → Option Span
cut_range z None = between (named_state z) (named_state z)
cut_range z (Some i) = between (named_state (take i z)) (end_of (drop (i + 1) z))

-- `k`, `k-m`, `k-`, or `*`
unfoldable pub range_of : List ℕ → Option Span
range_of z = if bytes_eq z (codes "*") then Some Others else cut_range z (position (λ b. b == 45) z)

-- a digit, `-` or `*`
abbrev pub is_range_byte : ℕ → Bool
is_range_byte b = is_ascii_digit b || (b == 45 || b == 42)

abbrev pub range_head : Option Span → ℕ → LineHead
range_head None n = Unheard
range_head (Some span) n = Speaks span n

-- blanks, a range, blanks, and a colon
abbrev pub colon_head : List ℕ → (blanks : ℕ) → LineHead
colon_head line blanks =
    let rest = drop blanks line in
    let n = prefix_len is_range_byte rest in
    let after = drop n rest in
    let more = prefix_len is_value_blank after in
    if slice_index after more == 58 then range_head (range_of (take n rest)) (blanks + n + more + 1)
    else Unheard

-- a line of the second format: blank, or a range with a colon, and behind it pairs
unfoldable pub ranged_head : List ℕ → LineHead
ranged_head line =
    let blanks = prefix_len is_value_blank line in
    if blanks == length line then Silent else colon_head line blanks

-- The line with this number, from 0. In the first format it speaks for the state of that number; in
-- the second, the first line says nothing.
abbrev pub head_of : Bool → ℕ → List ℕ → LineHead
head_of false k line = Speaks (States k k) 0
head_of true zero line = Silent
head_of true (suc k) line = ranged_head line
