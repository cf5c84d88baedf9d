-- The rows of the table of a text end in time.
use Rattle.std.proofs.Common.{ℕ, ◌+◌, ◌≤◌, nat_le, List, [], ◌∷◌, arith}
use Rattle.std.specs.List.{AllByRecursion}
use Rattle.std.specs.Str.Lines.{lines}
use Rattle.std.proofs.lemmas.Bool.{leb-true, and_parts}
use Rattle.tp_value.specs.Tree.{Tree}
use Rattle.tp_meaning.specs.Inputs.{InputRow, InputTable}
use Rattle.tp_inputs.specs.declared.span.Span.{Span}
use Rattle.tp_inputs.specs.declared.span.Span.TheVariants.{States, Others}
use Rattle.tp_inputs.specs.Spans.{last_state, has_ranges}
use Rattle.tp_inputs.specs.Table.{BeginsPair}
use Rattle.tp_inputs.specs.Converted.{EndsWithin}
use Rattle.tp_inputs.specs.Laws.{TablesEndWithin}
use Rattle.tp_inputs.proofs.CanonicalLemmas.{none_canonical}
use Rattle.tp_inputs.proofs.ConvertedFacts.{Has, May, lines_have, ports_have, RowsHave, DefaultHas}
use Rattle.tp_inputs.proofs.ConvertedEnds.{EndsInTime, head_ends, few_lines}

abbrev InTime : List ℕ → ℕ → Tree → Type 0
InTime port n value = n ≤ last_state

abbrev AnyDefault : List ℕ → Tree → Type 0
AnyDefault port value = Unit {0}

in_time : (span : Span) (table : InputTable) (z port : List ℕ) (value : Tree) (n : ℕ) → EndsInTime span → BeginsPair span table z port value n → May InTime AnyDefault span port value
in_time (States a b) table z port value n known is = record { range = λ k e. let low = leb-true k b (and_parts (nat_le a k) (nat_le k b) e).1 in omega (arith, low, known); default = λ e. tt }
in_time Others table z port value n known is = record { range = λ k e. absurd cc; default = λ e. tt }

rows_end : (port : List ℕ) (rs : List InputRow) → RowsHave InTime AnyDefault port rs → AllByRecursion (λ r. r.last ≤ last_state) rs
rows_end port [] h = tt
rows_end port (r ∷ rs) h = (h.0.1, rows_end port rs h.1)

ports_end : (table : InputTable) → AllByRecursion (λ p. RowsHave InTime AnyDefault p.port p.rows × DefaultHas InTime AnyDefault p.port p.default) table → EndsWithin table
ports_end [] h = tt
ports_end (p ∷ ps) h = (rows_end p.port p.rows h.0.0, ports_end ps h.1)

pub tables_end_within : TablesEndWithin
tables_end_within bytes table short is =
    let none : Has InTime AnyDefault [] = record { canonical = none_canonical; ranges = λ n q v e. absurd cc; defaults = λ q v e. absurd cc } in
    let few = few_lines bytes in
    let has = lines_have InTime AnyDefault EndsInTime in_time (has_ranges (lines bytes)) (last_state + 1) (λ k line low. head_ends (has_ranges (lines bytes)) k line (omega (arith, low))) 0 (lines bytes) [] table (omega (arith, few, short)) is none in
    ports_end table (ports_have InTime AnyDefault table has)
