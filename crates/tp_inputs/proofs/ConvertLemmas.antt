-- The lines of a table are those of its first port and those of the others; those of a port, that of its first row and the others.
use Rattle.std.proofs.Common.{ap, sym, subst, ◌∙◌, ◌≡◌, ℕ, List, ◌∷◌, ◌++◌, length, drop, map, codes, Result, Ok, Err}
use Rattle.std.specs.Prelude.{OnOk}
use Rattle.std.specs.List.{flat_map}
use Rattle.std.proofs.lemmas.Grind.{flat_map-append}
use Rattle.std.proofs.lemmas.List.Folds.{flat_map-map}
use Rattle.std.proofs.Math.Seq.{drop-append_seam}
use mathlib.Core.List.{append_assoc}
use Rattle.tp_value.specs.declared.value.Value.{Value}
use Rattle.tp_value.specs.declared.refusal.NoMemory.{NoMemory}
use Rattle.tp_value.specs.Tree.{Tree}
use Rattle.tp_meaning.specs.Inputs.{InputPort, InputTable}
use Rattle.tp_inputs.specs.declared.ranges.Row.{Row}
use Rattle.tp_inputs.specs.Converted.{range_text, valued_text, row_line, row_lines, default_lines, with_feed, converted}
use Rattle.tp_inputs.specs.Laws.{IsReadAsTable}
use Rattle.tp_inputs.specs.Model.{row_of}
use Rattle.tp_inputs.specs.Places.{tree_at}
use Rattle.tp_inputs.specs.Table.{IsInputsText}
use Rattle.tp_inputs.proofs.EntryLemmas.{Entries}
use Rattle.tp_inputs.proofs.ConvertedReads.{converted_is_table}

pub rows_more : (out new all : List ℕ) (p : InputPort) (ps : InputTable) → out ++ flat_map with_feed (flat_map row_lines (p ∷ ps)) ≡ all → new ≡ out ++ flat_map (λ r. with_feed (row_line p.port r)) p.rows
    → new ++ flat_map with_feed (flat_map row_lines ps) ≡ all
rows_more out new all p ps so_far is =
    ap (λ z. z ++ flat_map with_feed (flat_map row_lines ps)) (is ∙ ap (λ z. out ++ z) (sym (flat_map-map with_feed (row_line p.port) p.rows)))
    ∙ append_assoc out (flat_map with_feed (row_lines p)) (flat_map with_feed (flat_map row_lines ps))
    ∙ ap (λ z. out ++ z) (sym (flat_map-append with_feed (row_lines p) (flat_map row_lines ps)))
    ∙ so_far

pub lines_more : (vs : List Value) (port out new all : List ℕ) (first : ℕ) (row : Row) (es : Entries) (v : Tree) (a b : ℕ) → a ≡ first → b ≡ row.last → tree_at vs row.value ≡ v
    → out ++ flat_map (λ r. with_feed (row_line port r)) (map (row_of vs) ((first, row) ∷ es)) ≡ all → new ≡ out ++ with_feed (range_text a b ++ valued_text port v)
    → new ++ flat_map (λ r. with_feed (row_line port r)) (map (row_of vs) es) ≡ all
lines_more vs port out new all first row es v a b begin end value so_far is =
    ap (λ z. z ++ rest) (is ∙ ap (λ z. out ++ with_feed z) line)
    ∙ append_assoc out (with_feed (row_line port (row_of vs (first, row)))) rest
    ∙ so_far
  where
    rest : List ℕ
    rest = flat_map (λ r. with_feed (row_line port r)) (map (row_of vs) es)

    line : range_text a b ++ valued_text port v ≡ row_line port (row_of vs (first, row))
    line = ap (λ n. range_text n b ++ valued_text port v) begin ∙ ap (λ n. range_text first n ++ valued_text port v) end ∙ ap (λ t. range_text first row.last ++ valued_text port t) (sym value)

-- ---- the whole text

whole : (old one two new : List ℕ) (table : InputTable) → one ≡ old ++ codes "inputs 2\n" → two ≡ one ++ flat_map with_feed (flat_map row_lines table) → new ≡ two ++ flat_map with_feed (flat_map default_lines table)
    → new ≡ old ++ converted table
whole old one two new table first rows defaults =
    defaults
    ∙ ap (λ z. z ++ b) (rows ∙ ap (λ z. z ++ a) first)
    ∙ append_assoc (old ++ codes "inputs 2\n") a b
    ∙ append_assoc old (codes "inputs 2\n") (a ++ b)
    ∙ ap (λ z. old ++ (codes "inputs 2\n" ++ z)) (sym (flat_map-append with_feed (flat_map row_lines table) (flat_map default_lines table)))
  where
    a : List ℕ
    a = flat_map with_feed (flat_map row_lines table)

    b : List ℕ
    b = flat_map with_feed (flat_map default_lines table)

pub read_back : (r : Result (Unit {0}) NoMemory) (old one two new : List ℕ) (table : InputTable) → one ≡ old ++ codes "inputs 2\n" → two ≡ one ++ flat_map with_feed (flat_map row_lines table)
    → OnOk r (new ≡ two ++ flat_map with_feed (flat_map default_lines table)) → OnOk r (IsReadAsTable (drop (length old) new) table)
read_back (Err e) old one two new table first rows defaults = tt
read_back (Ok u) old one two new table first rows defaults = λ bytes is ends. subst (λ z. IsInputsText z table) (sym text) (converted_is_table bytes table is ends)
  where
    text : drop (length old) new ≡ converted table
    text = ap (drop (length old)) (whole old one two new table first rows defaults) ∙ drop-append_seam old (converted table)
