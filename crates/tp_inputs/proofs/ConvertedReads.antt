-- The lines that are written of a table are read as it: first the rows, port by port, and then the defaults.
use Rattle.std.proofs.Common.{refl, ap, sym, subst, ◌∙◌, ◌≡◌, ℕ, suc, ◌+◌, ◌≤◌, true, List, [], ◌∷◌, ◌++◌, length, map, Option, Some, None, arith, append_assoc}
use Rattle.std.specs.List.{flat_map, AllByRecursion}
use Rattle.std.specs.List.Sorted.{IsStrictlySortedBy}
use Rattle.std.specs.Str.Lines.{lines}
use Rattle.std.proofs.lemmas.List.{append-nil}
use Rattle.tp_value.specs.Tree.{Tree}
use Rattle.tp_value.specs.Limits.{IsWithinLimits}
use Rattle.tp_meaning.specs.Inputs.{InputRow, InputPort, InputTable}
use Rattle.tp_inputs.specs.declared.span.Span.{Span}
use Rattle.tp_inputs.specs.declared.span.Span.TheVariants.{States, Others}
use Rattle.tp_inputs.specs.declared.span.LineHead.{LineHead}
use Rattle.tp_inputs.specs.declared.span.LineHead.TheVariants.{Speaks, Silent, Unheard}
use Rattle.tp_inputs.specs.Spans.{are_rows, are_ports, IsCanonical, last_state, has_ranges, head_of, ranged_head}
use Rattle.tp_inputs.specs.Table.{BeginsPair, pair, IsLine, AreLines, IsInputsText}
use Rattle.tp_inputs.specs.Converted.{range_text, row_line, row_lines, default_lines, converted_lines, converted, EndsWithin}
use Rattle.tp_inputs.specs.Laws.{ConvertedIsTheTable}
use Rattle.tp_inputs.proofs.CanonicalLemmas.{none_canonical, rows_parts, ports_parts, names, cmp, input_port}
use Rattle.tp_inputs.proofs.ConvertedHeads.{AllPass, is_plain, range_named, others_named, lines_made}
use Rattle.tp_inputs.proofs.ConvertedLine.{IsPortName, port_named, line_made, line_plain}
use Rattle.tp_inputs.proofs.ConvertedTables.{told, IsOrdered, HaveRows, all_told, rows_begin, still_ordered, rows_middle, row_given, row_is_new, default_given, default_is_new}
use Rattle.tp_inputs.proofs.HeadLemmas.{HeadHas}
use Rattle.tp_inputs.proofs.ConvertedFacts.{Has, May, lines_have, ports_have, RowsHave, DefaultHas}

-- ---- lines behind one another

-- with these lines of the second format, the first table becomes the second
abbrev Reads : List (List ℕ) → InputTable → InputTable → Type 0
Reads [] t u = u ≡ t
Reads (line ∷ texts) t u = (more : InputTable) × IsLine (ranged_head line) line t more × Reads texts more u

reads_on : (xs ys : List (List ℕ)) (t u w : InputTable) → Reads xs t u → Reads ys u w → Reads (xs ++ ys) t w
reads_on [] ys t u w e r = subst (λ (x : InputTable). Reads ys x w) e r
reads_on (x ∷ xs) ys t u w (more, is, rest) r = (more, is, reads_on xs ys more u w rest r)

are_later : (k : ℕ) (texts : List (List ℕ)) (t u : InputTable) → Reads texts t u → AreLines true (k + 1) texts t u
are_later k [] t u e = e
are_later k (line ∷ texts) t u (more, is, rest) =
    let next : suc k ≡ k + 1 = omega arith in
    (more, subst (λ (n : ℕ). IsLine (head_of true n line) line t more) next is, are_later (k + 1) texts more u rest)

-- ---- what is known of the table

-- a port may have the value
abbrev pub MayBe : List ℕ → Tree → Type 0
MayBe port v = IsPortName port × IsWithinLimits v

abbrev InState : List ℕ → ℕ → Tree → Type 0
InState port n v = MayBe port v

abbrev RowsMay : List ℕ → List InputRow → Type 0
RowsMay port rs = RowsHave InState MayBe port rs

abbrev DefaultMay : List ℕ → Option Tree → Type 0
DefaultMay port d = DefaultHas InState MayBe port d

abbrev TableMay : InputTable → Type 0
TableMay ps = AllByRecursion (λ p. RowsMay p.port p.rows × DefaultMay p.port p.default) ps

abbrev RowsEnd : List InputRow → Type 0
RowsEnd rs = AllByRecursion (λ r. r.last ≤ last_state) rs

pair_may : (span : Span) (table : InputTable) (z port : List ℕ) (value : Tree) (n : ℕ) → Unit {0} → BeginsPair span table z port value n → May InState MayBe span port value
pair_may span table z _ value n known (pair {n = m} is new read apart) =
    record { range = λ k e. (port_named z m is, read.limits); default = λ e. (port_named z m is, read.limits) }

any_head : (head : LineHead) → HeadHas (λ (span : Span). Unit {0}) head
any_head (Speaks span n) = tt
any_head Silent = tt
any_head Unheard = tt

-- ---- the rows of a port

last_in_order : (rs : List InputRow) (r : InputRow) → are_rows (rs ++ r ∷ []) ≡ true → r.first ≤ r.last
last_in_order [] r e = (rows_parts r [] e).ordered
last_in_order (s ∷ rs) r e = last_in_order rs r (rows_parts s (rs ++ r ∷ []) e).others

rows_read : (pre post : InputTable) (k : List ℕ) → HaveRows pre → HaveRows post → (done rs : List InputRow) → IsOrdered (pre ++ input_port k done None ∷ post) → are_rows (done ++ rs) ≡ true → RowsMay k rs → RowsEnd rs
    → Reads (map (row_line k) rs) (told (pre ++ input_port k done None ∷ post)) (told (pre ++ input_port k (done ++ rs) None ∷ post))
rows_read pre post k h g done [] o e may ends = ap (λ (x : List InputRow). told (pre ++ input_port k x None ∷ post)) (append-nil done)
rows_read pre post k h g done (r ∷ rs) o e may ends =
    let step = done ++ r ∷ [] in
    let assoc : step ++ rs ≡ done ++ r ∷ rs = append_assoc done (r ∷ []) rs in
    let apart : are_rows (step ++ rs) ≡ true = ap are_rows assoc ∙ e in
    let begun : are_rows step ≡ true = rows_begin step rs apart in
    let order = last_in_order done r begun in
    let fine = may.0.0 in
    let line = line_made k r.value fine.0 fine.1 (range_text r.first r.last) (States r.first r.last) (told (pre ++ input_port k done None ∷ post)) (told (pre ++ input_port k step None ∷ post))
    (range_named r.first r.last order ends.0) (row_is_new pre post k h g done r o begun order) (row_given pre post k h g done r o begun) in
    let later = rows_read pre post k h g step rs (still_ordered pre (input_port k done None) (input_port k step None) post refl o) apart may.1 ends.1 in
    (told (pre ++ input_port k step None ∷ post), line, subst (λ (x : List InputRow). Reads (map (row_line k) rs) (told (pre ++ input_port k step None ∷ post)) (told (pre ++ input_port k x None ∷ post))) assoc later)

default_read : (pre post : InputTable) (k : List ℕ) → HaveRows pre → HaveRows post → (rs : List InputRow) (d : Option Tree) → IsOrdered (pre ++ input_port k rs None ∷ post) → are_rows rs ≡ true → DefaultMay k d
    → Reads (default_lines (input_port k rs d)) (told (pre ++ input_port k rs None ∷ post)) (told (pre ++ input_port k rs d ∷ post))
default_read pre post k h g rs None o e may = refl
default_read pre post k h g rs (Some v) o e may = (
  told (pre ++ input_port k rs (Some v) ∷ post),
  line_made k v may.0 may.1 (42 ∷ []) Others (told (pre ++ input_port k rs None ∷ post)) (told (pre ++ input_port k rs (Some v) ∷ post)) others_named (default_is_new pre post k h g rs o) (default_given pre post k h g rs v o e),
  refl,
)

-- ---- port by port

-- before its rows, and before its default
abbrev bare : InputPort → InputPort
bare p = input_port p.port [] None

abbrev ranged : InputPort → InputPort
ranged p = input_port p.port p.rows None

none_bare : (ps : InputTable) → told (map bare ps) ≡ []
none_bare [] = refl
none_bare (p ∷ ps) = none_bare ps

bare_rows : (ps : InputTable) → HaveRows (map bare ps)
bare_rows [] = tt
bare_rows (p ∷ ps) = (refl, bare_rows ps)

ranged_rows : (ps : InputTable) → HaveRows ps → HaveRows (map ranged ps)
ranged_rows [] h = tt
ranged_rows (p ∷ ps) h = (h.0, ranged_rows ps h.1)

bare_names : (pre ps : InputTable) → names (pre ++ ps) ≡ names (pre ++ map bare ps)
bare_names [] [] = refl
bare_names [] (p ∷ ps) = ap (λ ks. p.port ∷ ks) (bare_names [] ps)
bare_names (x ∷ pre) ps = ap (λ ks. x.port ∷ ks) (bare_names pre ps)

ranged_names : (pre ps : InputTable) → names (pre ++ ps) ≡ names (pre ++ map ranged ps)
ranged_names [] [] = refl
ranged_names [] (p ∷ ps) = ap (λ ks. p.port ∷ ks) (ranged_names [] ps)
ranged_names (x ∷ pre) ps = ap (λ ks. x.port ∷ ks) (ranged_names pre ps)

all_rows_read : (pre ps : InputTable) → IsOrdered (pre ++ ps) → HaveRows pre → HaveRows ps → TableMay ps → EndsWithin ps → Reads (flat_map row_lines ps) (told (pre ++ map bare ps)) (told (pre ++ map ranged ps))
all_rows_read pre [] o h g may ends = refl
all_rows_read pre (p ∷ ps) o h g may ends =
    let on = pre ++ ranged p ∷ [] in
    let first = rows_read pre (map bare ps) p.port h (bare_rows ps) [] p.rows (subst (IsStrictlySortedBy cmp) (bare_names pre (p ∷ ps)) o) g.0 may.0.0 ends.0 in
    let assoc : (qs : InputTable) → on ++ qs ≡ pre ++ ranged p ∷ qs = λ qs. append_assoc pre (ranged p ∷ []) qs in
    let still : IsOrdered (on ++ ps) = subst IsOrdered (sym (assoc ps)) (still_ordered pre p (ranged p) ps refl o) in
    let later = all_rows_read on ps still (rows_middle pre (ranged p) [] h g.0 tt) g.1 may.1 ends.1 in
    reads_on (row_lines p) (flat_map row_lines ps) (told (pre ++ bare p ∷ map bare ps)) (told (pre ++ ranged p ∷ map bare ps)) (told (pre ++ ranged p ∷ map ranged ps)) first
    (subst (λ (t : InputTable). Reads (flat_map row_lines ps) (told (pre ++ ranged p ∷ map bare ps)) (told t)) (assoc (map ranged ps))
    (subst (λ (t : InputTable). Reads (flat_map row_lines ps) (told t) (told (on ++ map ranged ps))) (assoc (map bare ps)) later))

all_defaults_read : (pre ps : InputTable) → IsOrdered (pre ++ ps) → HaveRows pre → HaveRows ps → TableMay ps → Reads (flat_map default_lines ps) (told (pre ++ map ranged ps)) (told (pre ++ ps))
all_defaults_read pre [] o h g may = refl
all_defaults_read pre (p ∷ ps) o h g may =
    let on = pre ++ p ∷ [] in
    let first = default_read pre (map ranged ps) p.port h (ranged_rows ps g.1) p.rows p.default (subst (IsStrictlySortedBy cmp) (ranged_names pre (p ∷ ps)) o) g.0 may.0.1 in
    let assoc : (qs : InputTable) → on ++ qs ≡ pre ++ p ∷ qs = λ qs. append_assoc pre (p ∷ []) qs in
    let later = all_defaults_read on ps (subst IsOrdered (sym (assoc ps)) o) (rows_middle pre p [] h g.0 tt) g.1 may.1 in
    reads_on (default_lines p) (flat_map default_lines ps) (told (pre ++ ranged p ∷ map ranged ps)) (told (pre ++ p ∷ map ranged ps)) (told (pre ++ p ∷ ps)) first
    (subst (λ (t : InputTable). Reads (flat_map default_lines ps) (told (pre ++ p ∷ map ranged ps)) (told t)) (assoc ps)
    (subst (λ (t : InputTable). Reads (flat_map default_lines ps) (told t) (told (on ++ ps))) (assoc (map ranged ps)) later))

have_rows : (ps : InputTable) → are_ports ps ≡ true → HaveRows ps
have_rows [] e = tt
have_rows (p ∷ ps) e = let is = ports_parts p ps e in (is.rows, have_rows ps is.others)

table_read : (table : InputTable) → IsCanonical table → TableMay table → EndsWithin table → Reads (flat_map row_lines table ++ flat_map default_lines table) [] table
table_read table is may ends =
    let rows = have_rows table is.ports in
    let first = subst (λ (t : InputTable). Reads (flat_map row_lines table) t (told (map ranged table))) (none_bare table) (all_rows_read [] table is.ordered tt rows may ends) in
    let second = subst (λ (t : InputTable). Reads (flat_map default_lines table) (told (map ranged table)) t) (all_told table is.ports) (all_defaults_read [] table is.ordered tt rows may) in
    reads_on (flat_map row_lines table) (flat_map default_lines table) [] (told (map ranged table)) table first second

-- ---- no line has a control character

abbrev ArePlain : List (List ℕ) → Type 0
ArePlain texts = AllByRecursion (AllPass is_plain) texts

plain_on : (xs ys : List (List ℕ)) → ArePlain xs → ArePlain ys → ArePlain (xs ++ ys)
plain_on [] ys h g = g
plain_on (x ∷ xs) ys h g = (h.0, plain_on xs ys h.1 g)

rows_plain : (k : List ℕ) (rs : List InputRow) → are_rows rs ≡ true → RowsMay k rs → RowsEnd rs → ArePlain (map (row_line k) rs)
rows_plain k [] e may ends = tt
rows_plain k (r ∷ rs) e may ends =
    let is = rows_parts r rs e in
    (line_plain (range_text r.first r.last) k r.value (range_named r.first r.last is.ordered ends.0).plain may.0.0.0, rows_plain k rs is.others may.1 ends.1)

default_plain : (k : List ℕ) (rs : List InputRow) (d : Option Tree) → DefaultMay k d → ArePlain (default_lines (input_port k rs d))
default_plain k rs None may = tt
default_plain k rs (Some v) may = (line_plain (42 ∷ []) k v (refl, tt) may.0, tt)

all_rows_plain : (ps : InputTable) → HaveRows ps → TableMay ps → EndsWithin ps → ArePlain (flat_map row_lines ps)
all_rows_plain [] g may ends = tt
all_rows_plain (p ∷ ps) g may ends = plain_on (row_lines p) (flat_map row_lines ps) (rows_plain p.port p.rows g.0 may.0.0 ends.0) (all_rows_plain ps g.1 may.1 ends.1)

all_defaults_plain : (ps : InputTable) → TableMay ps → ArePlain (flat_map default_lines ps)
all_defaults_plain [] may = tt
all_defaults_plain (p ∷ ps) may = plain_on (default_lines p) (flat_map default_lines ps) (default_plain p.port p.rows p.default may.0.1) (all_defaults_plain ps may.1)

lines_plain : (table : InputTable) → IsCanonical table → TableMay table → EndsWithin table → ArePlain (converted_lines table)
lines_plain table is may ends =
    ((refl, (refl, (refl, (refl, (refl, (refl, (refl, (refl, tt)))))))), plain_on (flat_map row_lines table) (flat_map default_lines table) (all_rows_plain table (have_rows table is.ports) may ends) (all_defaults_plain table may))

-- ---- the law

table_is : (table : InputTable) → IsCanonical table → TableMay table → EndsWithin table → IsInputsText (converted table) table
table_is table is may ends =
    subst (λ (texts : List (List ℕ)). AreLines (has_ranges texts) 0 texts [] table) (sym (lines_made (converted_lines table) (lines_plain table is may ends)))
    ([], refl, are_later 0 (flat_map row_lines table ++ flat_map default_lines table) [] table (table_read table is may ends))

pub converted_is_table : ConvertedIsTheTable
converted_is_table bytes table are ends =
    let none : Has InState MayBe [] = record { canonical = none_canonical; ranges = λ n q v e. absurd cc; defaults = λ q v e. absurd cc } in
    let has = lines_have InState MayBe (λ (span : Span). Unit {0}) pair_may (has_ranges (lines bytes)) (length (lines bytes)) (λ k line low. any_head (head_of (has_ranges (lines bytes)) k line)) 0 (lines bytes) [] table (omega arith) are none in
    table_is table has.canonical (ports_have InState MayBe table has) ends
