-- What holds of each value that is read holds of a table of inputs; so its values are within the limits.
use Rattle.std.proofs.Common.{◌≡◌, ℕ, ◌+◌, ◌<◌, ◌≤◌, inl, inr, ◌⊎◌, Bool, true, false, ◌&&◌, List, [], ◌∷◌, Option, Some, None, drop, refl, sym, subst, ◌∙◌}
use Rattle.std.specs.Prelude.{if◌then◌else◌}
use Rattle.std.specs.Str.{bytes_eq}
use Rattle.std.specs.Str.Lines.{lines}
use Rattle.std.specs.Option.{option_and_then, option_or}
use Rattle.std.proofs.lemmas.Bool.{cases_Bool, cases_lt, le-leb}
use Rattle.std.proofs.lemmas.Option.{same_Some}
use Rattle.tp_value.specs.Tree.{Tree}
use Rattle.tp_value.specs.Limits.{item_limit, value_depth_limit, items_in, depth_of, IsWithinLimits}
use Rattle.tp_value.specs.Room.{IsWithinListLimit}
use Rattle.tp_meaning.specs.Inputs.{InputRow, InputPort, InputTable, has_state, row_value, port_of, range_value, default_value, input_at}
use Rattle.tp_inputs.specs.declared.span.Span.{Span}
use Rattle.tp_inputs.specs.declared.span.LineHead.{LineHead}
use Rattle.tp_inputs.specs.declared.span.LineHead.TheVariants.{Speaks, Silent, Unheard}
use Rattle.tp_inputs.specs.Spans.{are_rows, IsCanonical, span_has, is_others, GivesValue, has_ranges, head_of}
use Rattle.tp_inputs.specs.Table.{pair, PassesPart, blank, given, ReadsPairs, here, passes, IsLine, IsInputsText, AreLines}
use Rattle.tp_inputs.specs.Laws.{TablesAreWithin}
use Rattle.tp_inputs.specs.Within.{RowValuesHave, DefaultValueHas, PortValuesHave, ValuesHave}
use Rattle.tp_inputs.proofs.CanonicalLemmas.{has_behind, row_past, rows_parts, rows_behind, first_has, port_here, no_port, later, same_name, ports_parts, rest_canonical, range_at, default_at}

module _ (P : Tree → Type 0) where
  -- ---- what is found has what each value has

  row_has : (rs : List InputRow) (n : ℕ) (t : Tree) → RowValuesHave P rs → row_value rs n ≡ Some t → P t
  row_has [] n t h e = absurd cc
  row_has (r ∷ rs) n t h e = elim (cases_Bool (has_state r n)) [
    | inl c ↦ (let same : Some r.value ≡ Some t = rw c at e in subst P (same_Some _ _ same) h.0)
    | inr c ↦ row_has rs n t h.1 (rw c at e)
  ]

  default_has : (d : Option Tree) (t : Tree) → DefaultValueHas P d → d ≡ Some t → P t
  default_has None t h e = absurd cc
  default_has (Some u) t h e = subst P (same_Some _ _ e) h

  abbrev FoundHas : Option InputPort → Type 0
  FoundHas None = Unit {0}
  FoundHas (Some p) = PortValuesHave P p

  port_has : (table : InputTable) (k : List ℕ) → ValuesHave P table → FoundHas (port_of table k)
  port_has [] k h = tt
  port_has (p ∷ ps) k h = by (bytes_eq k p.port) h.0 (port_has ps k h.1)
    where
      by : (b : Bool) → PortValuesHave P p → FoundHas (port_of ps k) → FoundHas (if b then Some p else port_of ps k)
      by true front below = front
      by false front below = below

  found_range : (o : Option InputPort) (n : ℕ) (t : Tree) → FoundHas o → option_and_then (λ p. row_value p.rows n) o ≡ Some t → P t
  found_range None n t h e = absurd cc
  found_range (Some p) n t h e = row_has p.rows n t h.0 e

  found_default : (o : Option InputPort) (t : Tree) → FoundHas o → option_and_then (λ p. p.default) o ≡ Some t → P t
  found_default None t h e = absurd cc
  found_default (Some p) t h e = default_has p.default t h.1 e

  -- a value that a state has for a port
  pub input_has : (table : InputTable) (state : ℕ) (port : List ℕ) (t : Tree) → ValuesHave P table → input_at table state port ≡ Some t → P t
  input_has table state port t h e = by (range_value table state port) refl e
    where
      by : (o : Option Tree) → range_value table state port ≡ o → option_or o (default_value table port) ≡ Some t → P t
      by None f x = found_default (port_of table port) t (port_has table port h) x
      by (Some u) f x = found_range (port_of table port) state t (port_has table port h) (f ∙ x)

  -- ---- and each value is found

  pub record EachHas (table : InputTable) : Type 0 where
    pub ranges : (n : ℕ) (k : List ℕ) (t : Tree) → range_value table n k ≡ Some t → P t
    pub defaults : (k : List ℕ) (t : Tree) → default_value table k ≡ Some t → P t

  each_has : (table : InputTable) → ValuesHave P table → EachHas table
  each_has table h = record { ranges = λ n k t e. found_range (port_of table k) n t (port_has table k h) e; defaults = λ k t e. found_default (port_of table k) t (port_has table k h) e }

  rows_have : (rs : List InputRow) → are_rows rs ≡ true → ((n : ℕ) (t : Tree) → row_value rs n ≡ Some t → P t) → RowValuesHave P rs
  rows_have [] e each = tt
  rows_have (r ∷ rs) e each = (each r.first r.value (first_has r rs e), rows_have rs (rows_parts r rs e).others (λ n t x. each n t (behind n t x (cases_lt r.last n))))
    where
      behind : (n : ℕ) (t : Tree) → row_value rs n ≡ Some t → (r.last < n) ⊎ (n ≤ r.last) → row_value (r ∷ rs) n ≡ Some t
      behind n t x (inl h) = row_past r rs n (has_behind r n h) ∙ x
      behind n t x (inr h) = let bad : None ≡ Some t = sym ((rows_behind r rs e).free n h) ∙ x in absurd cc

  has_default : (d : Option Tree) → ((t : Tree) → d ≡ Some t → P t) → DefaultValueHas P d
  has_default None each = tt
  has_default (Some t) each = each t refl

  has_port : (p : InputPort) (ps : InputTable) → IsCanonical (p ∷ ps) → EachHas (p ∷ ps) → PortValuesHave P p
  has_port p ps is each =
      let found = port_here p ps p.port refl in (
        rows_have p.rows (ports_parts p ps is.ports).rows (λ n t e. each.ranges n p.port t (range_at (p ∷ ps) n p.port (Some p) found ∙ e)),
        has_default p.default (λ t e. each.defaults p.port t (default_at (p ∷ ps) p.port (Some p) found ∙ e)),
      )

  has_others : (p : InputPort) (ps : InputTable) → IsCanonical (p ∷ ps) → EachHas (p ∷ ps) → EachHas ps
  has_others p ps is each = record { ranges = λ n k t e. range n k t e (cases_Bool (bytes_eq k p.port)); defaults = λ k t e. default k t e (cases_Bool (bytes_eq k p.port)) }
    where
      absent : (k : List ℕ) → bytes_eq k p.port ≡ true → port_of ps k ≡ None
      absent k h = subst (λ z. port_of ps z ≡ None) (sym (same_name k p.port h)) (no_port ps p.port (later p ps is))

      range : (n : ℕ) (k : List ℕ) (t : Tree) → range_value ps n k ≡ Some t → (bytes_eq k p.port ≡ true) ⊎ (bytes_eq k p.port ≡ false) → P t
      range n k t e (inl h) = let bad : None ≡ Some t = sym (range_at ps n k None (absent k h)) ∙ e in absurd cc
      range n k t e (inr h) = let same : range_value (p ∷ ps) n k ≡ range_value ps n k = rw h refl in each.ranges n k t (same ∙ e)

      default : (k : List ℕ) (t : Tree) → default_value ps k ≡ Some t → (bytes_eq k p.port ≡ true) ⊎ (bytes_eq k p.port ≡ false) → P t
      default k t e (inl h) = let bad : None ≡ Some t = sym (default_at ps k None (absent k h)) ∙ e in absurd cc
      default k t e (inr h) = let same : default_value (p ∷ ps) k ≡ default_value ps k = rw h refl in each.defaults k t (same ∙ e)

  values_have : (table : InputTable) → IsCanonical table → EachHas table → ValuesHave P table
  values_have [] is each = tt
  values_have (p ∷ ps) is each = (has_port p ps is each, values_have ps (rest_canonical p ps is) (has_others p ps is each))

  -- ---- what is added has it

  either_has : (b : Bool) (v t : Tree) (o : Option Tree) → P v → (o ≡ Some t → P t) → (if b then Some v else o) ≡ Some t → P t
  either_has true v t o h k e = subst P (same_Some _ _ e) h
  either_has false v t o h k e = k e

  given_has : (span : Span) (port : List ℕ) (v : Tree) (table more : InputTable) → GivesValue span port v table more → P v → ValuesHave P table → ValuesHave P more
  given_has span port v table more g h old =
      let each = each_has table old in
      values_have more g.canonical (record {
        ranges = λ n k t e. either_has (bytes_eq k port && span_has span n) v t (range_value table n k) h (each.ranges n k t) (sym (g.ranges n k) ∙ e);
        defaults = λ k t e. either_has (bytes_eq k port && is_others span) v t (default_value table k) h (each.defaults k t) (sym (g.defaults k) ∙ e);
      })

  -- ---- so a table has what each value has that is within the limits

  module _ (limits : (t : Tree) → IsWithinLimits t → P t) where
    part_has : (span : Span) (z : List ℕ) (old new : InputTable) (n : ℕ) → PassesPart span z old new n → ValuesHave P old → ValuesHave P new
    part_has span z old _ _ (blank is) h = h
    part_has span z old _ _ (given {more = new} (pair {n = n} {t = t} is fresh read apart) gives) h = given_has span _ t old new gives (limits t read.limits) h

    pairs_have : (span : Span) (z : List ℕ) (old : InputTable) (rest : List ℕ) (new : InputTable) → ReadsPairs span z old rest new → ValuesHave P old → ValuesHave P new
    pairs_have span z old _ _ here h = h
    pairs_have span z old rest new (passes {n = n} {more = more} is r) h = pairs_have span (drop n z) more rest new r (part_has span z old more n is h)

    line_has : (head : LineHead) (line : List ℕ) (old new : InputTable) → IsLine head line old new → ValuesHave P old → ValuesHave P new
    line_has (Speaks span n) line old new is h = pairs_have span (drop n line) old [] new is h
    line_has Silent line old new is h = subst (ValuesHave P) (sym is) h
    line_has Unheard line old new is h = absurd is

    lines_have : (second : Bool) (k : ℕ) (texts : List (List ℕ)) (old new : InputTable) → AreLines second k texts old new → ValuesHave P old → ValuesHave P new
    lines_have second k [] old new is h = subst (ValuesHave P) (sym is) h
    lines_have second k (line ∷ texts) old new (more, is, are) h = lines_have second (k + 1) texts more new are (line_has (head_of second k line) line old more is h)

    pub tables_have : (bytes : List ℕ) (table : InputTable) → IsInputsText bytes table → ValuesHave P table
    tables_have bytes table is = lines_have (has_ranges (lines bytes)) 0 (lines bytes) [] table is tt

value_within : (t : Tree) → IsWithinLimits t → IsWithinListLimit t
value_within t h = rw (le-leb (depth_of t) value_depth_limit h.depth, le-leb (items_in t) item_limit h.items) refl

pub tables_within : TablesAreWithin
tables_within = tables_have IsWithinListLimit value_within
