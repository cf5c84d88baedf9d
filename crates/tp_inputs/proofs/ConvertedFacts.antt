-- What holds of each port and value that is read holds of the rows and defaults of a table.
use Rattle.std.proofs.Common.{refl, sym, subst, ◌∙◌, ◌≡◌, ℕ, ◌+◌, ◌<◌, ◌≤◌, inl, inr, ◌⊎◌, Bool, true, false, ◌&&◌, cond, List, [], ◌∷◌, length, drop, Option, Some, None, Less, arith}
use Rattle.std.specs.List.{AllByRecursion}
use Rattle.std.specs.Str.{bytes_eq}
use Rattle.std.proofs.lemmas.Bool.{cases_Bool, cases_lt}
use Rattle.std.proofs.lemmas.Option.{same_Some}
use Rattle.tp_value.specs.Tree.{Tree}
use Rattle.tp_meaning.specs.Inputs.{InputRow, InputTable, row_value, port_of, range_value, default_value}
use Rattle.tp_inputs.specs.declared.span.Span.{Span}
use Rattle.tp_inputs.specs.declared.span.LineHead.{LineHead}
use Rattle.tp_inputs.specs.declared.span.LineHead.TheVariants.{Speaks, Silent, Unheard}
use Rattle.tp_inputs.specs.Spans.{are_rows, IsCanonical, span_has, is_others, GivesValue, head_of}
use Rattle.tp_inputs.specs.Table.{BeginsPair, PassesPart, blank, given, ReadsPairs, here, passes, IsLine, AreLines}
use Rattle.tp_inputs.proofs.HeadLemmas.{HeadHas}
use Rattle.tp_inputs.proofs.CanonicalLemmas.{has_yes, has_behind, row_at, row_past, rows_parts, rows_behind, first_has, ports_parts, names, cmp, same_name, port_here, no_port, range_at, default_at, rest_canonical, later}

-- in this state the port may have the value, and the other is a default that it may have
module _ (InRange : List ℕ → ℕ → Tree → Type 0) (AsDefault : List ℕ → Tree → Type 0) where
  pub record Has (table : InputTable) : Type 0 where
    pub canonical : IsCanonical table
    pub ranges : (n : ℕ) (q : List ℕ) (v : Tree) → range_value table n q ≡ Some v → InRange q n v
    pub defaults : (q : List ℕ) (v : Tree) → default_value table q ≡ Some v → AsDefault q v

  -- what a pair may give
  pub record May (span : Span) (port : List ℕ) (value : Tree) : Type 0 where
    pub range : (n : ℕ) → span_has span n ≡ true → InRange port n value
    pub default : is_others span ≡ true → AsDefault port value

  gives_has : (span : Span) (port : List ℕ) (value : Tree) (table more : InputTable) → GivesValue span port value table more → May span port value → Has table → Has more
  gives_has span port value table more g may has = record {
    canonical = g.canonical;
    ranges = λ n q v e. range n q v (bytes_eq q port) (span_has span n) refl refl (sym (g.ranges n q) ∙ e);
    defaults = λ q v e. default q v (bytes_eq q port) (is_others span) refl refl (sym (g.defaults q) ∙ e);
  }
    where
      range : (n : ℕ) (q : List ℕ) (v : Tree) (b c : Bool) → bytes_eq q port ≡ b → span_has span n ≡ c → cond (b && c) (Some value) (range_value table n q) ≡ Some v → InRange q n v
      range n q v true true e f h = subst (λ (x : List ℕ). InRange x n v) (sym (same_name q port e)) (subst (InRange port n) (same_Some _ _ h) (may.range n f))
      range n q v true false e f h = has.ranges n q v h
      range n q v false c e f h = has.ranges n q v h

      default : (q : List ℕ) (v : Tree) (b c : Bool) → bytes_eq q port ≡ b → is_others span ≡ c → cond (b && c) (Some value) (default_value table q) ≡ Some v → AsDefault q v
      default q v true true e f h = subst (λ (x : List ℕ). AsDefault x v) (sym (same_name q port e)) (subst (AsDefault port) (same_Some _ _ h) (may.default f))
      default q v true false e f h = has.defaults q v h
      default q v false c e f h = has.defaults q v h

  -- of the spans of heads this is known, and so what their pairs may give
  module _ (Known : Span → Type 0) (pairs_may : (span : Span) (table : InputTable) (z port : List ℕ) (value : Tree) (n : ℕ) → Known span → BeginsPair span table z port value n → May span port value) where
    part_has : (span : Span) (z : List ℕ) (table more : InputTable) (n : ℕ) → Known span → PassesPart span z table more n → Has table → Has more
    part_has span z table _ _ known (blank is) has = has
    part_has span z table more n known (given {port = port} {value = value} is g) has = gives_has span port value table more g (pairs_may span table z port value n known is) has

    pairs_have : (span : Span) (z : List ℕ) (table : InputTable) (rest : List ℕ) (all : InputTable) → Known span → ReadsPairs span z table rest all → Has table → Has all
    pairs_have span z table _ _ known here has = has
    pairs_have span z table rest all known (passes {n = n} {more = more} is r) has = pairs_have span (drop n z) more rest all known r (part_has span z table more n known is has)

    line_has : (head : LineHead) (line : List ℕ) (table more : InputTable) → HeadHas Known head → IsLine head line table more → Has table → Has more
    line_has (Speaks span n) line table more known is has = pairs_have span (drop n line) table [] more known is has
    line_has Silent line table more known is has = subst Has (sym is) has
    line_has Unheard line table more known is has = absurd is

    pub lines_have : (second : Bool) (most : ℕ) → ((k : ℕ) (line : List ℕ) → k < most → HeadHas Known (head_of second k line)) → (k : ℕ) (texts : List (List ℕ)) (table all : InputTable) → k + length texts ≤ most
        → AreLines second k texts table all → Has table → Has all
    lines_have second most heads k [] table all low are has = subst Has (sym are) has
    lines_have second most heads k (line ∷ texts) table all low (more, is, are) has =
        lines_have second most heads (k + 1) texts more all (omega arith) are (line_has (head_of second k line) line table more (heads k line (omega arith)) is has)

  -- ---- of a table

  -- of the rows of the port
  abbrev pub RowsHave : List ℕ → List InputRow → Type 0
  RowsHave port rs = AllByRecursion (λ r. InRange port r.first r.value × InRange port r.last r.value) rs

  abbrev pub DefaultHas : List ℕ → Option Tree → Type 0
  DefaultHas port None = Unit {0}
  DefaultHas port (Some v) = AsDefault port v

  rows_have : (port : List ℕ) (rs : List InputRow) → are_rows rs ≡ true → ((n : ℕ) (v : Tree) → row_value rs n ≡ Some v → InRange port n v) → RowsHave port rs
  rows_have port [] e h = tt
  rows_have port (r ∷ rs) e h = (
    (h r.first r.value (first_has r rs e), h r.last r.value (row_at r rs r.last (has_yes r r.last (rows_parts r rs e).ordered (omega arith)))),
    rows_have port rs (rows_parts r rs e).others (λ n v f. h n v (behind n v f (cases_lt r.last n))),
  )
    where
      behind : (n : ℕ) (v : Tree) → row_value rs n ≡ Some v → (r.last < n) ⊎ (n ≤ r.last) → row_value (r ∷ rs) n ≡ Some v
      behind n v f (inl low) = row_past r rs n (has_behind r n low) ∙ f
      behind n v f (inr high) = let bad : None ≡ Some v = sym ((rows_behind r rs e).free n high) ∙ f in absurd cc

  default_has : (port : List ℕ) (d : Option Tree) → ((v : Tree) → d ≡ Some v → AsDefault port v) → DefaultHas port d
  default_has port None h = tt
  default_has port (Some v) h = h v refl

  pub ports_have : (table : InputTable) → Has table → AllByRecursion (λ p. RowsHave p.port p.rows × DefaultHas p.port p.default) table
  ports_have [] has = tt
  ports_have (p ∷ ps) has = (
    (
      rows_have p.port p.rows (ports_parts p ps has.canonical.ports).rows (λ n v e. has.ranges n p.port v (range_at (p ∷ ps) n p.port (Some p) there ∙ e)),
      default_has p.port p.default (λ v e. has.defaults p.port v (default_at (p ∷ ps) p.port (Some p) there ∙ e)),
    ),
    ports_have ps (record {
      canonical = rest_canonical p ps has.canonical;
      ranges = λ n q v e. has.ranges n q v (range n q v e (cases_Bool (bytes_eq q p.port)));
      defaults = λ q v e. has.defaults q v (default q v e (cases_Bool (bytes_eq q p.port)));
    }),
  )
    where
      there : port_of (p ∷ ps) p.port ≡ Some p
      there = port_here p ps p.port refl

      absent : (q : List ℕ) → bytes_eq q p.port ≡ true → port_of ps q ≡ None
      absent q f = no_port ps q (subst (λ (x : List ℕ). AllByRecursion (λ k. cmp x k ≡ Less) (names ps)) (sym (same_name q p.port f)) (later p ps has.canonical))

      range : (n : ℕ) (q : List ℕ) (v : Tree) → range_value ps n q ≡ Some v → (bytes_eq q p.port ≡ true) ⊎ (bytes_eq q p.port ≡ false) → range_value (p ∷ ps) n q ≡ Some v
      range n q v e (inl f) = let bad : None ≡ Some v = sym (range_at ps n q None (absent q f)) ∙ e in absurd cc
      range n q v e (inr f) = rw f e

      default : (q : List ℕ) (v : Tree) → default_value ps q ≡ Some v → (bytes_eq q p.port ≡ true) ⊎ (bytes_eq q p.port ≡ false) → default_value (p ∷ ps) q ≡ Some v
      default q v e (inl f) = let bad : None ≡ Some v = sym (default_at ps q None (absent q f)) ∙ e in absurd cc
      default q v e (inr f) = rw f e
