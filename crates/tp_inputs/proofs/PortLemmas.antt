-- The ports of a map's entries.
use Rattle.std.proofs.Common.{refl, ap, sym, subst, ◌∙◌, ◌≡◌, ◌≢◌, ℕ, Bool, true, false, cond, ◌&&◌, List, [], ◌∷◌, map, Option, Some, None, IsSome, Vec}
use Rattle.std.specs.Option.{option_map, option_and_then, option_or}
use Rattle.std.specs.Ordering.{nat_cmp, is_eq}
use Rattle.std.specs.declared.cmp.Ordering.{Ordering}
use Rattle.std.specs.declared.cmp.Ordering.TheVariants.{Less, Equal, Greater}
use Rattle.std.specs.Cmp.Lexicographic.{slice_cmp}
use Rattle.std.specs.List.{AllByRecursion}
use Rattle.std.specs.List.Sorted.{IsStrictlySortedBy}
use Rattle.std.specs.Map.{lookup, set_value, keys_of}
use Rattle.std.specs.BTreeMap.{insert_entry}
use Rattle.std.specs.Str.{bytes_eq}
use Rattle.std.proofs.lemmas.Map.Text.{is_eq-slice_cmp}
use Rattle.std.proofs.lemmas.Slice.Eq.{bytes_eq-Decides}
use Rattle.std.specs.declared.alloc.Global.{Global}
use Rattle.tp_value.specs.Tree.{Tree}
use Rattle.tp_meaning.specs.Inputs.{InputRow, InputPort, InputTable, row_value, port_of, range_value, default_value, input_at}
use Rattle.tp_inputs.specs.declared.span.Span.{Span}
use Rattle.tp_inputs.specs.declared.ports.Port.{Port}
use Rattle.tp_inputs.specs.Spans.{are_rows, is_told, are_ports, span_has, is_others, port_meets, is_given, GivesValue}
use Rattle.tp_inputs.specs.Model.{rows_of, default_of, named_port}

abbrev pub Key : Type 0
Key = Vec ℕ Global

-- keys by their bytes
abbrev pub key_cmp : Key → Key → Ordering
key_cmp a b = slice_cmp nat_cmp a.items b.items

abbrev pub Entries : Type 0
Entries = List (Key × Port)

abbrev pub name_cmp : List ℕ → Key → Ordering
name_cmp q k = slice_cmp nat_cmp q k.items

-- the port of that name
abbrev pub named : List ℕ → Entries → Option Port
named q es = lookup (λ k. is_eq (name_cmp q k)) es

abbrev pub table_in : Entries → InputTable
table_in es = map (λ e. named_port e.0.items e.1) es

-- a name and a key: the same bytes, or not
pub data Compared (q : List ℕ) (k : Key) : Type 0 where
  alike : is_eq (name_cmp q k) ≡ true → bytes_eq q k.items ≡ true → q ≡ k.items → Compared q k
  unlike : is_eq (name_cmp q k) ≡ false → bytes_eq q k.items ≡ false → q ≢ k.items → Compared q k

pub compared : (q : List ℕ) (k : Key) → Compared q k
compared q k = at (bytes_eq q k.items) refl (bytes_eq-Decides q k.items)
  where
    at : (b : Bool) → bytes_eq q k.items ≡ b → (bytes_eq q k.items ≡ true → q ≡ k.items) × (q ≡ k.items → bytes_eq q k.items ≡ true) → Compared q k
    at true e d = alike (is_eq-slice_cmp q k.items ∙ e) e (d.0 e)
    at false e d = unlike (is_eq-slice_cmp q k.items ∙ e) e (λ same. let yes = d.1 same in cc)

pub port_found : (es : Entries) (q : List ℕ) → port_of (table_in es) q ≡ option_map (named_port q) (named q es)
port_found [] q = refl
port_found (e ∷ es) q = at (compared q e.0) (port_found es q)
  where
    at : Compared q e.0 → port_of (table_in es) q ≡ option_map (named_port q) (named q es) → port_of (table_in (e ∷ es)) q ≡ option_map (named_port q) (named q (e ∷ es))
    at (alike x y same) later = rw (x, y) (ap (λ z. Some (named_port z e.1)) (sym same))
    at (unlike x y other) later = rw (x, y) later

abbrev pub rows_in : Option Port → List InputRow
rows_in None = []
rows_in (Some p) = rows_of p.ranges

abbrev pub default_in : Option Port → Option Tree
default_in None = None
default_in (Some p) = default_of p

pub ranged : (es : Entries) (n : ℕ) (q : List ℕ) → range_value (table_in es) n q ≡ row_value (rows_in (named q es)) n
ranged es n q = ap (option_and_then (λ p. row_value p.rows n)) (port_found es q) ∙ at (named q es)
  where
    at : (o : Option Port) → option_and_then (λ p. row_value p.rows n) (option_map (named_port q) o) ≡ row_value (rows_in o) n
    at None = refl
    at (Some p) = refl

pub defaulted : (es : Entries) (q : List ℕ) → default_value (table_in es) q ≡ default_in (named q es)
defaulted es q = ap (option_and_then (λ p. p.default)) (port_found es q) ∙ at (named q es)
  where
    at : (o : Option Port) → option_and_then (λ p. p.default) (option_map (named_port q) o) ≡ default_in o
    at None = refl
    at (Some p) = refl

pub value_at : (es : Entries) (n : ℕ) (q : List ℕ) → input_at (table_in es) n q ≡ option_or (row_value (rows_in (named q es)) n) (default_in (named q es))
value_at es n q = ap (λ o. option_or o (default_value (table_in es) q)) (ranged es n q) ∙ ap (option_or (row_value (rows_in (named q es)) n)) (defaulted es q)

pub met : (es : Entries) (span : Span) (q : List ℕ) → is_given (table_in es) span q ≡ port_meets (option_map (named_port q) (named q es)) span
met es span q = ap (λ o. port_meets o span) (port_found es q)

-- ---- what are_ports says

pub split_ports : (p : InputPort) (ps : InputTable) → are_ports (p ∷ ps) ≡ true → (are_rows p.rows ≡ true) × (is_told p ≡ true) × (are_ports ps ≡ true)
split_ports p ps e = at (are_rows p.rows) (is_told p) (are_ports ps) refl refl refl e
  where
    at : (a b c : Bool) → are_rows p.rows ≡ a → is_told p ≡ b → are_ports ps ≡ c → a && (b && c) ≡ true → (are_rows p.rows ≡ true) × (is_told p ≡ true) × (are_ports ps ≡ true)
    at true true true x y z h = (x, y, z)
    at true true false x y z h = absurd cc
    at true false c x y z h = absurd cc
    at false b c x y z h = absurd cc

pub join_ports : (p : InputPort) (ps : InputTable) → are_rows p.rows ≡ true → is_told p ≡ true → are_ports ps ≡ true → are_ports (p ∷ ps) ≡ true
join_ports p ps x y z = rw (x, y, z) refl

pub rows_apart : (es : Entries) (q : List ℕ) (p : Port) → are_ports (table_in es) ≡ true → named q es ≡ Some p → are_rows (rows_of p.ranges) ≡ true
rows_apart [] q p e f = absurd cc
rows_apart (d ∷ es) q p e f = at (compared q d.0) (rows_apart es q p s.2)
  where
    s : (are_rows (rows_of d.1.ranges) ≡ true) × (is_told (named_port d.0.items d.1) ≡ true) × (are_ports (table_in es) ≡ true)
    s = split_ports (named_port d.0.items d.1) (table_in es) e

    at : Compared q d.0 → (named q es ≡ Some p → are_rows (rows_of p.ranges) ≡ true) → are_rows (rows_of p.ranges) ≡ true
    at (alike x y same) later = let it : Some d.1 ≡ Some p = sym (rw x refl) ∙ f in let is : d.1 ≡ p = cc in subst (λ (z : Port). are_rows (rows_of z.ranges) ≡ true) is s.0
    at (unlike x y other) later = later (sym (rw x refl) ∙ f)

-- ---- a port in the place of another, and a new one

-- each port of that name is w now, and each other one is as it was
abbrev pub Changes : List ℕ → Port → Entries → Entries → Type 0
Changes port w es fs = (q : List ℕ) → named q fs ≡ cond (bytes_eq q port) (Some w) (named q es)

pub set_changes : (es : Entries) (port : List ℕ) (w : Port) → IsSome (named port es) → Changes port w es (set_value (λ k. is_eq (name_cmp port k)) es w)
set_changes [] port w some q = absurd cc
set_changes (e ∷ es) port w some q = at (compared port e.0) (compared q e.0) (λ s. set_changes es port w s q)
  where
    at : Compared port e.0 → Compared q e.0 → (IsSome (named port es) → named q (set_value (λ k. is_eq (name_cmp port k)) es w) ≡ cond (bytes_eq q port) (Some w) (named q es)) → named q (set_value (λ k. is_eq (name_cmp port k)) (e ∷ es) w) ≡ cond (bytes_eq q port) (Some w) (named q (e ∷ es))
    at (alike x y same) (alike u v k) later = rw (x, u) (sym (ap (λ b. cond b (Some w) (Some e.1)) ((bytes_eq-Decides q port).1 (k ∙ sym same))))
    at (alike x y same) (unlike u v k) later = rw (x, u) (sym (ap (λ b. cond b (Some w) (named q es)) (ap (bytes_eq q) same ∙ v)))
    at (unlike x y other) (alike u v k) later = rw (x, u) (sym (ap (λ b. cond b (Some w) (Some e.1)) (ap (λ z. bytes_eq z port) k ∙ not_same)))
      where
        not_same : bytes_eq e.0.items port ≡ false
        not_same = by_test (bytes_eq e.0.items port) refl
          where
            by_test : (b : Bool) → bytes_eq e.0.items port ≡ b → b ≡ false
            by_test true z = absurd (other (sym ((bytes_eq-Decides e.0.items port).0 z)))
            by_test false z = refl
    at (unlike x y other) (unlike u v k) later = rw (x, u) (later (rw x at some))

pub insert_changes : (cmp : Key → Key → Ordering) → ((a b : Key) → cmp a b ≡ slice_cmp nat_cmp a.items b.items) → (es : Entries) (k : Key) (w : Port) → named k.items es ≡ None → Changes k.items w es (insert_entry cmp es k w)
insert_changes cmp is [] k w none q = ap (λ b. cond b (Some w) None) (is_eq-slice_cmp q k.items)
insert_changes cmp is (e ∷ es) k w none q = at (cmp k e.0) refl (compared k.items e.0) (λ n. insert_changes cmp is es k w n q)
  where
    put_first : named q ((k, w) ∷ e ∷ es) ≡ cond (bytes_eq q k.items) (Some w) (named q (e ∷ es))
    put_first = ap (λ b. cond b (Some w) (named q (e ∷ es))) (is_eq-slice_cmp q k.items)

    put_later : named q (insert_entry cmp es k w) ≡ cond (bytes_eq q k.items) (Some w) (named q es) → k.items ≢ e.0.items → named q (e ∷ insert_entry cmp es k w) ≡ cond (bytes_eq q k.items) (Some w) (named q (e ∷ es))
    put_later later other = at_name (compared q e.0)
      where
        at_name : Compared q e.0 → named q (e ∷ insert_entry cmp es k w) ≡ cond (bytes_eq q k.items) (Some w) (named q (e ∷ es))
        at_name (unlike u v z) = rw u later
        at_name (alike u v z) = rw u (sym (ap (λ b. cond b (Some w) (Some e.1)) (by_test (bytes_eq q k.items) refl)))
          where
            by_test : (b : Bool) → bytes_eq q k.items ≡ b → b ≡ false
            by_test true y = absurd (other (sym ((bytes_eq-Decides q k.items).0 y) ∙ z))
            by_test false y = refl

    at : (o : Ordering) → cmp k e.0 ≡ o → Compared k.items e.0 → (named k.items es ≡ None → named q (insert_entry cmp es k w) ≡ cond (bytes_eq q k.items) (Some w) (named q es)) → named q (insert_entry cmp (e ∷ es) k w) ≡ cond (bytes_eq q k.items) (Some w) (named q (e ∷ es))
    at o c (alike x y same) later = let there : Some e.1 ≡ None = sym (rw x refl) ∙ none in absurd cc
    at Less c (unlike x y other) later = rw c put_first
    at Greater c (unlike x y other) later = rw c (put_later (later (sym (rw x refl) ∙ none)) other)
    at Equal c (unlike x y other) later = let e1 : slice_cmp nat_cmp k.items e.0.items ≡ Equal = sym (is k e.0) ∙ c in let yes : is_eq (name_cmp k.items e.0) ≡ true = ap is_eq e1 in absurd cc

-- what holds of the ports still holds
pub set_ports : (es : Entries) (test : Key → Bool) (w : Port) → are_ports (table_in es) ≡ true → are_rows (rows_of w.ranges) ≡ true → ((name : List ℕ) → is_told (named_port name w) ≡ true) → are_ports (table_in (set_value test es w)) ≡ true
set_ports [] test w e x y = refl
set_ports (d ∷ es) test w e x y = at (test d.0) refl (set_ports es test w s.2 x y)
  where
    s : (are_rows (rows_of d.1.ranges) ≡ true) × (is_told (named_port d.0.items d.1) ≡ true) × (are_ports (table_in es) ≡ true)
    s = split_ports (named_port d.0.items d.1) (table_in es) e

    at : (b : Bool) → test d.0 ≡ b → are_ports (table_in (set_value test es w)) ≡ true → are_ports (table_in (set_value test (d ∷ es) w)) ≡ true
    at true z later = rw z (join_ports (named_port d.0.items w) (table_in es) x (y d.0.items) s.2)
    at false z later = rw z (join_ports (named_port d.0.items d.1) (table_in (set_value test es w)) s.0 s.1 later)

pub insert_ports : (cmp : Key → Key → Ordering) (es : Entries) (k : Key) (w : Port) → are_ports (table_in es) ≡ true → are_rows (rows_of w.ranges) ≡ true → ((name : List ℕ) → is_told (named_port name w) ≡ true) → are_ports (table_in (insert_entry cmp es k w)) ≡ true
insert_ports cmp [] k w e x y = join_ports (named_port k.items w) [] x (y k.items) refl
insert_ports cmp (d ∷ es) k w e x y = at (cmp k d.0) refl (insert_ports cmp es k w s.2 x y)
  where
    s : (are_rows (rows_of d.1.ranges) ≡ true) × (is_told (named_port d.0.items d.1) ≡ true) × (are_ports (table_in es) ≡ true)
    s = split_ports (named_port d.0.items d.1) (table_in es) e

    at : (o : Ordering) → cmp k d.0 ≡ o → are_ports (table_in (insert_entry cmp es k w)) ≡ true → are_ports (table_in (insert_entry cmp (d ∷ es) k w)) ≡ true
    at Less z later = rw z (join_ports (named_port k.items w) (table_in (d ∷ es)) x (y k.items) e)
    at Equal z later = rw z (join_ports (named_port d.0.items w) (table_in es) x (y d.0.items) s.2)
    at Greater z later = rw z (join_ports (named_port d.0.items d.1) (table_in (insert_entry cmp es k w)) s.0 s.1 later)

-- ---- names in order

below_all : (cmp : Key → Key → Ordering) → ((a b : Key) → cmp a b ≡ slice_cmp nat_cmp a.items b.items) → (k : Key) (es : Entries) → AllByRecursion (λ y. cmp k y ≡ Less) (keys_of es) → AllByRecursion (λ y. slice_cmp nat_cmp k.items y ≡ Less) (map (λ p. p.port) (table_in es))
below_all cmp is k [] h = tt
below_all cmp is k (e ∷ es) h = (sym (is k e.0) ∙ h.0, below_all cmp is k es h.1)

pub names_ordered : (cmp : Key → Key → Ordering) → ((a b : Key) → cmp a b ≡ slice_cmp nat_cmp a.items b.items) → (es : Entries) → IsStrictlySortedBy cmp (keys_of es) → IsStrictlySortedBy (slice_cmp nat_cmp) (map (λ p. p.port) (table_in es))
unfolding IsStrictlySortedBy
names_ordered cmp is [] h = tt
names_ordered cmp is (e ∷ es) h = (below_all cmp is e.0 es h.0, names_ordered cmp is es h.1)

-- ---- what the table says besides

pub gives : (es fs : Entries) (span : Span) (port : List ℕ) (v : Tree) (w : Port) → Changes port w es fs
    → IsStrictlySortedBy (slice_cmp nat_cmp) (map (λ p. p.port) (table_in fs)) → are_ports (table_in fs) ≡ true
    → ((n : ℕ) → row_value (rows_of w.ranges) n ≡ cond (span_has span n) (Some v) (row_value (rows_in (named port es)) n)) → default_of w ≡ cond (is_others span) (Some v) (default_in (named port es))
    → GivesValue span port v (table_in es) (table_in fs)
gives es fs span port v w changes ordered ports rows default = record {
  canonical = record { ordered = ordered; ports = ports };
  ranges = λ n q. ranged fs n q ∙ (ap (λ o. row_value (rows_in o) n) (changes q) ∙ (at_row n q (bytes_eq q port) refl ∙ ap (cond (bytes_eq q port && span_has span n) (Some v)) (sym (ranged es n q))));
  defaults = λ q. defaulted fs q ∙ (ap default_in (changes q) ∙ (at_default q (bytes_eq q port) refl ∙ ap (cond (bytes_eq q port && is_others span) (Some v)) (sym (defaulted es q))));
}
  where
    at_row : (n : ℕ) (q : List ℕ) (b : Bool) → bytes_eq q port ≡ b → row_value (rows_in (cond b (Some w) (named q es))) n ≡ cond (b && span_has span n) (Some v) (row_value (rows_in (named q es)) n)
    at_row n q false e = refl
    at_row n q true e = rows n ∙ ap (λ z. cond (span_has span n) (Some v) (row_value (rows_in (named z es)) n)) (sym ((bytes_eq-Decides q port).0 e))

    at_default : (q : List ℕ) (b : Bool) → bytes_eq q port ≡ b → default_in (cond b (Some w) (named q es)) ≡ cond (b && is_others span) (Some v) (default_in (named q es))
    at_default q false e = refl
    at_default q true e = default ∙ ap (λ z. cond (is_others span) (Some v) (default_in (named z es))) (sym ((bytes_eq-Decides q port).0 e))
