-- Tables in their one form: two that say the same are one.
use Rattle.std.proofs.Common.{refl, ap, sym, subst, ◌∙◌, ◌≡◌, ◌≢◌, ℕ, ◌+◌, ◌<◌, ◌≤◌, ◌==◌, inl, inr, ◌⊎◌, true, false, not, ◌&&◌, ◌||◌, nat_le, nat_lt, List, [], ◌∷◌, length, map, Option, Some, None, is_some, Ordering, Less, Equal, Greater, arith}
use Rattle.std.specs.List.{AllByRecursion}
use Rattle.std.specs.List.Sorted.{IsStrictlySortedBy}
use Rattle.std.specs.Ordering.{nat_cmp, ordering_reverse}
use Rattle.std.specs.Cmp.Lexicographic.{slice_cmp}
use Rattle.std.specs.Str.{bytes_eq}
use Rattle.std.specs.Option.{option_and_then}
use Rattle.std.proofs.lemmas.Bool.{cases_Bool, cases_lt, cases_order, and_parts, and_from, and_left, and_right, not-true, both_ways, le-leb, lt-leb, lt-ltb, leb-true, ltb-true, eq-eqb, eqb-true}
use Rattle.std.proofs.lemmas.Option.{same_Some}
use Rattle.std.proofs.lemmas.Slice.Eq.{bytes_eq-Decides}
use Rattle.std.proofs.lemmas.Cmp.{nat_list_cmp_total}
use Rattle.std.proofs.lemmas.Map.Lookups.{exact_bytes}
use Rattle.std.proofs.lemmas.Map.Keys.{sorted_head, sorted_tail}
use Rattle.tp_value.specs.Tree.{Tree, same_tree}
use Rattle.tp_value.proofs.Trees.{same_tree_is_equality}
use Rattle.tp_meaning.specs.Inputs.{InputRow, InputPort, InputTable, has_state, row_value, port_of, range_value, default_value}
use Rattle.tp_inputs.specs.declared.span.Span.{Span}
use Rattle.tp_inputs.specs.Spans.{is_ahead, are_rows, is_told, are_ports, IsCanonical, GivesValue}

-- ---- a row

pub has_yes : (r : InputRow) (n : ℕ) → r.first ≤ n → n ≤ r.last → has_state r n ≡ true
has_yes r n a b = and_from _ _ (le-leb r.first n a) (le-leb n r.last b)

pub has_before : (r : InputRow) (n : ℕ) → n < r.first → has_state r n ≡ false
has_before r n h = and_left _ _ (lt-leb r.first n h)

pub has_behind : (r : InputRow) (n : ℕ) → r.last < n → has_state r n ≡ false
has_behind r n h = and_right (nat_le r.first n) _ (lt-leb n r.last h)

pub row_at : (r : InputRow) (rs : List InputRow) (n : ℕ) → has_state r n ≡ true → row_value (r ∷ rs) n ≡ Some r.value
row_at r rs n e = rw e refl

pub row_past : (r : InputRow) (rs : List InputRow) (n : ℕ) → has_state r n ≡ false → row_value (r ∷ rs) n ≡ row_value rs n
row_past r rs n e = rw e refl

-- ---- rows in order and apart

pub record AreRows (r : InputRow) (rs : List InputRow) : Type 0 where
  pub ordered : r.first ≤ r.last
  pub ahead : is_ahead r rs ≡ true
  pub others : are_rows rs ≡ true

pub rows_parts : (r : InputRow) (rs : List InputRow) → are_rows (r ∷ rs) ≡ true → AreRows r rs
rows_parts r rs e =
    let both = and_parts (nat_le r.first r.last) (is_ahead r rs && are_rows rs) e in
    let more = and_parts (is_ahead r rs) (are_rows rs) both.1 in
    record { ordered = leb-true r.first r.last both.0; ahead = more.0; others = more.1 }

pub rows_from : (r : InputRow) (rs : List InputRow) → r.first ≤ r.last → is_ahead r rs ≡ true → are_rows rs ≡ true → are_rows (r ∷ rs) ≡ true
rows_from r rs a b c = and_from (nat_le r.first r.last) _ (le-leb r.first r.last a) (and_from (is_ahead r rs) (are_rows rs) b c)

pub first_has : (r : InputRow) (rs : List InputRow) → are_rows (r ∷ rs) ≡ true → row_value (r ∷ rs) r.first ≡ Some r.value
first_has r rs e = row_at r rs r.first (has_yes r r.first (omega arith) (rows_parts r rs e).ordered)

before_ahead : (r s : InputRow) (rs : List InputRow) → is_ahead r (s ∷ rs) ≡ true → r.last < s.first
before_ahead r s rs e = ltb-true r.last s.first (and_parts (nat_lt r.last s.first) _ e).0

-- no row has a state before the first
pub none_before : (r : InputRow) (rs : List InputRow) (n : ℕ) → are_rows (r ∷ rs) ≡ true → n < r.first → row_value (r ∷ rs) n ≡ None
none_before r [] n e h = row_past r [] n (has_before r n h)
none_before r (s ∷ rs) n e h =
    let is = rows_parts r (s ∷ rs) e in
    let order = is.ordered in
    let gap = before_ahead r s rs is.ahead in
    row_past r (s ∷ rs) n (has_before r n h) ∙ none_before s rs n is.others (omega arith)

-- The rows have no state up to this one, and the next hasn't this value.
pub record Behind (last : ℕ) (value : Tree) (rs : List InputRow) : Type 0 where
  pub free : (n : ℕ) → n ≤ last → row_value rs n ≡ None
  pub other : row_value rs (last + 1) ≢ Some value

pub ahead_behind : (r : InputRow) (rs : List InputRow) → is_ahead r rs ≡ true → are_rows rs ≡ true → Behind r.last r.value rs
ahead_behind r [] a e = record { free = λ n h. refl; other = λ x. cc }
ahead_behind r (s ∷ rs) a e = record { free = λ n h. none_before s rs n e (omega (arith, gap)); other = λ x. at x (cases_lt (r.last + 1) s.first) }
  where
    gap : r.last < s.first
    gap = before_ahead r s rs a

    apart : (r.last + 1 == s.first && same_tree r.value s.value) ≡ false
    apart = not-true _ (and_parts (nat_lt r.last s.first) _ a).1

    at : row_value (s ∷ rs) (r.last + 1) ≡ Some r.value → (r.last + 1 < s.first) ⊎ (s.first ≤ r.last + 1) → ⊥
    at x (inl h) = let none = none_before s rs (r.last + 1) e h in let bad : None ≡ Some r.value = sym none ∙ x in cc
    at x (inr h) =
        let next : r.last + 1 ≡ s.first = omega (arith, gap) in
        let here : row_value (s ∷ rs) (r.last + 1) ≡ Some s.value = subst (λ (k : ℕ). row_value (s ∷ rs) k ≡ Some s.value) (sym next) (first_has s rs e) in
        let same : r.value ≡ s.value = same_Some _ _ (sym x ∙ here) in
        both_ways _ apart (and_from (r.last + 1 == s.first) (same_tree r.value s.value) (eq-eqb (r.last + 1) s.first next) ((same_tree_is_equality r.value s.value).1 same))

pub behind_ahead : (r : InputRow) (rs : List InputRow) → are_rows rs ≡ true → Behind r.last r.value rs → is_ahead r rs ≡ true
behind_ahead r [] e is = refl
behind_ahead r (s ∷ rs) e is = and_from (nat_lt r.last s.first) _ (lt-ltb r.last s.first gap) (at (cases_Bool (r.last + 1 == s.first && same_tree r.value s.value)))
  where
    here : row_value (s ∷ rs) s.first ≡ Some s.value
    here = first_has s rs e

    by : (r.last < s.first) ⊎ (s.first ≤ r.last) → r.last < s.first
    by (inl h) = h
    by (inr h) = let none = is.free s.first h in let bad : None ≡ Some s.value = sym none ∙ here in absurd cc

    gap : r.last < s.first
    gap = by (cases_lt r.last s.first)

    at : ((r.last + 1 == s.first && same_tree r.value s.value) ≡ true) ⊎ ((r.last + 1 == s.first && same_tree r.value s.value) ≡ false) → not (r.last + 1 == s.first && same_tree r.value s.value) ≡ true
    at (inl h) =
        let both = and_parts (r.last + 1 == s.first) (same_tree r.value s.value) h in
        let next : r.last + 1 ≡ s.first = eqb-true (r.last + 1) s.first both.0 in
        let same : r.value ≡ s.value = (same_tree_is_equality r.value s.value).0 both.1 in
        absurd (is.other (subst (λ (k : ℕ). row_value (s ∷ rs) k ≡ Some r.value) (sym next) (here ∙ ap Some (sym same))))
    at (inr h) = ap not h

pub rows_behind : (r : InputRow) (rs : List InputRow) → are_rows (r ∷ rs) ≡ true → Behind r.last r.value rs
rows_behind r rs e = let is = rows_parts r rs e in ahead_behind r rs is.ahead is.others

-- ---- rows that say the same are the same

abbrev SameRows : List InputRow → List InputRow → Type 0
SameRows rs ss = (n : ℕ) → row_value rs n ≡ row_value ss n

no_rows : (r : InputRow) (rs : List InputRow) → are_rows (r ∷ rs) ≡ true → SameRows [] (r ∷ rs) → ⊥
no_rows r rs e same = let bad : None ≡ Some r.value = same r.first ∙ first_has r rs e in cc

not_before : (r s : InputRow) (rs ss : List InputRow) → are_rows (r ∷ rs) ≡ true → are_rows (s ∷ ss) ≡ true → SameRows (r ∷ rs) (s ∷ ss) → r.first < s.first → ⊥
not_before r s rs ss e f same h = let bad : Some r.value ≡ None = sym (first_has r rs e) ∙ same r.first ∙ none_before s ss r.first f h in cc

neither_less : (m n : ℕ) → (m < n → ⊥) → (n < m → ⊥) → m ≡ n
neither_less m n below above = at (cases_order m n)
  where
    at : (m ≡ n) ⊎ ((m < n) ⊎ (n < m)) → m ≡ n
    at (inl h) = h
    at (inr (inl h)) = absurd (below h)
    at (inr (inr h)) = absurd (above h)

same_first : (r s : InputRow) (rs ss : List InputRow) → are_rows (r ∷ rs) ≡ true → are_rows (s ∷ ss) ≡ true → SameRows (r ∷ rs) (s ∷ ss) → r.first ≡ s.first
same_first r s rs ss e f same = neither_less r.first s.first (not_before r s rs ss e f same) (not_before s r ss rs f e (λ n. sym (same n)))

same_value : (r s : InputRow) (rs ss : List InputRow) → are_rows (r ∷ rs) ≡ true → are_rows (s ∷ ss) ≡ true → SameRows (r ∷ rs) (s ∷ ss) → r.value ≡ s.value
same_value r s rs ss e f same =
    let first = same_first r s rs ss e f same in
    same_Some _ _ (sym (first_has r rs e) ∙ same r.first ∙ subst (λ (k : ℕ). row_value (s ∷ ss) k ≡ Some s.value) (sym first) (first_has s ss f))

not_shorter : (r s : InputRow) (rs ss : List InputRow) → are_rows (r ∷ rs) ≡ true → are_rows (s ∷ ss) ≡ true → SameRows (r ∷ rs) (s ∷ ss) → r.last < s.last → ⊥
not_shorter r s rs ss e f same h =
    let first = same_first r s rs ss e f same in
    let value = same_value r s rs ss e f same in
    let order = (rows_parts r rs e).ordered in
    (rows_behind r rs e).other (
    sym (row_past r rs (r.last + 1) (has_behind r (r.last + 1) (omega arith)))
    ∙ same (r.last + 1)
    ∙ row_at s ss (r.last + 1) (has_yes s (r.last + 1) (omega arith) (omega arith))
    ∙ ap Some (sym value)
    )

same_last : (r s : InputRow) (rs ss : List InputRow) → are_rows (r ∷ rs) ≡ true → are_rows (s ∷ ss) ≡ true → SameRows (r ∷ rs) (s ∷ ss) → r.last ≡ s.last
same_last r s rs ss e f same = neither_less r.last s.last (not_shorter r s rs ss e f same) (not_shorter s r ss rs f e (λ n. sym (same n)))

same_others : (r s : InputRow) (rs ss : List InputRow) → are_rows (r ∷ rs) ≡ true → are_rows (s ∷ ss) ≡ true → SameRows (r ∷ rs) (s ∷ ss) → SameRows rs ss
same_others r s rs ss e f same n = at (cases_lt r.last n)
  where
    last : r.last ≡ s.last
    last = same_last r s rs ss e f same

    at : (r.last < n) ⊎ (n ≤ r.last) → row_value rs n ≡ row_value ss n
    at (inl h) = sym (row_past r rs n (has_behind r n h)) ∙ same n ∙ row_past s ss n (has_behind s n (omega (arith, last)))
    at (inr h) = (rows_behind r rs e).free n h ∙ sym ((rows_behind s ss f).free n (omega (arith, last)))

abbrev pub row : ℕ → ℕ → Tree → InputRow
row a b v = record { first = a; last = b; value = v }

one_row : (r s : InputRow) → r.first ≡ s.first → r.last ≡ s.last → r.value ≡ s.value → r ≡ s
one_row r s a b c = ap (λ k. row k r.last r.value) a ∙ ap (λ k. row s.first k r.value) b ∙ ap (λ t. row s.first s.last t) c

pub one_rows : (rs ss : List InputRow) → are_rows rs ≡ true → are_rows ss ≡ true → ((n : ℕ) → row_value rs n ≡ row_value ss n) → rs ≡ ss
one_rows [] [] e f same = refl
one_rows [] (s ∷ ss) e f same = absurd (no_rows s ss f same)
one_rows (r ∷ rs) [] e f same = absurd (no_rows r rs e (λ n. sym (same n)))
one_rows (r ∷ rs) (s ∷ ss) e f same =
    let row : r ≡ s = one_row r s (same_first r s rs ss e f same) (same_last r s rs ss e f same) (same_value r s rs ss e f same) in
    let others : rs ≡ ss = one_rows rs ss (rows_parts r rs e).others (rows_parts s ss f).others (same_others r s rs ss e f same) in
    cc

-- ---- ports

-- what a port says, in a state or in the others
pub record SaysAlike (p q : InputPort) : Type 0 where
  pub rows : (n : ℕ) → row_value p.rows n ≡ row_value q.rows n
  pub default : p.default ≡ q.default

pub record ArePorts (p : InputPort) (ps : InputTable) : Type 0 where
  pub rows : are_rows p.rows ≡ true
  pub told : is_told p ≡ true
  pub others : are_ports ps ≡ true

pub ports_parts : (p : InputPort) (ps : InputTable) → are_ports (p ∷ ps) ≡ true → ArePorts p ps
ports_parts p ps e =
    let both = and_parts (are_rows p.rows) (is_told p && are_ports ps) e in
    let more = and_parts (is_told p) (are_ports ps) both.1 in
    record { rows = both.0; told = more.0; others = more.1 }

pub ports_from : (p : InputPort) (ps : InputTable) → are_rows p.rows ≡ true → is_told p ≡ true → are_ports ps ≡ true → are_ports (p ∷ ps) ≡ true
ports_from p ps a b c = and_from (are_rows p.rows) _ a (and_from (is_told p) (are_ports ps) b c)

abbrev pub names : InputTable → List (List ℕ)
names t = map (λ p. p.port) t

abbrev pub cmp : List ℕ → List ℕ → Ordering
cmp = slice_cmp nat_cmp

pub same_name : (q k : List ℕ) → bytes_eq q k ≡ true → q ≡ k
same_name q k e = (bytes_eq-Decides q k).0 e

pub name_is : (k : List ℕ) → bytes_eq k k ≡ true
name_is k = (bytes_eq-Decides k k).1 refl

pub other_name : (q k : List ℕ) → (q ≡ k → ⊥) → bytes_eq q k ≡ false
other_name q k apart = at (cases_Bool (bytes_eq q k))
  where
    at : (bytes_eq q k ≡ true) ⊎ (bytes_eq q k ≡ false) → bytes_eq q k ≡ false
    at (inl e) = absurd (apart (same_name q k e))
    at (inr e) = e

cmp_self : (k : List ℕ) → cmp k k ≡ Equal
cmp_self k = by (cmp k k) refl (nat_list_cmp_total.antisymm k k)
  where
    by : (o : Ordering) → cmp k k ≡ o → cmp k k ≡ ordering_reverse (cmp k k) → cmp k k ≡ Equal
    by Less e f = let bad : Less ≡ Greater = sym e ∙ f ∙ ap ordering_reverse e in absurd cc
    by Equal e f = e
    by Greater e f = let bad : Greater ≡ Less = sym e ∙ f ∙ ap ordering_reverse e in absurd cc

pub below_apart : (q k : List ℕ) → cmp q k ≡ Less → q ≡ k → ⊥
below_apart q k less e = let bad : Less ≡ Equal = sym (subst (λ z. cmp q z ≡ Less) (sym e) less) ∙ cmp_self q in cc

pub port_here : (p : InputPort) (ps : InputTable) (q : List ℕ) → q ≡ p.port → port_of (p ∷ ps) q ≡ Some p
port_here p ps q e = let h : bytes_eq q p.port ≡ true = (bytes_eq-Decides q p.port).1 e in rw h refl

pub port_past : (p : InputPort) (ps : InputTable) (q : List ℕ) → (q ≡ p.port → ⊥) → port_of (p ∷ ps) q ≡ port_of ps q
port_past p ps q apart = let h = other_name q p.port apart in rw h refl

-- a name before each name is no name of the table
pub no_port : (t : InputTable) (q : List ℕ) → AllByRecursion (λ k. cmp q k ≡ Less) (names t) → port_of t q ≡ None
no_port [] q h = refl
no_port (p ∷ ps) q h = port_past p ps q (below_apart q p.port h.0) ∙ no_port ps q h.1

pub all_later : (q k : List ℕ) (ks : List (List ℕ)) → cmp q k ≡ Less → AllByRecursion (λ m. cmp k m ≡ Less) ks → AllByRecursion (λ m. cmp q m ≡ Less) ks
all_later q k [] e h = tt
all_later q k (m ∷ ks) e h = (nat_list_cmp_total.trans q k m e h.0, all_later q k ks e h.1)

-- what a table says, at a name
pub range_at : (t : InputTable) (n : ℕ) (q : List ℕ) (o : Option InputPort) → port_of t q ≡ o → range_value t n q ≡ option_and_then (λ p. row_value p.rows n) o
range_at t n q o e = ap (option_and_then (λ p. row_value p.rows n)) e

pub default_at : (t : InputTable) (q : List ℕ) (o : Option InputPort) → port_of t q ≡ o → default_value t q ≡ option_and_then (λ p. p.default) o
default_at t q o e = ap (option_and_then (λ p. p.default)) e

pub record SaySame (t u : InputTable) : Type 0 where
  pub ranges : (n : ℕ) (q : List ℕ) → range_value t n q ≡ range_value u n q
  pub defaults : (q : List ℕ) → default_value t q ≡ default_value u q

says_back : (t u : InputTable) → SaySame t u → SaySame u t
says_back t u h = record { ranges = λ n q. sym (h.ranges n q); defaults = λ q. sym (h.defaults q) }

-- something is said of a port
told_not_none : (p : InputPort) → are_rows p.rows ≡ true → is_told p ≡ true → ((n : ℕ) → row_value p.rows n ≡ None) → p.default ≡ None → ⊥
told_not_none p e told rows default = by p.rows p.default refl refl
  where
    by : (rs : List InputRow) (d : Option Tree) → p.rows ≡ rs → p.default ≡ d → ⊥
    by [] None f g = let bad : (nat_lt 0 (length p.rows) || is_some p.default) ≡ false = rw (f, g) refl in both_ways _ bad told
    by rs (Some v) f g = let bad : Some v ≡ None = sym g ∙ default in cc
    by (r ∷ rs) None f g =
        let is : are_rows (r ∷ rs) ≡ true = subst (λ (z : List InputRow). are_rows z ≡ true) f e in
        let none : row_value (r ∷ rs) r.first ≡ None = subst (λ (z : List InputRow). row_value z r.first ≡ None) f (rows r.first) in
        let bad : Some r.value ≡ None = sym (first_has r rs is) ∙ none in
        cc

not_missing : (p : InputPort) (ps u : InputTable) → are_ports (p ∷ ps) ≡ true → SaySame (p ∷ ps) u → port_of u p.port ≡ None → ⊥
not_missing p ps u e same none =
    let is = ports_parts p ps e in
    let here = port_here p ps p.port refl in
    told_not_none p is.rows is.told
    (λ n. sym (range_at (p ∷ ps) n p.port (Some p) here) ∙ same.ranges n p.port ∙ range_at u n p.port None none)
    (sym (default_at (p ∷ ps) p.port (Some p) here) ∙ same.defaults p.port ∙ default_at u p.port None none)

pub later : (p : InputPort) (ps : InputTable) → IsCanonical (p ∷ ps) → AllByRecursion (λ m. cmp p.port m ≡ Less) (names ps)
later p ps is = sorted_head cmp p.port (names ps) is.ordered

same_names : (p q : InputPort) (ps qs : InputTable) → IsCanonical (p ∷ ps) → IsCanonical (q ∷ qs) → SaySame (p ∷ ps) (q ∷ qs) → p.port ≡ q.port
same_names p q ps qs is js same = by (cmp p.port q.port) refl (nat_list_cmp_total.antisymm q.port p.port)
  where
    by : (o : Ordering) → cmp p.port q.port ≡ o → cmp q.port p.port ≡ ordering_reverse (cmp p.port q.port) → p.port ≡ q.port
    by Less e f = absurd (not_missing p ps (q ∷ qs) is.ports same (no_port (q ∷ qs) p.port (e, all_later p.port q.port (names qs) e (later q qs js))))
    by Equal e f = exact_bytes p.port q.port e
    by Greater e f =
        let less : cmp q.port p.port ≡ Less = f ∙ ap ordering_reverse e in
        absurd (not_missing q qs (p ∷ ps) js.ports (says_back (p ∷ ps) (q ∷ qs) same) (no_port (p ∷ ps) q.port (less, all_later q.port p.port (names ps) less (later p ps is))))

abbrev pub input_port : List ℕ → List InputRow → Option Tree → InputPort
input_port k rs d = record { port = k; rows = rs; default = d }

one_port : (p q : InputPort) → p.port ≡ q.port → p.rows ≡ q.rows → p.default ≡ q.default → p ≡ q
one_port p q a b c = ap (λ k. input_port k p.rows p.default) a ∙ ap (λ rs. input_port q.port rs p.default) b ∙ ap (λ d. input_port q.port q.rows d) c

pub rest_canonical : (p : InputPort) (ps : InputTable) → IsCanonical (p ∷ ps) → IsCanonical ps
rest_canonical p ps is = record { ordered = sorted_tail cmp p.port (names ps) is.ordered; ports = (ports_parts p ps is.ports).others }

same_port : (p q : InputPort) (ps qs : InputTable) → IsCanonical (p ∷ ps) → IsCanonical (q ∷ qs) → p.port ≡ q.port → SaySame (p ∷ ps) (q ∷ qs) → p ≡ q
same_port p q ps qs is js e same =
    let k = p.port in
    let here = port_here p ps k refl in
    let there = port_here q qs k e in
    one_port p q e
    (one_rows p.rows q.rows (ports_parts p ps is.ports).rows (ports_parts q qs js.ports).rows
    (λ n. sym (range_at (p ∷ ps) n k (Some p) here) ∙ same.ranges n k ∙ range_at (q ∷ qs) n k (Some q) there))
    (sym (default_at (p ∷ ps) k (Some p) here) ∙ same.defaults k ∙ default_at (q ∷ qs) k (Some q) there)

same_rest : (p q : InputPort) (ps qs : InputTable) → IsCanonical (p ∷ ps) → IsCanonical (q ∷ qs) → p.port ≡ q.port → SaySame (p ∷ ps) (q ∷ qs) → SaySame ps qs
same_rest p q ps qs is js e same = record { ranges = λ n k. range n k (cases_Bool (bytes_eq k p.port)); defaults = λ k. default k (cases_Bool (bytes_eq k p.port)) }
  where
    absent : (k : List ℕ) → bytes_eq k p.port ≡ true → port_of ps k ≡ None
    absent k h = no_port ps k (subst (λ z. AllByRecursion (λ m. cmp z m ≡ Less) (names ps)) (sym (same_name k p.port h)) (later p ps is))

    missing : (k : List ℕ) → bytes_eq k p.port ≡ true → port_of qs k ≡ None
    missing k h = no_port qs k (subst (λ z. AllByRecursion (λ m. cmp z m ≡ Less) (names qs)) (sym (same_name k p.port h ∙ e)) (later q qs js))

    apart : (k : List ℕ) → bytes_eq k p.port ≡ false → bytes_eq k q.port ≡ false
    apart k h = subst (λ z. bytes_eq k z ≡ false) e h

    range : (n : ℕ) (k : List ℕ) → (bytes_eq k p.port ≡ true) ⊎ (bytes_eq k p.port ≡ false) → range_value ps n k ≡ range_value qs n k
    range n k (inl h) = range_at ps n k None (absent k h) ∙ sym (range_at qs n k None (missing k h))
    range n k (inr h) =
        let here : range_value (p ∷ ps) n k ≡ range_value ps n k = rw h refl in
        let there : range_value (q ∷ qs) n k ≡ range_value qs n k = let g = apart k h in rw g refl in
        sym here ∙ same.ranges n k ∙ there

    default : (k : List ℕ) → (bytes_eq k p.port ≡ true) ⊎ (bytes_eq k p.port ≡ false) → default_value ps k ≡ default_value qs k
    default k (inl h) = default_at ps k None (absent k h) ∙ sym (default_at qs k None (missing k h))
    default k (inr h) =
        let here : default_value (p ∷ ps) k ≡ default_value ps k = rw h refl in
        let there : default_value (q ∷ qs) k ≡ default_value qs k = let g = apart k h in rw g refl in
        sym here ∙ same.defaults k ∙ there

pub none_canonical : IsCanonical []
unfolding IsStrictlySortedBy
none_canonical = record { ordered = tt; ports = refl }

-- canonical tables that say the same are one
pub one_canonical : (t u : InputTable) → IsCanonical t → IsCanonical u → SaySame t u → t ≡ u
one_canonical [] [] is js same = refl
one_canonical [] (q ∷ qs) is js same = absurd (not_missing q qs [] js.ports (says_back [] (q ∷ qs) same) refl)
one_canonical (p ∷ ps) [] is js same = absurd (not_missing p ps [] is.ports same refl)
one_canonical (p ∷ ps) (q ∷ qs) is js same =
    let e = same_names p q ps qs is js same in
    let port : p ≡ q = same_port p q ps qs is js e same in
    let rest : ps ≡ qs = one_canonical ps qs (rest_canonical p ps is) (rest_canonical q qs js) (same_rest p q ps qs is js e same) in
    cc

-- what is added makes one table
pub one_given : (span : Span) (port : List ℕ) (value : Tree) (t u v : InputTable) → GivesValue span port value t u → GivesValue span port value t v → u ≡ v
one_given span port value t u v a b = one_canonical u v a.canonical b.canonical (record { ranges = λ n q. a.ranges n q ∙ sym (b.ranges n q); defaults = λ q. a.defaults q ∙ sym (b.defaults q) })
