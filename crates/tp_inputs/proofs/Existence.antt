-- What a line says can be added to each table: there is a table in its one form that says it besides.
use Rattle.std.proofs.Common.{refl, ap, sym, subst, ◌∙◌, ◌≡◌, ℕ, ◌+◌, ◌<◌, ◌≤◌, ◌==◌, inl, inr, ◌⊎◌, Bool, true, false, ◌&&◌, ◌||◌, nat_le, nat_lt, List, [], ◌∷◌, length, Option, Some, None, Ordering, Less, Equal, Greater, arith}
use Rattle.std.specs.Prelude.{if◌then◌else◌}
use Rattle.std.specs.List.{AllByRecursion}
use Rattle.std.specs.List.Sorted.{IsStrictlySortedBy}
use Rattle.std.specs.Ordering.{ordering_reverse}
use Rattle.std.specs.Str.{bytes_eq}
use Rattle.std.specs.Option.{option_and_then}
use Rattle.std.proofs.lemmas.Bool.{cases_Bool, cases_lt, and_from, and_left, and_right, both_ways, le-leb, lt-leb, lt-ltb, eq-eqb, eqb-true}
use Rattle.std.proofs.lemmas.Option.{same_Some}
use Rattle.std.proofs.lemmas.Cmp.{nat_list_cmp_total}
use Rattle.std.proofs.lemmas.Map.Lookups.{exact_bytes}
use Rattle.tp_value.specs.Tree.{Tree, same_tree}
use Rattle.tp_value.proofs.Trees.{same_tree_is_equality}
use Rattle.tp_meaning.specs.Inputs.{InputRow, InputPort, InputTable, has_state, row_value, port_of, range_value, default_value}
use Rattle.tp_inputs.specs.declared.span.Span.{Span}
use Rattle.tp_inputs.specs.declared.span.Span.TheVariants.{States, Others}
use Rattle.tp_inputs.specs.Spans.{are_rows, is_told, IsCanonical, span_has, is_others, rows_meet, port_meets, is_given, GivesValue}
use Rattle.tp_inputs.specs.Moves.{GivesRows, GivesPort}
use Rattle.tp_inputs.proofs.HeadLemmas.{IsOrdered}
use Rattle.tp_inputs.proofs.CanonicalLemmas.{has_yes, has_before, has_behind, row_at, row_past, rows_parts, rows_from, none_before, Behind, behind_ahead, rows_behind, first_has, row, ports_parts, ports_from, names, cmp, same_name, later, port_here, port_past, all_later, below_apart, range_at, default_at, rest_canonical, input_port}

-- ---- rows

-- no row has a state from a to b
abbrev pub Free : List InputRow → ℕ → ℕ → Type 0
Free rs a b = (n : ℕ) → a ≤ n → n ≤ b → row_value rs n ≡ None

no_meeting : (x y : Bool) → (x || y) ≡ false → (x ≡ false) × (y ≡ false)
no_meeting true y e = absurd cc
no_meeting false y e = (refl, e)

pub free_rows : (rs : List InputRow) (a b : ℕ) → rows_meet rs a b ≡ false → Free rs a b
free_rows [] a b e n low high = refl
free_rows (r ∷ rs) a b e n low high =
    let both = no_meeting (nat_le r.first b && nat_le a r.last) (rows_meet rs a b) e in
    row_past r rs n (at both.0 (cases_lt n r.first) (cases_lt r.last n)) ∙ free_rows rs a b both.1 n low high
  where
    at : (nat_le r.first b && nat_le a r.last) ≡ false → (n < r.first) ⊎ (r.first ≤ n) → (r.last < n) ⊎ (n ≤ r.last) → has_state r n ≡ false
    at apart (inl h) k = has_before r n h
    at apart (inr h) (inl k) = has_behind r n k
    at apart (inr h) (inr k) = absurd (both_ways _ apart (and_from (nat_le r.first b) (nat_le a r.last) (le-leb r.first b (omega arith)) (le-leb a r.last (omega arith))))

-- the states from a to b, and the others
abbrev pub inside : ℕ → ℕ → ℕ → Bool
inside a b n = nat_le a n && nat_le n b

is_inside : (a b n : ℕ) → a ≤ n → n ≤ b → inside a b n ≡ true
is_inside a b n low high = and_from (nat_le a n) (nat_le n b) (le-leb a n low) (le-leb n b high)

is_below : (a b n : ℕ) → n < a → inside a b n ≡ false
is_below a b n h = and_left (nat_le a n) (nat_le n b) (lt-leb a n h)

is_above : (a b n : ℕ) → b < n → inside a b n ≡ false
is_above a b n h = and_right (nat_le a n) (nat_le n b) (lt-leb n b h)

abbrev added_value : ℕ → ℕ → Tree → List InputRow → ℕ → Option Tree
added_value a b v rs n = if inside a b n then Some v else row_value rs n

added_inside : (a b : ℕ) (v : Tree) (rs : List InputRow) (n : ℕ) → a ≤ n → n ≤ b → added_value a b v rs n ≡ Some v
added_inside a b v rs n low high = let h = is_inside a b n low high in rw h refl

added_below : (a b : ℕ) (v : Tree) (rs : List InputRow) (n : ℕ) → n < a → added_value a b v rs n ≡ row_value rs n
added_below a b v rs n k = let h = is_below a b n k in rw h refl

added_above : (a b : ℕ) (v : Tree) (rs : List InputRow) (n : ℕ) → b < n → added_value a b v rs n ≡ row_value rs n
added_above a b v rs n k = let h = is_above a b n k in rw h refl

-- where a state is: before the range, in it, or behind it
data Place (a b n : ℕ) : Type 0 where
  before : n < a → Place a b n
  within : a ≤ n → n ≤ b → Place a b n
  behind : a ≤ n → b < n → Place a b n

place : (a b n : ℕ) → Place a b n
place a b n = by (cases_lt n a) (cases_lt b n)
  where
    by : (n < a) ⊎ (a ≤ n) → (b < n) ⊎ (n ≤ b) → Place a b n
    by (inl h) k = before h
    by (inr h) (inl k) = behind h k
    by (inr h) (inr k) = within h k

abbrev AddsRows : ℕ → ℕ → Tree → List InputRow → Type 0
AddsRows a b v rs = (more : List InputRow) × GivesRows a b v rs more

-- in front of rows that are behind
put_front : (a b : ℕ) (v : Tree) (rs : List InputRow) → a ≤ b → are_rows rs ≡ true → Behind b v rs → GivesRows a b v rs (row a b v ∷ rs)
put_front a b v rs order e is = record { apart = rows_from (row a b v) rs order (behind_ahead (row a b v) rs e is) e; has = λ n. refl }

-- in front of rows of which the first goes on with the same value
join_front : (a b : ℕ) (r : InputRow) (rs : List InputRow) → a ≤ b → are_rows (r ∷ rs) ≡ true → b + 1 ≡ r.first → GivesRows a b r.value (r ∷ rs) (row a r.last r.value ∷ rs)
join_front a b r rs order e next = record {
  apart = rows_from (row a r.last r.value) rs (omega (arith, (rows_parts r rs e).ordered)) (behind_ahead (row a r.last r.value) rs (rows_parts r rs e).others (rows_behind r rs e)) (rows_parts r rs e).others;
  has = λ n. at n (place a b n) (place r.first r.last n);
}
  where
    at : (n : ℕ) → Place a b n → Place r.first r.last n → row_value (row a r.last r.value ∷ rs) n ≡ added_value a b r.value (r ∷ rs) n
    at n (before h) p = row_past (row a r.last r.value) rs n (has_before (row a r.last r.value) n h) ∙ sym (added_below a b r.value (r ∷ rs) n h ∙ row_past r rs n (has_before r n (omega arith)))
    at n (within h k) p = row_at (row a r.last r.value) rs n (has_yes (row a r.last r.value) n h (omega (arith, (rows_parts r rs e).ordered))) ∙ sym (added_inside a b r.value (r ∷ rs) n h k)
    at n (behind h k) (before p) = absurd (omega arith)
    at n (behind h k) (within p q) = row_at (row a r.last r.value) rs n (has_yes (row a r.last r.value) n h q) ∙ sym (added_above a b r.value (r ∷ rs) n k ∙ row_at r rs n (has_yes r n p q))
    at n (behind h k) (behind p q) = row_past (row a r.last r.value) rs n (has_behind (row a r.last r.value) n q) ∙ sym (added_above a b r.value (r ∷ rs) n k ∙ row_past r rs n (has_behind r n q))

-- behind a row that stays
keep_first : (a b : ℕ) (v : Tree) (r : InputRow) (rs more : List InputRow) → a ≤ b → are_rows (r ∷ rs) ≡ true → r.last < a → (r.last + 1 ≡ a → r.value ≡ v → ⊥) → GivesRows a b v rs more
    → GivesRows a b v (r ∷ rs) (r ∷ more)
keep_first a b v r rs more order e low apart below = record {
  apart = rows_from r more (rows_parts r rs e).ordered (behind_ahead r more below.apart (record { free = free; other = λ x. other x (place a b (r.last + 1)) })) below.apart;
  has = λ n. at n (place a b n) (cases_Bool (has_state r n));
}
  where
    free : (n : ℕ) → n ≤ r.last → row_value more n ≡ None
    free n h = below.has n ∙ added_below a b v rs n (omega arith) ∙ (rows_behind r rs e).free n h

    other : row_value more (r.last + 1) ≡ Some r.value → Place a b (r.last + 1) → ⊥
    other x (before h) = (rows_behind r rs e).other (sym (below.has (r.last + 1) ∙ added_below a b v rs (r.last + 1) h) ∙ x)
    other x (within h k) = apart (omega arith) (same_Some _ _ (sym x ∙ below.has (r.last + 1) ∙ added_inside a b v rs (r.last + 1) h k))
    other x (behind h k) = absurd (omega arith)

    at : (n : ℕ) → Place a b n → (has_state r n ≡ true) ⊎ (has_state r n ≡ false) → row_value (r ∷ more) n ≡ added_value a b v (r ∷ rs) n
    at n (within h k) p =
        row_past r more n (has_behind r n (omega arith))
        ∙ below.has n
        ∙ added_inside a b v rs n h k
        ∙ sym (added_inside a b v (r ∷ rs) n h k)
    at n (before h) (inl p) = row_at r more n p ∙ sym (added_below a b v (r ∷ rs) n h ∙ row_at r rs n p)
    at n (before h) (inr p) = row_past r more n p ∙ below.has n ∙ added_below a b v rs n h ∙ sym (added_below a b v (r ∷ rs) n h ∙ row_past r rs n p)
    at n (behind h k) (inl p) = row_at r more n p ∙ sym (added_above a b v (r ∷ rs) n k ∙ row_at r rs n p)
    at n (behind h k) (inr p) = row_past r more n p ∙ below.has n ∙ added_above a b v rs n k ∙ sym (added_above a b v (r ∷ rs) n k ∙ row_past r rs n p)

-- the first row goes on with the same value
extend_first : (a b : ℕ) (r : InputRow) (rs more : List InputRow) → a ≤ b → are_rows (r ∷ rs) ≡ true → r.last + 1 ≡ a → GivesRows r.first b r.value rs more → GivesRows a b r.value (r ∷ rs) more
extend_first a b r rs more order e next below = record { apart = below.apart; has = λ n. below.has n ∙ at n (place a b n) (place r.first r.last n) }
  where
    ordered : r.first ≤ r.last
    ordered = (rows_parts r rs e).ordered

    at : (n : ℕ) → Place a b n → Place r.first r.last n → added_value r.first b r.value rs n ≡ added_value a b r.value (r ∷ rs) n
    at n (before h) (before p) = added_below r.first b r.value rs n p ∙ sym (added_below a b r.value (r ∷ rs) n h ∙ row_past r rs n (has_before r n p))
    at n (before h) (within p q) = added_inside r.first b r.value rs n p (omega arith) ∙ sym (added_below a b r.value (r ∷ rs) n h ∙ row_at r rs n (has_yes r n p q))
    at n (before h) (behind p q) = absurd (omega arith)
    at n (within h k) p = added_inside r.first b r.value rs n (omega (arith, ordered)) k ∙ sym (added_inside a b r.value (r ∷ rs) n h k)
    at n (behind h k) p = added_above r.first b r.value rs n k ∙ sym (added_above a b r.value (r ∷ rs) n k ∙ row_past r rs n (has_behind r n (omega arith)))

-- a row with no state from a to b is before them or behind
row_apart : (r : InputRow) (rs : List InputRow) (a b : ℕ) → a ≤ b → are_rows (r ∷ rs) ≡ true → Free (r ∷ rs) a b → (r.last < a) ⊎ (b < r.first)
row_apart r rs a b order e free = by (cases_lt r.last a) (cases_lt b r.first) (cases_lt a r.first)
  where
    not_at : (n : ℕ) → a ≤ n → n ≤ b → r.first ≤ n → n ≤ r.last → ⊥
    not_at n low high p q = let bad : None ≡ Some r.value = sym (free n low high) ∙ row_at r rs n (has_yes r n p q) in cc

    by : (r.last < a) ⊎ (a ≤ r.last) → (b < r.first) ⊎ (r.first ≤ b) → (a < r.first) ⊎ (r.first ≤ a) → (r.last < a) ⊎ (b < r.first)
    by (inl h) k m = inl h
    by (inr h) (inl k) m = inr k
    by (inr h) (inr k) (inl m) = absurd (not_at r.first (omega arith) k (omega arith) (rows_parts r rs e).ordered)
    by (inr h) (inr k) (inr m) = absurd (not_at a (omega arith) order m h)

free_others : (r : InputRow) (rs : List InputRow) (a b : ℕ) → are_rows (r ∷ rs) ≡ true → Free (r ∷ rs) a b → r.last < a → Free rs a b
free_others r rs a b e free low n h k = sym (row_past r rs n (has_behind r n (omega arith))) ∙ free n h k

free_from : (r : InputRow) (rs : List InputRow) (a b : ℕ) → are_rows (r ∷ rs) ≡ true → Free (r ∷ rs) a b → r.last + 1 ≡ a → Free rs r.first b
free_from r rs a b e free next n h k = by (cases_lt r.last n)
  where
    by : (r.last < n) ⊎ (n ≤ r.last) → row_value rs n ≡ None
    by (inl m) = free_others r rs a b e free (omega arith) n (omega arith) k
    by (inr m) = (rows_behind r rs e).free n m

-- whether two numbers and two trees are the same
both_same : (m n : ℕ) (s t : Tree) → ((m ≡ n) × (s ≡ t)) ⊎ (m ≡ n → s ≡ t → ⊥)
both_same m n s t = by (cases_Bool (m == n)) (cases_Bool (same_tree s t))
  where
    by : ((m == n) ≡ true) ⊎ ((m == n) ≡ false) → (same_tree s t ≡ true) ⊎ (same_tree s t ≡ false) → ((m ≡ n) × (s ≡ t)) ⊎ (m ≡ n → s ≡ t → ⊥)
    by (inl x) (inl y) = inl (eqb-true m n x, (same_tree_is_equality s t).0 y)
    by (inr x) y = inr (λ e f. both_ways _ x (eq-eqb m n e))
    by (inl x) (inr y) = inr (λ e f. both_ways _ y ((same_tree_is_equality s t).1 f))

front : (a b : ℕ) (v : Tree) (r : InputRow) (rs : List InputRow) → a ≤ b → are_rows (r ∷ rs) ≡ true → b < r.first → AddsRows a b v (r ∷ rs)
front a b v r rs order e high = by (both_same (b + 1) r.first r.value v)
  where
    by : ((b + 1 ≡ r.first) × (r.value ≡ v)) ⊎ (b + 1 ≡ r.first → r.value ≡ v → ⊥) → AddsRows a b v (r ∷ rs)
    by (inl same) = (row a r.last r.value ∷ rs, subst (λ (t : Tree). GivesRows a b t (r ∷ rs) (row a r.last r.value ∷ rs)) same.1 (join_front a b r rs order e same.0))
    by (inr apart) = (row a b v ∷ r ∷ rs, put_front a b v (r ∷ rs) order e (record { free = λ n h. none_before r rs n e (omega arith); other = λ x. other x (cases_lt (b + 1) r.first) }))
      where
        other : row_value (r ∷ rs) (b + 1) ≡ Some v → (b + 1 < r.first) ⊎ (r.first ≤ b + 1) → ⊥
        other x (inl h) = let bad : None ≡ Some v = sym (none_before r rs (b + 1) e h) ∙ x in cc
        other x (inr h) =
            let next : b + 1 ≡ r.first = omega arith in
            apart next (same_Some _ _ (sym (first_has r rs e) ∙ subst (λ (k : ℕ). row_value (r ∷ rs) k ≡ Some v) next x))

add_on : (a b : ℕ) (v : Tree) (r : InputRow) (rs : List InputRow) → a ≤ b → are_rows (r ∷ rs) ≡ true → Free (r ∷ rs) a b → ((k : ℕ) (t : Tree) → k ≤ b → Free rs k b → AddsRows k b t rs) → AddsRows a b v (r ∷ rs)
add_on a b v r rs order e free below = by (row_apart r rs a b order e free) (both_same (r.last + 1) a r.value v)
  where
    by : (r.last < a) ⊎ (b < r.first) → ((r.last + 1 ≡ a) × (r.value ≡ v)) ⊎ (r.last + 1 ≡ a → r.value ≡ v → ⊥) → AddsRows a b v (r ∷ rs)
    by (inr high) same = front a b v r rs order e high
    by (inl low) (inl same) =
        let ordered = (rows_parts r rs e).ordered in
        let added = below r.first r.value (omega (arith, same.0)) (free_from r rs a b e free same.0) in
        (added.0, subst (λ (t : Tree). GivesRows a b t (r ∷ rs) added.0) same.1 (extend_first a b r rs added.0 order e same.0 added.1))
    by (inl low) (inr apart) =
        let added = below a v order (free_others r rs a b e free low) in
        (r ∷ added.0, keep_first a b v r rs added.0 order e low apart added.1)

pub add_rows : (a b : ℕ) (v : Tree) (rs : List InputRow) → a ≤ b → are_rows rs ≡ true → Free rs a b → AddsRows a b v rs
add_rows a b v [] order e free = (row a b v ∷ [], put_front a b v [] order refl (record { free = λ n h. refl; other = λ x. cc }))
add_rows a b v (r ∷ rs) order e free = add_on a b v r rs order e free (λ k t low apart. add_rows k b t rs low (rows_parts r rs e).others apart)

-- ---- a port

-- what is said of a port, if anything is
abbrev pub port_or : List ℕ → Option InputPort → InputPort
port_or k None = input_port k [] None
port_or k (Some p) = p

abbrev AddsPort : Span → Tree → InputPort → Type 0
AddsPort span v p = (q : InputPort) × GivesPort span v p q × (q.port ≡ p.port)

some_rows : (rs : List InputRow) (n : ℕ) (v : Tree) → row_value rs n ≡ Some v → nat_lt 0 (length rs) ≡ true
some_rows [] n v e = absurd cc
some_rows (r ∷ rs) n v e = lt-ltb 0 (length (r ∷ rs)) (omega arith)

told_rows : (p : InputPort) → nat_lt 0 (length p.rows) ≡ true → is_told p ≡ true
told_rows p e = rw e refl

told_default : (k : List ℕ) (rs : List InputRow) (v : Tree) → is_told (input_port k rs (Some v)) ≡ true
told_default k rs v = by (nat_lt 0 (length rs))
  where
    by : (x : Bool) → (x || true) ≡ true
    by true = refl
    by false = refl

add_port : (span : Span) (v : Tree) (p : InputPort) → IsOrdered span → are_rows p.rows ≡ true → port_meets (Some p) span ≡ false → AddsPort span v p
add_port (States a b) v p order e free =
    let added = add_rows a b v p.rows order e (free_rows p.rows a b free) in
    let here : row_value added.0 a ≡ Some v = added.1.has a ∙ added_inside a b v p.rows a (omega arith) order in
    let q = input_port p.port added.0 p.default in
    (q, record { apart = added.1.apart; told = told_rows q (some_rows added.0 a v here); has = added.1.has; default = refl }, refl)
add_port Others v p order e free = (input_port p.port p.rows (Some v), record { apart = e; told = told_default p.port p.rows v; has = λ n. refl; default = refl }, refl)

-- ---- a table

sorted_cons : (k : List ℕ) (ks : List (List ℕ)) → AllByRecursion (λ m. cmp k m ≡ Less) ks → IsStrictlySortedBy cmp ks → IsStrictlySortedBy cmp (k ∷ ks)
unfolding IsStrictlySortedBy
sorted_cons k ks a b = (a, b)

-- the second table has this port, and else what the first has
record HasPort (q : InputPort) (t u : InputTable) : Type 0 where
  canonical : IsCanonical u
  within : (k : List ℕ) → cmp k q.port ≡ Less → AllByRecursion (λ m. cmp k m ≡ Less) (names t) → AllByRecursion (λ m. cmp k m ≡ Less) (names u)
  here : port_of u q.port ≡ Some q
  others : (k : List ℕ) → bytes_eq k q.port ≡ false → port_of u k ≡ port_of t k

put_port : (q : InputPort) (t : InputTable) → are_rows q.rows ≡ true → is_told q ≡ true → IsCanonical t → (u : InputTable) × HasPort q t u
put_port q [] e told is = (
  q ∷ [],
  record {
    canonical = record { ordered = sorted_cons q.port [] tt is.ordered; ports = ports_from q [] e told refl };
    within = λ k less all. (less, tt);
    here = port_here q [] q.port refl;
    others = λ k h. rw h refl;
  },
)
put_port q (p ∷ ps) e told is = by (cmp q.port p.port) refl (put_port q ps e told (rest_canonical p ps is))
  where
    by : (o : Ordering) → cmp q.port p.port ≡ o → ((u : InputTable) × HasPort q ps u) → (u : InputTable) × HasPort q (p ∷ ps) u
    by Less o below = (
      q ∷ p ∷ ps,
      record {
        canonical = record { ordered = sorted_cons q.port (names (p ∷ ps)) (o, all_later q.port p.port (names ps) o (later p ps is)) is.ordered; ports = ports_from q (p ∷ ps) e told is.ports };
        within = λ k less all. (less, all);
        here = port_here q (p ∷ ps) q.port refl;
        others = λ k h. rw h refl;
      },
    )
    by Equal o below =
        let same : q.port ≡ p.port = exact_bytes q.port p.port o in (
          q ∷ ps,
          record {
            canonical = record {
              ordered = sorted_cons q.port (names ps) (subst (λ z. AllByRecursion (λ m. cmp z m ≡ Less) (names ps)) (sym same) (later p ps is)) (rest_canonical p ps is).ordered;
              ports = ports_from q ps e told (ports_parts p ps is.ports).others;
            };
            within = λ k less all. (less, all.1);
            here = port_here q ps q.port refl;
            others = λ k h. let g : bytes_eq k p.port ≡ false = subst (λ z. bytes_eq k z ≡ false) same h in rw (h, g) refl;
          },
        )
    by Greater o below =
        let less : cmp p.port q.port ≡ Less = nat_list_cmp_total.antisymm p.port q.port ∙ ap ordering_reverse o in (
          p ∷ below.0,
          record {
            canonical = record {
              ordered = sorted_cons p.port (names below.0) (below.1.within p.port less (later p ps is)) below.1.canonical.ordered;
              ports = ports_from p below.0 (ports_parts p ps is.ports).rows (ports_parts p ps is.ports).told below.1.canonical.ports;
            };
            within = λ k first all. (all.0, below.1.within k first all.1);
            here = port_past p below.0 q.port (λ x. below_apart p.port q.port less (sym x)) ∙ below.1.here;
            others = λ k h. past k (below.1.others k h) (cases_Bool (bytes_eq k p.port));
          },
        )
      where
        past : (k : List ℕ) → port_of below.0 k ≡ port_of ps k → (bytes_eq k p.port ≡ true) ⊎ (bytes_eq k p.port ≡ false) → port_of (p ∷ below.0) k ≡ port_of (p ∷ ps) k
        past k same (inl h) = rw h refl
        past k same (inr h) = rw h same

-- the port that a table has, or none
found_rows : (t : InputTable) (k : List ℕ) → IsCanonical t → are_rows (port_or k (port_of t k)).rows ≡ true
found_rows [] k is = refl
found_rows (p ∷ ps) k is = by (found_rows ps k (rest_canonical p ps is)) (bytes_eq k p.port)
  where
    by : are_rows (port_or k (port_of ps k)).rows ≡ true → (b : Bool) → are_rows (port_or k (if b then Some p else port_of ps k)).rows ≡ true
    by below true = (ports_parts p ps is.ports).rows
    by below false = below

found_name : (t : InputTable) (k : List ℕ) → (port_or k (port_of t k)).port ≡ k
found_name [] k = refl
found_name (p ∷ ps) k = by (found_name ps k) (bytes_eq k p.port) refl
  where
    by : (port_or k (port_of ps k)).port ≡ k → (b : Bool) → bytes_eq k p.port ≡ b → (port_or k (if b then Some p else port_of ps k)).port ≡ k
    by below true e = sym (same_name k p.port e)
    by below false e = below

meets_none : (k : List ℕ) (o : Option InputPort) (span : Span) → port_meets o span ≡ false → port_meets (Some (port_or k o)) span ≡ false
meets_none k None (States a b) e = refl
meets_none k None Others e = refl
meets_none k (Some p) span e = e

old_rows : (k : List ℕ) (o : Option InputPort) (n : ℕ) → row_value (port_or k o).rows n ≡ option_and_then (λ p. row_value p.rows n) o
old_rows k None n = refl
old_rows k (Some p) n = refl

old_default : (k : List ℕ) (o : Option InputPort) → (port_or k o).default ≡ option_and_then (λ p. p.default) o
old_default k None = refl
old_default k (Some p) = refl

table_gives : (span : Span) (k : List ℕ) (v : Tree) (t u : InputTable) (q : InputPort) → q.port ≡ k → GivesPort span v (port_or k (port_of t k)) q → HasPort q t u → GivesValue span k v t u
table_gives span k v t u q name is has = record { canonical = has.canonical; ranges = λ n m. range n m (cases_Bool (bytes_eq m k)); defaults = λ m. default m (cases_Bool (bytes_eq m k)) }
  where
    found : (m : List ℕ) → bytes_eq m k ≡ true → port_of u m ≡ Some q
    found m h = subst (λ z. port_of u z ≡ Some q) (name ∙ sym (same_name m k h)) has.here

    kept : (m : List ℕ) → bytes_eq m k ≡ false → port_of u m ≡ port_of t m
    kept m h = has.others m (subst (λ z. bytes_eq m z ≡ false) (sym name) h)

    range : (n : ℕ) (m : List ℕ) → (bytes_eq m k ≡ true) ⊎ (bytes_eq m k ≡ false) → range_value u n m ≡ (if bytes_eq m k && span_has span n then Some v else range_value t n m)
    range n m (inl h) =
        let old : row_value (port_or k (port_of t k)).rows n ≡ range_value t n m = subst (λ z. row_value (port_or k (port_of t k)).rows n ≡ range_value t n z) (sym (same_name m k h)) (old_rows k (port_of t k) n) in
        range_at u n m (Some q) (found m h) ∙ is.has n ∙ rw (h, old) refl
    range n m (inr h) = range_at u n m (port_of t m) (kept m h) ∙ rw h refl

    default : (m : List ℕ) → (bytes_eq m k ≡ true) ⊎ (bytes_eq m k ≡ false) → default_value u m ≡ (if bytes_eq m k && is_others span then Some v else default_value t m)
    default m (inl h) =
        let old : (port_or k (port_of t k)).default ≡ default_value t m = subst (λ z. (port_or k (port_of t k)).default ≡ default_value t z) (sym (same_name m k h)) (old_default k (port_of t k)) in
        default_at u m (Some q) (found m h) ∙ is.default ∙ rw (h, old) refl
    default m (inr h) = default_at u m (port_of t m) (kept m h) ∙ rw h refl

-- what isn't said so far can be added
pub some_given : (span : Span) (port : List ℕ) (value : Tree) (table : InputTable) → IsOrdered span → IsCanonical table → is_given table span port ≡ false → (more : InputTable) × GivesValue span port value table more
some_given span port value table order is new =
    let old = port_or port (port_of table port) in
    let added = add_port span value old order (found_rows table port is) (meets_none port (port_of table port) span new) in
    let put = put_port added.0 table added.1.apart added.1.told is in
    (put.0, table_gives span port value table put.0 added.0 (added.2 ∙ found_name table port) added.1 put.1)
