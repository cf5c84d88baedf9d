-- Tables in which not each port says something: those of which something is said are a table in its one form.
use Rattle.std.proofs.Common.{refl, ap, sym, subst, ◌∙◌, ◌≡◌, ℕ, ◌<◌, ◌≤◌, inl, inr, ◌⊎◌, Bool, true, false, ◌&&◌, ◌||◌, nat_le, nat_lt, cond, List, [], ◌∷◌, ◌++◌, length, Option, Some, None, Less, arith}
use Rattle.std.specs.List.{AllByRecursion}
use Rattle.std.specs.List.Sorted.{IsStrictlySortedBy}
use Rattle.std.specs.Str.{bytes_eq}
use Rattle.std.specs.Option.{option_and_then}
use Rattle.std.proofs.lemmas.Bool.{cases_Bool, cases_lt, lt-leb, and_right}
use Rattle.std.proofs.lemmas.Bool.Decides.{nat_tests}
use Rattle.std.proofs.lemmas.Map.Keys.{sorted_head, sorted_tail}
use Rattle.tp_value.specs.Tree.{Tree}
use Rattle.tp_meaning.specs.Inputs.{InputRow, InputPort, InputTable, has_state, row_value, port_of, range_value, default_value}
use Rattle.tp_inputs.specs.declared.span.Span.{Span}
use Rattle.tp_inputs.specs.declared.span.Span.TheVariants.{States, Others}
use Rattle.tp_inputs.specs.Spans.{are_rows, is_told, are_ports, IsCanonical, span_has, is_others, rows_meet, port_meets, is_given, GivesValue}
use Rattle.tp_inputs.proofs.CanonicalLemmas.{has_yes, rows_parts, rows_from, rows_behind, ports_parts, ports_from, names, cmp, same_name, name_is, below_apart, port_here, port_past, no_port, range_at, default_at, input_port}

-- ---- the ports of which something is said

abbrev pub told : InputTable → InputTable
told [] = []
told (p ∷ ps) = cond (is_told p) (p ∷ told ps) (told ps)

told_names : (P : List ℕ → Type 0) (ps : InputTable) → AllByRecursion P (names ps) → AllByRecursion P (names (told ps))
told_names P [] h = tt
told_names P (p ∷ ps) h = at (is_told p) (told_names P ps h.1)
  where
    at : (b : Bool) → AllByRecursion P (names (told ps)) → AllByRecursion P (names (cond b (p ∷ told ps) (told ps)))
    at true below = (h.0, below)
    at false below = below

abbrev pub IsOrdered : InputTable → Type 0
IsOrdered ps = IsStrictlySortedBy cmp (names ps)

told_ordered : (ps : InputTable) → IsOrdered ps → IsOrdered (told ps)
unfolding IsStrictlySortedBy
told_ordered [] h = tt
told_ordered (p ∷ ps) h = at (is_told p) (told_ordered ps (sorted_tail cmp p.port (names ps) h))
  where
    at : (b : Bool) → IsOrdered (told ps) → IsOrdered (cond b (p ∷ told ps) (told ps))
    at true below = (told_names (λ k. cmp p.port k ≡ Less) ps (sorted_head cmp p.port (names ps) h), below)
    at false below = below

abbrev pub HaveRows : InputTable → Type 0
HaveRows ps = AllByRecursion (λ p. are_rows p.rows ≡ true) ps

told_ports : (ps : InputTable) → HaveRows ps → are_ports (told ps) ≡ true
told_ports [] h = refl
told_ports (p ∷ ps) h = at (is_told p) refl (told_ports ps h.1)
  where
    at : (b : Bool) → is_told p ≡ b → are_ports (told ps) ≡ true → are_ports (cond b (p ∷ told ps) (told ps)) ≡ true
    at true e below = ports_from p (told ps) h.0 e below
    at false e below = below

pub told_canonical : (ps : InputTable) → IsOrdered ps → HaveRows ps → IsCanonical (told ps)
told_canonical ps h k = record { ordered = told_ordered ps h; ports = told_ports ps k }

-- a table in its one form says something of each port
pub all_told : (ps : InputTable) → are_ports ps ≡ true → told ps ≡ ps
all_told [] e = refl
all_told (p ∷ ps) e = let is = ports_parts p ps e in let said = is.told in rw said (ap (λ qs. p ∷ qs) (all_told ps is.others))

-- ---- one port among others

all_middle : (P : List ℕ → Type 0) (pre : InputTable) (p : InputPort) (post : InputTable) → AllByRecursion P (names (pre ++ p ∷ post)) → P p.port
all_middle P [] p post h = h.0
all_middle P (x ∷ pre) p post h = all_middle P pre p post h.1

-- what is found under its name
pub found_there : (pre : InputTable) (p : InputPort) (post : InputTable) → IsOrdered (pre ++ p ∷ post) → port_of (told (pre ++ p ∷ post)) p.port ≡ cond (is_told p) (Some p) None
found_there [] p post h = at (is_told p)
  where
    at : (b : Bool) → port_of (cond b (p ∷ told post) (told post)) p.port ≡ cond b (Some p) None
    at true = port_here p (told post) p.port refl
    at false = no_port (told post) p.port (told_names (λ k. cmp p.port k ≡ Less) post (sorted_head cmp p.port (names post) h))
found_there (x ∷ pre) p post h = at (is_told x) (found_there pre p post (sorted_tail cmp x.port (names (pre ++ p ∷ post)) h))
  where
    rest : InputTable
    rest = pre ++ p ∷ post

    less : cmp x.port p.port ≡ Less
    less = all_middle (λ k. cmp x.port k ≡ Less) pre p post (sorted_head cmp x.port (names rest) h)

    at : (b : Bool) → port_of (told rest) p.port ≡ cond (is_told p) (Some p) None → port_of (cond b (x ∷ told rest) (told rest)) p.port ≡ cond (is_told p) (Some p) None
    at true below = port_past x (told rest) p.port (λ e. below_apart x.port p.port less (sym e)) ∙ below
    at false below = below

-- what is found under other names
pub found_elsewhere : (pre : InputTable) (p p' : InputPort) (post : InputTable) (q : List ℕ) → bytes_eq q p.port ≡ false → bytes_eq q p'.port ≡ false
    → port_of (told (pre ++ p ∷ post)) q ≡ port_of (told (pre ++ p' ∷ post)) q
found_elsewhere [] p p' post q e f = past p e (is_told p) ∙ sym (past p' f (is_told p'))
  where
    past : (x : InputPort) → bytes_eq q x.port ≡ false → (b : Bool) → port_of (cond b (x ∷ told post) (told post)) q ≡ port_of (told post) q
    past x g true = rw g refl
    past x g false = refl
found_elsewhere (x ∷ pre) p p' post q e f = at (is_told x) (found_elsewhere pre p p' post q e f)
  where
    at : (b : Bool) → port_of (told (pre ++ p ∷ post)) q ≡ port_of (told (pre ++ p' ∷ post)) q
        → port_of (cond b (x ∷ told (pre ++ p ∷ post)) (told (pre ++ p ∷ post))) q ≡ port_of (cond b (x ∷ told (pre ++ p' ∷ post)) (told (pre ++ p' ∷ post))) q
    at true below = ap (cond (bytes_eq q x.port) (Some x)) below
    at false below = below

-- ---- what is said of it

rows_tell : (k : List ℕ) (r : InputRow) (rs : List InputRow) (d : Option Tree) → is_told (input_port k (r ∷ rs) d) ≡ true
rows_tell k r rs d = let some : nat_lt 0 (length (r ∷ rs)) ≡ true = grind (arith, nat_tests) in rw some refl

rows_there : (k : List ℕ) (rs : List InputRow) (d : Option Tree) (n : ℕ) → option_and_then (λ p. row_value p.rows n) (cond (is_told (input_port k rs d)) (Some (input_port k rs d)) None) ≡ row_value rs n
rows_there k [] None n = refl
rows_there k [] (Some v) n = refl
rows_there k (r ∷ rs) d n = let some = rows_tell k r rs d in rw some refl

default_there : (k : List ℕ) (rs : List InputRow) (d : Option Tree) → option_and_then (λ p. p.default) (cond (is_told (input_port k rs d)) (Some (input_port k rs d)) None) ≡ d
default_there k [] None = refl
default_there k [] (Some v) = refl
default_there k (r ∷ rs) d = let some = rows_tell k r rs d in rw some refl

meets_there : (k : List ℕ) (rs : List InputRow) (d : Option Tree) (span : Span) → port_meets (Some (input_port k rs d)) span ≡ false → port_meets (cond (is_told (input_port k rs d)) (Some (input_port k rs d)) None) span ≡ false
meets_there k rs d span e = at (is_told (input_port k rs d))
  where
    at : (b : Bool) → port_meets (cond b (Some (input_port k rs d)) None) span ≡ false
    at true = e
    at false = refl

-- ---- rows, with one more behind

pub rows_begin : (rs ss : List InputRow) → are_rows (rs ++ ss) ≡ true → are_rows rs ≡ true
rows_begin [] ss e = refl
rows_begin (r ∷ []) ss e = rows_from r [] (rows_parts r ss e).ordered refl refl
rows_begin (r ∷ s ∷ rs) ss e = let is = rows_parts r (s ∷ rs ++ ss) e in rows_from r (s ∷ rs) is.ordered is.ahead (rows_begin (s ∷ rs) ss is.others)

pub row_more : (rs : List InputRow) (r : InputRow) (n : ℕ) → are_rows (rs ++ r ∷ []) ≡ true → row_value (rs ++ r ∷ []) n ≡ cond (has_state r n) (Some r.value) (row_value rs n)
row_more [] r n e = refl
row_more (s ∷ rs) r n e = at (has_state s n) refl (cases_lt s.last n) (row_more rs r n (rows_parts s (rs ++ r ∷ []) e).others)
  where
    clash : (c : Bool) → None ≡ cond c (Some r.value) (row_value rs n) → Some s.value ≡ cond c (Some r.value) (Some s.value)
    clash true f = absurd cc
    clash false f = refl

    at : (b : Bool) → has_state s n ≡ b → (s.last < n) ⊎ (n ≤ s.last) → row_value (rs ++ r ∷ []) n ≡ cond (has_state r n) (Some r.value) (row_value rs n)
        → cond b (Some s.value) (row_value (rs ++ r ∷ []) n) ≡ cond (has_state r n) (Some r.value) (cond b (Some s.value) (row_value rs n))
    at false f h below = below
    at true f (inl h) below = let no : has_state s n ≡ false = and_right (nat_le s.first n) (nat_le n s.last) (lt-leb n s.last h) in absurd cc
    at true f (inr h) below = clash (has_state r n) (sym ((rows_behind s (rs ++ r ∷ []) e).free n h) ∙ below)

-- the states of the row have none before
pub row_new : (rs : List InputRow) (r : InputRow) → are_rows (rs ++ r ∷ []) ≡ true → r.first ≤ r.last → rows_meet rs r.first r.last ≡ false
row_new [] r e o = refl
row_new (s ∷ rs) r e o = at (cases_lt s.last r.first) (row_new rs r (rows_parts s (rs ++ r ∷ []) e).others o)
  where
    rest : are_rows (rs ++ r ∷ []) ≡ true
    rest = (rows_parts s (rs ++ r ∷ []) e).others

    at : (s.last < r.first) ⊎ (r.first ≤ s.last) → rows_meet rs r.first r.last ≡ false → (nat_le s.first r.last && nat_le r.first s.last) || rows_meet rs r.first r.last ≡ false
    at (inl h) below = let no : nat_le s.first r.last && nat_le r.first s.last ≡ false = and_right (nat_le s.first r.last) (nat_le r.first s.last) (lt-leb r.first s.last h) in rw no below
    at (inr h) below =
        let has = has_yes r r.first (omega arith) o in
        let here : row_value (rs ++ r ∷ []) r.first ≡ Some r.value = row_more rs r r.first rest ∙ rw has refl in
        let none = (rows_behind s (rs ++ r ∷ []) e).free r.first h in
        let bad : None ≡ Some r.value = sym none ∙ here in
        absurd cc

-- ---- one row more, and a default

pub rows_middle : (pre : InputTable) (p : InputPort) (post : InputTable) → HaveRows pre → are_rows p.rows ≡ true → HaveRows post → HaveRows (pre ++ p ∷ post)
rows_middle [] p post h e k = (e, k)
rows_middle (x ∷ pre) p post h e k = (h.0, rows_middle pre p post h.1 e k)

same_names : (pre : InputTable) (p p' : InputPort) (post : InputTable) → p.port ≡ p'.port → names (pre ++ p ∷ post) ≡ names (pre ++ p' ∷ post)
same_names [] p p' post e = ap (λ k. k ∷ names post) e
same_names (x ∷ pre) p p' post e = ap (λ ks. x.port ∷ ks) (same_names pre p p' post e)

pub still_ordered : (pre : InputTable) (p p' : InputPort) (post : InputTable) → p.port ≡ p'.port → IsOrdered (pre ++ p ∷ post) → IsOrdered (pre ++ p' ∷ post)
still_ordered pre p p' post e h = subst (IsStrictlySortedBy cmp) (same_names pre p p' post e) h

module _ (pre post : InputTable) (k : List ℕ) (rows : HaveRows pre) (others : HaveRows post) where
  abbrev with_port : List InputRow → Option Tree → InputTable
  with_port rs d = told (pre ++ input_port k rs d ∷ post)

  abbrev Ordered : List InputRow → Option Tree → Type 0
  Ordered rs d = IsOrdered (pre ++ input_port k rs d ∷ post)

  ranges_at : (rs : List InputRow) (d : Option Tree) → Ordered rs d → (n : ℕ) → range_value (with_port rs d) n k ≡ row_value rs n
  ranges_at rs d h n = range_at (with_port rs d) n k _ (found_there pre (input_port k rs d) post h) ∙ rows_there k rs d n

  defaults_at : (rs : List InputRow) (d : Option Tree) → Ordered rs d → default_value (with_port rs d) k ≡ d
  defaults_at rs d h = default_at (with_port rs d) k _ (found_there pre (input_port k rs d) post h) ∙ default_there k rs d

  -- what the port's new rows and default are to say
  module _ (rs ss : List InputRow) (d e : Option Tree) (ordered : Ordered rs d) (apart : are_rows ss ≡ true) (span : Span) (v : Tree)
      (ranges : (n : ℕ) → row_value ss n ≡ cond (span_has span n) (Some v) (row_value rs n)) (defaults : e ≡ cond (is_others span) (Some v) d) where
    later : Ordered ss e
    later = still_ordered pre (input_port k rs d) (input_port k ss e) post refl ordered

    ranges_given : (n : ℕ) (q : List ℕ) → (bytes_eq q k ≡ true) ⊎ (bytes_eq q k ≡ false) → range_value (with_port ss e) n q ≡ cond (bytes_eq q k && span_has span n) (Some v) (range_value (with_port rs d) n q)
    ranges_given n q (inl f) =
        subst (λ (x : List ℕ). range_value (with_port ss e) n x ≡ cond (bytes_eq x k && span_has span n) (Some v) (range_value (with_port rs d) n x)) (sym (same_name q k f))
        (let is = name_is k in rw is (ranges_at ss e later n ∙ ranges n ∙ ap (cond (span_has span n) (Some v)) (sym (ranges_at rs d ordered n))))
    ranges_given n q (inr f) = rw f (ap (option_and_then (λ p. row_value p.rows n)) (found_elsewhere pre (input_port k ss e) (input_port k rs d) post q f f))

    defaults_given : (q : List ℕ) → (bytes_eq q k ≡ true) ⊎ (bytes_eq q k ≡ false) → default_value (with_port ss e) q ≡ cond (bytes_eq q k && is_others span) (Some v) (default_value (with_port rs d) q)
    defaults_given q (inl f) =
        subst (λ (x : List ℕ). default_value (with_port ss e) x ≡ cond (bytes_eq x k && is_others span) (Some v) (default_value (with_port rs d) x)) (sym (same_name q k f))
        (let is = name_is k in rw is (defaults_at ss e later ∙ defaults ∙ ap (cond (is_others span) (Some v)) (sym (defaults_at rs d ordered))))
    defaults_given q (inr f) = rw f (ap (option_and_then (λ p. p.default)) (found_elsewhere pre (input_port k ss e) (input_port k rs d) post q f f))

    port_given : GivesValue span k v (with_port rs d) (with_port ss e)
    port_given = record {
      canonical = told_canonical (pre ++ input_port k ss e ∷ post) later (rows_middle pre (input_port k ss e) post rows apart others);
      ranges = λ n q. ranges_given n q (cases_Bool (bytes_eq q k));
      defaults = λ q. defaults_given q (cases_Bool (bytes_eq q k));
    }

  port_new : (rs : List InputRow) (d : Option Tree) (span : Span) → Ordered rs d → port_meets (Some (input_port k rs d)) span ≡ false → is_given (with_port rs d) span k ≡ false
  port_new rs d span h e = ap (λ o. port_meets o span) (found_there pre (input_port k rs d) post h) ∙ meets_there k rs d span e

  pub row_given : (rs : List InputRow) (r : InputRow) → Ordered rs None → are_rows (rs ++ r ∷ []) ≡ true → GivesValue (States r.first r.last) k r.value (with_port rs None) (with_port (rs ++ r ∷ []) None)
  row_given rs r h e = port_given rs (rs ++ r ∷ []) None None h e (States r.first r.last) r.value (λ n. row_more rs r n e) refl

  pub row_is_new : (rs : List InputRow) (r : InputRow) → Ordered rs None → are_rows (rs ++ r ∷ []) ≡ true → r.first ≤ r.last → is_given (with_port rs None) (States r.first r.last) k ≡ false
  row_is_new rs r h e o = port_new rs None (States r.first r.last) h (row_new rs r e o)

  pub default_given : (rs : List InputRow) (v : Tree) → Ordered rs None → are_rows rs ≡ true → GivesValue Others k v (with_port rs None) (with_port rs (Some v))
  default_given rs v h e = port_given rs rs None (Some v) h e Others v (λ n. refl) refl

  pub default_is_new : (rs : List InputRow) → Ordered rs None → is_given (with_port rs None) Others k ≡ false
  default_is_new rs h = port_new rs None Others h refl
