-- Rows in order and apart: which has a state, and what taking one away or putting one in changes.
use Rattle.std.proofs.Common.{refl, ap, sym, subst, ◌∙◌, ◌≡◌, ◌≢◌, ℕ, ◌+◌, ◌<◌, ◌≤◌, ◌==◌, Bool, true, false, cond, not, ◌&&◌, ◌||◌, nat_le, nat_lt, ◌^◌, min, List, [], ◌∷◌, Option, Some, None, arith}
use Rattle.std.specs.List.{AllByRecursion}
use Rattle.std.specs.Ordering.{nat_cmp, is_eq, MatchOrdering}
use Rattle.std.specs.declared.cmp.Ordering.{Ordering}
use Rattle.std.specs.declared.cmp.Ordering.TheVariants.{Less, Equal, Greater}
use Rattle.std.specs.Cmp.{ranks}
use Rattle.std.proofs.lemmas.Bool.Decides.{nat_tests}
use Rattle.tp_value.specs.Tree.{same_tree}
use Rattle.tp_value.proofs.Trees.{same_tree_is_equality}
use Rattle.tp_meaning.specs.Inputs.{InputRow, row_value}
use Rattle.tp_inputs.specs.Spans.{is_ahead, are_rows, rows_meet}

-- ---- where a state is

pub data IsWithin (a b n : ℕ) : Type 0 where
  inside : a ≤ n → n ≤ b → nat_le a n && nat_le n b ≡ true → IsWithin a b n
  below : n < a → nat_le a n && nat_le n b ≡ false → IsWithin a b n
  above : b < n → nat_le a n && nat_le n b ≡ false → IsWithin a b n

pub place : (a b n : ℕ) → IsWithin a b n
place a b n = at (nat_le a n) (nat_le n b) refl refl
  where
    at : (p q : Bool) → nat_le a n ≡ p → nat_le n b ≡ q → IsWithin a b n
    at true true e f = inside (grind (arith, nat_tests)) (grind (arith, nat_tests)) (rw (e, f) refl)
    at true false e f = above (grind (arith, nat_tests)) (rw (e, f) refl)
    at false q e f = below (grind (arith, nat_tests)) (rw e refl)

pub inside_range : (a b n : ℕ) → a ≤ n → n ≤ b → nat_le a n && nat_le n b ≡ true
inside_range a b n low high = at (place a b n)
  where
    at : IsWithin a b n → nat_le a n && nat_le n b ≡ true
    at (inside l h e) = e
    at (below l e) = absurd (omega arith)
    at (above l e) = absurd (omega arith)

outside_range : (a b n : ℕ) → (a ≤ n → n ≤ b → ⊥) → nat_le a n && nat_le n b ≡ false
outside_range a b n out = at (place a b n)
  where
    at : IsWithin a b n → nat_le a n && nat_le n b ≡ false
    at (inside l h e) = absurd (out l h)
    at (below l e) = e
    at (above l e) = e

pub below_range : (a b n : ℕ) → n < a → nat_le a n && nat_le n b ≡ false
below_range a b n low = outside_range a b n (λ l h. omega arith)

pub above_range : (a b n : ℕ) → b < n → nat_le a n && nat_le n b ≡ false
above_range a b n high = outside_range a b n (λ l h. omega arith)

-- ---- what are_rows says

-- the row ends before the next begins, and has another value where it touches it
abbrev pub Ahead : InputRow → List InputRow → Type 0
Ahead r [] = Unit {0}
Ahead r (s ∷ rs) = (r.last < s.first) × (r.last + 1 ≡ s.first → r.value ≢ s.value)

pub record Leading (r : InputRow) (rs : List InputRow) : Type 0 where
  pub ordered : r.first ≤ r.last
  pub ahead : Ahead r rs
  pub rest : are_rows rs ≡ true

ahead_from : (r : InputRow) (rs : List InputRow) → is_ahead r rs ≡ true → Ahead r rs
ahead_from r [] e = tt
ahead_from r (s ∷ rs) e = at (nat_lt r.last s.first) (r.last + 1 == s.first) (same_tree r.value s.value) refl refl refl e
  where
    at : (p q t : Bool) → nat_lt r.last s.first ≡ p → (r.last + 1 == s.first) ≡ q → same_tree r.value s.value ≡ t → p && not (q && t) ≡ true → Ahead r (s ∷ rs)
    at true true true x y z h = absurd cc
    at true true false x y z h = (grind (arith, nat_tests), λ touch e. let yes = (same_tree_is_equality r.value s.value).1 e in absurd cc)
    at true false t x y z h = (grind (arith, nat_tests), λ touch e. absurd (grind (arith, nat_tests)))
    at false q t x y z h = absurd cc

ahead_to : (r : InputRow) (rs : List InputRow) → Ahead r rs → is_ahead r rs ≡ true
ahead_to r [] h = refl
ahead_to r (s ∷ rs) h = at (nat_lt r.last s.first) (r.last + 1 == s.first) (same_tree r.value s.value) refl refl refl
  where
    at : (p q t : Bool) → nat_lt r.last s.first ≡ p → (r.last + 1 == s.first) ≡ q → same_tree r.value s.value ≡ t → p && not (q && t) ≡ true
    at false q t x y z = let low = h.0 in absurd (grind (arith, nat_tests))
    at true false t x y z = refl
    at true true false x y z = refl
    at true true true x y z = absurd (h.1 (grind (arith, nat_tests)) ((same_tree_is_equality r.value s.value).0 z))

pub leading : (r : InputRow) (rs : List InputRow) → are_rows (r ∷ rs) ≡ true → Leading r rs
leading r rs e = at (nat_le r.first r.last) (is_ahead r rs) (are_rows rs) refl refl refl e
  where
    at : (p q t : Bool) → nat_le r.first r.last ≡ p → is_ahead r rs ≡ q → are_rows rs ≡ t → p && (q && t) ≡ true → Leading r rs
    at true true true x y z h = record { ordered = grind (arith, nat_tests); ahead = ahead_from r rs y; rest = z }
    at true true false x y z h = absurd cc
    at true false t x y z h = absurd cc
    at false q t x y z h = absurd cc

pub led : (r : InputRow) (rs : List InputRow) → r.first ≤ r.last → Ahead r rs → are_rows rs ≡ true → are_rows (r ∷ rs) ≡ true
led r rs low h e = let first : nat_le r.first r.last ≡ true = grind (arith, nat_tests) in rw (first, ahead_to r rs h, e) refl

-- ---- states without a row

pub none_below : (r : InputRow) (rs : List InputRow) (n : ℕ) → Ahead r rs → are_rows rs ≡ true → n ≤ r.last → row_value rs n ≡ None
none_below r [] n h e low = refl
none_below r (s ∷ rs) n h e low =
    let l = leading s rs e in
    let first = h.0 in
    let ordered = l.ordered in
    rw (below_range s.first s.last n (omega arith)) (none_below s rs n l.ahead l.rest (omega arith))

-- behind the row comes its value no more
pub other_behind : (r : InputRow) (rs : List InputRow) → Ahead r rs → are_rows rs ≡ true → row_value rs (r.last + 1) ≢ Some r.value
other_behind r [] h e q = cc
other_behind r (s ∷ rs) h e q = at (place s.first s.last (r.last + 1))
  where
    l : Leading s rs
    l = leading s rs e

    at : IsWithin s.first s.last (r.last + 1) → ⊥
    at (inside low high t) = let first = h.0 in let same : Some s.value ≡ Some r.value = sym (rw t refl) ∙ q in h.1 (omega arith) (sym cc)
    at (below low t) = let none : row_value (s ∷ rs) (r.last + 1) ≡ None = rw t (none_below s rs (r.last + 1) l.ahead l.rest (let ordered = l.ordered in omega arith)) in let same : None ≡ Some r.value = sym none ∙ q in cc
    at (above high t) = let first = h.0 in let ordered = l.ordered in absurd (omega arith)

pub meets_none : (rs : List InputRow) (a b n : ℕ) → rows_meet rs a b ≡ false → a ≤ n → n ≤ b → row_value rs n ≡ None
meets_none [] a b n e low high = refl
meets_none (r ∷ rs) a b n e low high = at (nat_le r.first b) (nat_le a r.last) (rows_meet rs a b) refl refl refl e (λ z. meets_none rs a b n z low high)
  where
    at : (p q t : Bool) → nat_le r.first b ≡ p → nat_le a r.last ≡ q → rows_meet rs a b ≡ t → (p && q) || t ≡ false → (rows_meet rs a b ≡ false → row_value rs n ≡ None) → row_value (r ∷ rs) n ≡ None
    at true true t x y z h later = absurd cc
    at true false true x y z h later = absurd cc
    at true false false x y z h later = rw (above_range r.first r.last n (grind (arith, nat_tests))) (later z)
    at false q true x y z h later = absurd cc
    at false q false x y z h later = rw (below_range r.first r.last n (grind (arith, nat_tests))) (later z)

pub none_meets : (rs : List InputRow) (a b : ℕ) → are_rows rs ≡ true → a ≤ b → ((n : ℕ) → a ≤ n → n ≤ b → row_value rs n ≡ None) → rows_meet rs a b ≡ false
none_meets [] a b e low none = refl
none_meets (r ∷ rs) a b e low none = at (nat_le r.first b) (nat_le a r.last) refl refl (none_meets rs a b l.rest low beyond)
  where
    l : Leading r rs
    l = leading r rs e

    outside : (n : ℕ) → a ≤ n → n ≤ b → r.first ≤ n → n ≤ r.last → ⊥
    outside n x y z w = let some : row_value (r ∷ rs) n ≡ Some r.value = rw (inside_range r.first r.last n z w) refl in let both : None ≡ Some r.value = sym (none n x y) ∙ some in cc

    met : (p q : Bool) → nat_le r.first b ≡ p → nat_le a r.last ≡ q → p && q ≡ true → ⊥
    met true true x y h = let ordered = l.ordered in meeting (nat_le a r.first) refl (grind (arith, nat_tests)) (grind (arith, nat_tests))
      where
        meeting : (t : Bool) → nat_le a r.first ≡ t → r.first ≤ b → a ≤ r.last → ⊥
        meeting true f u v = outside r.first (grind (arith, nat_tests)) u (omega arith) l.ordered
        meeting false f u v = outside a (omega arith) low (grind (arith, nat_tests)) v
    met true false x y h = cc
    met false q x y h = cc

    beyond : (n : ℕ) → a ≤ n → n ≤ b → row_value rs n ≡ None
    beyond n x y = at_n (place r.first r.last n)
      where
        at_n : IsWithin r.first r.last n → row_value rs n ≡ None
        at_n (inside z w t) = absurd (outside n x y z w)
        at_n (below z t) = sym (rw t refl) ∙ none n x y
        at_n (above z t) = sym (rw t refl) ∙ none n x y

    at : (p q : Bool) → nat_le r.first b ≡ p → nat_le a r.last ≡ q → rows_meet rs a b ≡ false → rows_meet (r ∷ rs) a b ≡ false
    at true true x y later = absurd (met true true x y refl)
    at true false x y later = rw (x, y) later
    at false q x y later = rw x later

-- rows that end at states of 32 bits begin there, so that no greater state counts
pub meets_capped : (rs : List InputRow) (a b : ℕ) → are_rows rs ≡ true → AllByRecursion (λ r. r.last < 2 ^ 32) rs → rows_meet rs a (min b 4294967295) ≡ rows_meet rs a b
meets_capped [] a b e h = refl
meets_capped (r ∷ rs) a b e h = at (nat_le r.first b) (nat_le r.first (min b 4294967295)) refl refl (meets_capped rs a b l.rest h.1)
  where
    l : Leading r rs
    l = leading r rs e

    at : (p q : Bool) → nat_le r.first b ≡ p → nat_le r.first (min b 4294967295) ≡ q → rows_meet rs a (min b 4294967295) ≡ rows_meet rs a b → rows_meet (r ∷ rs) a (min b 4294967295) ≡ rows_meet (r ∷ rs) a b
    at true true x y later = rw (x, y, later) refl
    at true false x y later = let ordered = l.ordered in let low = h.0 in absurd (grind (arith, nat_tests))
    at false true x y later = absurd (grind (arith, nat_tests))
    at false false x y later = rw (x, y) later

-- ---- the row that begins at a state

abbrev pub row_at : ℕ → List InputRow → Option InputRow
row_at k [] = None
row_at k (r ∷ rs) = cond (is_eq (nat_cmp k r.first)) (Some r) (row_at k rs)

abbrev pub without : ℕ → List InputRow → List InputRow
without k [] = []
without k (r ∷ rs) = cond (is_eq (nat_cmp k r.first)) rs (r ∷ without k rs)

pub data Order (a b : ℕ) : Type 0 where
  less : nat_cmp a b ≡ Less → a < b → Order a b
  equal : nat_cmp a b ≡ Equal → a ≡ b → Order a b
  greater : nat_cmp a b ≡ Greater → b < a → Order a b

pub order : (a b : ℕ) → Order a b
order a b = at (nat_cmp a b) refl (ranks a b)
  where
    at : (o : Ordering) → nat_cmp a b ≡ o → MatchOrdering o (a < b) (a ≡ b) (b < a) → Order a b
    at Less e h = less e h
    at Equal e h = equal e h
    at Greater e h = greater e h

-- a row further on begins behind this one, and has another value where it touches it
pub further : (r : InputRow) (rs : List InputRow) (k : ℕ) (s : InputRow) → Ahead r rs → are_rows rs ≡ true → row_at k rs ≡ Some s → Ahead r (s ∷ []) × (s.first ≡ k) × (s.first ≤ s.last)
further r [] k s h e f = absurd cc
further r (t ∷ rs) k s h e f = at (order k t.first) (λ g. below_it (further t rs k s l.ahead l.rest g))
  where
    l : Leading t rs
    l = leading t rs e

    below_it : Ahead t (s ∷ []) × (s.first ≡ k) × (s.first ≤ s.last) → Ahead r (s ∷ []) × (s.first ≡ k) × (s.first ≤ s.last)
    below_it z = let first = h.0 in let next = z.0.0 in let ordered = l.ordered in ((omega arith, λ touch. absurd (omega arith)), z.1, z.2)

    at : Order k t.first → (row_at k rs ≡ Some s → Ahead r (s ∷ []) × (s.first ≡ k) × (s.first ≤ s.last)) → Ahead r (s ∷ []) × (s.first ≡ k) × (s.first ≤ s.last)
    at (equal o same) later = let it : Some t ≡ Some s = sym (rw o refl) ∙ f in let is : t ≡ s = cc in (subst (λ (x : InputRow). Ahead r (x ∷ [])) is h, ap (λ (x : InputRow). x.first) (sym is) ∙ sym same, subst (λ (x : InputRow). x.first ≤ x.last) is l.ordered)
    at (less o lt) later = later (sym (rw o refl) ∙ f)
    at (greater o lt) later = later (sym (rw o refl) ∙ f)

-- ---- the last row that begins at a state or before it

pub none_begins : (rs : List InputRow) (a b : ℕ) → ((k : ℕ) (s : InputRow) → row_at k rs ≡ Some s → k ≤ b → ⊥) → are_rows rs ≡ true → rows_meet rs a b ≡ false
none_begins [] a b none e = refl
none_begins (r ∷ rs) a b none e = at (nat_le r.first b) refl (none_begins rs a b later l.rest)
  where
    l : Leading r rs
    l = leading r rs e

    here : row_at r.first (r ∷ rs) ≡ Some r
    here = at_order (order r.first r.first)
      where
        at_order : Order r.first r.first → row_at r.first (r ∷ rs) ≡ Some r
        at_order (less o x) = absurd (omega arith)
        at_order (equal o x) = rw o refl
        at_order (greater o x) = absurd (omega arith)

    later : (k : ℕ) (s : InputRow) → row_at k rs ≡ Some s → k ≤ b → ⊥
    later k s f low = at_order (order k r.first)
      where
        at_order : Order k r.first → ⊥
        at_order (less o x) = none k s (rw o f) low
        at_order (equal o x) = let u = further r rs k s l.ahead l.rest f in let a = u.0.0 in let c = u.1 in let d = l.ordered in omega arith
        at_order (greater o x) = none k s (rw o f) low

    at : (p : Bool) → nat_le r.first b ≡ p → rows_meet rs a b ≡ false → rows_meet (r ∷ rs) a b ≡ false
    at true x later = absurd (none r.first r here (grind (arith, nat_tests)))
    at false x later = rw x later

pub last_meets : (rs : List InputRow) (a b k : ℕ) (s : InputRow) → are_rows rs ≡ true → row_at k rs ≡ Some s → k ≤ b → ((j : ℕ) (t : InputRow) → row_at j rs ≡ Some t → j ≤ b → j ≤ k) → rows_meet rs a b ≡ nat_le a s.last
last_meets [] a b k s e f low most = absurd cc
last_meets (r ∷ rs) a b k s e f low most = at (order k r.first) (λ g up. last_meets rs a b k s l.rest g low up)
  where
    l : Leading r rs
    l = leading r rs e

    others : (j : ℕ) (t : InputRow) → row_at j rs ≡ Some t → row_at j (r ∷ rs) ≡ Some t
    others j t g = at_order (order j r.first)
      where
        at_order : Order j r.first → row_at j (r ∷ rs) ≡ Some t
        at_order (less o x) = rw o g
        at_order (equal o x) = let u = further r rs j t l.ahead l.rest g in let a = u.0.0 in let c = u.1 in let d = l.ordered in absurd (omega arith)
        at_order (greater o x) = rw o g

    found_later : row_at k rs ≡ Some s → rows_meet rs a b ≡ nat_le a s.last → rows_meet (r ∷ rs) a b ≡ nat_le a s.last
    found_later g later = tests (nat_le r.first b) (nat_le a r.last) (nat_le a s.last) refl refl refl
      where
        tests : (p q t : Bool) → nat_le r.first b ≡ p → nat_le a r.last ≡ q → nat_le a s.last ≡ t → rows_meet (r ∷ rs) a b ≡ t
        tests true true true x y z = rw (x, y) refl
        tests true true false x y z = let u = further r rs k s l.ahead l.rest g in let c = u.0.0 in let d = u.2 in absurd (grind (arith, nat_tests))
        tests true false t x y z = rw (x, y) (later ∙ z)
        tests false q t x y z = rw x (later ∙ z)

    at : Order k r.first → (row_at k rs ≡ Some s → ((j : ℕ) (t : InputRow) → row_at j rs ≡ Some t → j ≤ b → j ≤ k) → rows_meet rs a b ≡ nat_le a s.last) → rows_meet (r ∷ rs) a b ≡ nat_le a s.last
    at (less o x) later = let g : row_at k rs ≡ Some s = sym (rw o refl) ∙ f in found_later g (later g (λ j t h. most j t (others j t h)))
    at (greater o x) later = let g : row_at k rs ≡ Some s = sym (rw o refl) ∙ f in found_later g (later g (λ j t h. most j t (others j t h)))
    at (equal o x) later =
        let it : Some r ≡ Some s = sym (rw o refl) ∙ f in
        let is : r ≡ s = cc in
        let none : rows_meet rs a b ≡ false = none_begins rs a b (λ j t h high. let u = further r rs j t l.ahead l.rest h in let up = most j t (others j t h) high in let p = u.0.0 in let q = u.1 in let d = l.ordered in omega arith) l.rest in
        first_only (subst (λ (t : InputRow). t.last ≡ s.last) (sym is) refl) none
      where
        first_only : r.last ≡ s.last → rows_meet rs a b ≡ false → rows_meet (r ∷ rs) a b ≡ nat_le a s.last
        first_only same none = tests (nat_le r.first b) (nat_le a r.last) refl refl
          where
            tests : (p q : Bool) → nat_le r.first b ≡ p → nat_le a r.last ≡ q → rows_meet (r ∷ rs) a b ≡ nat_le a s.last
            tests true true y z = rw (y, z) (sym (sym (ap (nat_le a) same) ∙ z))
            tests true false y z = rw (y, z) (none ∙ sym (sym (ap (nat_le a) same) ∙ z))
            tests false q y z = absurd (grind (arith, nat_tests))

-- a state that no row has
pub unmet : (rs : List InputRow) (n : ℕ) → rows_meet rs n n ≡ false → row_value rs n ≡ None
unmet rs n e = meets_none rs n n n e (omega arith) (omega arith)
