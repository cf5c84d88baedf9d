-- What taking a row away, and putting one in, changes.
use Rattle.std.proofs.Common.{refl, ap, sym, subst, ◌∙◌, ◌≡◌, ◌≢◌, ℕ, suc, ◌+◌, ◌<◌, ◌≤◌, inl, inr, ◌⊎◌, Bool, true, false, cond, ◌&&◌, ◌||◌, nat_le, List, [], ◌∷◌, Some, None, arith}
use Rattle.std.specs.Ordering.{nat_cmp, match_ordering}
use Rattle.std.proofs.lemmas.Bool.Decides.{nat_tests}
use Rattle.tp_value.specs.Tree.{Tree}
use Rattle.tp_meaning.specs.Inputs.{InputRow, row_value}
use Rattle.tp_inputs.specs.Spans.{are_rows, rows_meet}
use Rattle.tp_inputs.specs.Moves.{IsTaken, GivesRows, IsOpened, IsClosed}
use Rattle.tp_inputs.proofs.RowLemmas.{IsWithin, inside, below, above, place, inside_range, below_range, above_range, Ahead, Leading, leading, led, none_below, other_behind, meets_none, none_meets, row_at, without, Order, less, equal, greater, order, further}

-- ---- a row is taken away

-- the row s is the one that begins at k, and left is the rest
record IsAway (rows : List InputRow) (k : ℕ) (s : InputRow) (left : List InputRow) : Type 0 where
  pub apart : are_rows left ≡ true
  pub had : (n : ℕ) → s.first ≤ n → n ≤ s.last → row_value rows n ≡ Some s.value
  pub has : (n : ℕ) → row_value left n ≡ cond (nat_le s.first n && nat_le n s.last) None (row_value rows n)
  pub before : (j : ℕ) → suc j ≡ s.first → row_value rows j ≢ Some s.value
  pub after : row_value rows (s.last + 1) ≢ Some s.value
  pub keeps : (r : InputRow) → Ahead r rows → Ahead r left

first_away : (s : InputRow) (rs : List InputRow) → are_rows (s ∷ rs) ≡ true → IsAway (s ∷ rs) s.first s rs
first_away s rs e = record {
  apart = l.rest;
  had = λ n x y. rw (inside_range s.first s.last n x y) refl;
  has = λ n. at n (place s.first s.last n);
  before = λ j q h. let ordered = l.ordered in let none : row_value (s ∷ rs) j ≡ None = rw (below_range s.first s.last j (omega arith)) (none_below s rs j l.ahead l.rest (omega arith)) in let both : None ≡ Some s.value = sym none ∙ h in cc;
  after = λ h. other_behind s rs l.ahead l.rest (sym (rw (above_range s.first s.last (s.last + 1) (omega arith)) refl) ∙ h);
  keeps = λ r h. keep rs r h l.ahead;
}
  where
    l : Leading s rs
    l = leading s rs e

    at : (n : ℕ) → IsWithin s.first s.last n → row_value rs n ≡ cond (nat_le s.first n && nat_le n s.last) None (row_value (s ∷ rs) n)
    at n (inside x y t) = rw t (none_below s rs n l.ahead l.rest y)
    at n (below x t) = rw t refl
    at n (above x t) = rw t refl

    keep : (ts : List InputRow) (r : InputRow) → Ahead r (s ∷ rs) → Ahead s ts → Ahead r ts
    keep [] r h k = tt
    keep (t ∷ ts) r h k = let ordered = l.ordered in let low = h.0 in let next = k.0 in (omega arith, λ touch. absurd (omega arith))

later_away : (r : InputRow) (rs : List InputRow) (k : ℕ) (s : InputRow) (left : List InputRow) → are_rows (r ∷ rs) ≡ true → row_at k rs ≡ Some s → IsAway rs k s left → IsAway (r ∷ rs) k s (r ∷ left)
later_away r rs k s left e f w = record {
  apart = led r left l.ordered (w.keeps r l.ahead) w.apart;
  had = λ n x y. rw (above_range r.first r.last n (let low = u.0.0 in omega arith)) (w.had n x y);
  has = λ n. at n (place r.first r.last n);
  before = λ j q h. before_at j q h (place r.first r.last j);
  after = λ h. w.after (sym (rw (above_range r.first r.last (s.last + 1) (let low = u.0.0 in let ordered = u.2 in omega arith)) refl) ∙ h);
  keeps = λ t h. h;
}
  where
    l : Leading r rs
    l = leading r rs e

    u : Ahead r (s ∷ []) × (s.first ≡ k) × (s.first ≤ s.last)
    u = further r rs k s l.ahead l.rest f

    at : (n : ℕ) → IsWithin r.first r.last n → row_value (r ∷ left) n ≡ cond (nat_le s.first n && nat_le n s.last) None (row_value (r ∷ rs) n)
    at n (inside x y t) = let low = u.0.0 in rw (t, below_range s.first s.last n (omega arith)) refl
    at n (below x t) = rw t (w.has n)
    at n (above x t) = rw t (w.has n)

    before_at : (j : ℕ) → suc j ≡ s.first → row_value (r ∷ rs) j ≡ Some s.value → IsWithin r.first r.last j → ⊥
    before_at j q h (inside x y t) = let some : row_value (r ∷ rs) j ≡ Some r.value = rw t refl in let both : Some r.value ≡ Some s.value = sym some ∙ h in let low = u.0.0 in u.0.1 (omega arith) cc
    before_at j q h (below x t) = w.before j q (sym (rw t refl) ∙ h)
    before_at j q h (above x t) = w.before j q (sym (rw t refl) ∙ h)

row_away : (rows : List InputRow) (k : ℕ) (s : InputRow) → are_rows rows ≡ true → row_at k rows ≡ Some s → IsAway rows k s (without k rows)
row_away [] k s e f = absurd cc
row_away (r ∷ rs) k s e f = at (order k r.first) (λ g. row_away rs k s (leading r rs e).rest g)
  where
    at : Order k r.first → (row_at k rs ≡ Some s → IsAway rs k s (without k rs)) → IsAway (r ∷ rs) k s (without k (r ∷ rs))
    at (less o lt) later = let g : row_at k rs ≡ Some s = sym (rw o refl) ∙ f in rw o (later_away r rs k s (without k rs) e g (later g))
    at (greater o lt) later = let g : row_at k rs ≡ Some s = sym (rw o refl) ∙ f in rw o (later_away r rs k s (without k rs) e g (later g))
    at (equal o same) later =
        let it : Some r ≡ Some s = sym (rw o refl) ∙ f in
        let is : r ≡ s = cc in
        rw o (subst (λ (x : InputRow). IsAway (r ∷ rs) k x rs) is (subst (λ (j : ℕ). IsAway (r ∷ rs) j r rs) (sym same) (first_away r rs e)))

pub has_row : (rows : List InputRow) (k n : ℕ) (s : InputRow) → are_rows rows ≡ true → row_at k rows ≡ Some s → s.first ≤ n → n ≤ s.last → row_value rows n ≡ Some s.value
has_row rows k n s e f x y = (row_away rows k s e f).had n x y

pub taken : (rows : List InputRow) (k state : ℕ) (s : InputRow) (v : Tree) → are_rows rows ≡ true → row_at k rows ≡ Some s → s.first ≤ state → state ≤ s.last → s.value ≡ v
    → IsTaken rows state v s.first s.last (without k rows)
taken rows k state s v e f x y same =
    let w = row_away rows k s e f in
    subst (λ (t : Tree). IsTaken rows state t s.first s.last (without k rows)) same
    (record { apart = w.apart; begins = x; ends = y; had = w.had; has = w.has; before = w.before; after = w.after })

-- ---- a row is put in

abbrev pub with_row : InputRow → List InputRow → List InputRow
with_row r [] = r ∷ []
with_row r (s ∷ rs) = match_ordering (nat_cmp r.first s.first) (r ∷ s ∷ rs) (r ∷ rs) (s ∷ with_row r rs)

-- nothing has a state of the row yet, and beside it is another value
record IsFree (rows : List InputRow) (r : InputRow) : Type 0 where
  pub apart : are_rows rows ≡ true
  pub ordered : r.first ≤ r.last
  pub free : rows_meet rows r.first r.last ≡ false
  pub before : (j : ℕ) → suc j ≡ r.first → row_value rows j ≢ Some r.value
  pub after : row_value rows (r.last + 1) ≢ Some r.value

record IsPut (rows : List InputRow) (r : InputRow) (more : List InputRow) : Type 0 where
  pub apart : are_rows more ≡ true
  pub has : (n : ℕ) → row_value more n ≡ cond (nat_le r.first n && nat_le n r.last) (Some r.value) (row_value rows n)
  pub keeps : (t : InputRow) → Ahead t rows → Ahead t (r ∷ []) → Ahead t more

-- the row is behind the first, or before it
data Beside (s r : InputRow) : Type 0 where
  behind : s.last < r.first → Beside s r
  in_front : r.last < s.first → Beside s r

beside : (s : InputRow) (rs : List InputRow) (r : InputRow) → IsFree (s ∷ rs) r → Beside s r
beside s rs r w = at (nat_le s.first r.last) (nat_le r.first s.last) refl refl w.free
  where
    at : (p q : Bool) → nat_le s.first r.last ≡ p → nat_le r.first s.last ≡ q → (p && q) || rows_meet rs r.first r.last ≡ false → Beside s r
    at true true x y h = absurd cc
    at true false x y h = behind (grind (arith, nat_tests))
    at false q x y h = in_front (grind (arith, nat_tests))

put_front : (s : InputRow) (rs : List InputRow) (r : InputRow) → IsFree (s ∷ rs) r → r.last < s.first → IsPut (s ∷ rs) r (r ∷ s ∷ rs)
put_front s rs r w low = record {
  apart = led r (s ∷ rs) w.ordered (low, λ touch same. w.after (rw (inside_range s.first s.last (r.last + 1) (omega arith) (let o = l.ordered in omega arith)) (ap Some (sym same)))) w.apart;
  has = λ n. refl;
  keeps = λ t h k. k;
}
  where
    l : Leading s rs
    l = leading s rs w.apart

-- what is free of a row behind the first is free of it in the rest
rest_free : (s : InputRow) (rs : List InputRow) (r : InputRow) → IsFree (s ∷ rs) r → s.last < r.first → IsFree rs r
rest_free s rs r w low = record {
  apart = l.rest;
  ordered = w.ordered;
  free = none_meets rs r.first r.last l.rest w.ordered (λ n x y. sym (rw (above_range s.first s.last n (omega arith)) refl) ∙ meets_none (s ∷ rs) r.first r.last n w.free x y);
  before = λ j q h. at j q h (place s.first s.last j);
  after = λ h. w.after (rw (above_range s.first s.last (r.last + 1) (let o = w.ordered in omega arith)) h);
}
  where
    l : Leading s rs
    l = leading s rs w.apart

    at : (j : ℕ) → suc j ≡ r.first → row_value rs j ≡ Some r.value → IsWithin s.first s.last j → ⊥
    at j q h (inside x y t) = let both : None ≡ Some r.value = sym (none_below s rs j l.ahead l.rest y) ∙ h in cc
    at j q h (below x t) = w.before j q (rw t h)
    at j q h (above x t) = w.before j q (rw t h)

put_later : (s : InputRow) (rs : List InputRow) (r : InputRow) (more : List InputRow) → IsFree (s ∷ rs) r → s.last < r.first → IsPut rs r more → IsPut (s ∷ rs) r (s ∷ more)
put_later s rs r more w low p = record {
  apart = led s more l.ordered (p.keeps s l.ahead (low, λ touch same. w.before s.last (omega arith) (rw (inside_range s.first s.last s.last l.ordered (omega arith)) (ap Some same)))) p.apart;
  has = λ n. at n (place s.first s.last n);
  keeps = λ t h k. h;
}
  where
    l : Leading s rs
    l = leading s rs w.apart

    at : (n : ℕ) → IsWithin s.first s.last n → row_value (s ∷ more) n ≡ cond (nat_le r.first n && nat_le n r.last) (Some r.value) (row_value (s ∷ rs) n)
    at n (inside x y t) = rw (t, below_range r.first r.last n (omega arith)) refl
    at n (below x t) = rw t (p.has n)
    at n (above x t) = rw t (p.has n)

row_put : (rows : List InputRow) (r : InputRow) → IsFree rows r → IsPut rows r (with_row r rows)
row_put [] r w = record { apart = led r [] w.ordered tt refl; has = λ n. refl; keeps = λ t h k. k }
row_put (s ∷ rs) r w = at (beside s rs r w) (order r.first s.first) (λ f. row_put rs r f)
  where
    l : Leading s rs
    l = leading s rs w.apart

    at : Beside s r → Order r.first s.first → (IsFree rs r → IsPut rs r (with_row r rs)) → IsPut (s ∷ rs) r (with_row r (s ∷ rs))
    at (behind low) (less o x) later = let a = l.ordered in absurd (omega arith)
    at (behind low) (equal o x) later = let a = l.ordered in absurd (omega arith)
    at (behind low) (greater o x) later = rw o (put_later s rs r (with_row r rs) w low (later (rest_free s rs r w low)))
    at (in_front low) (less o x) later = rw o (put_front s rs r w low)
    at (in_front low) (equal o x) later = let a = w.ordered in absurd (omega arith)
    at (in_front low) (greater o x) later = let a = w.ordered in absurd (omega arith)

-- ---- both, on the way to one range

pub opened_none : (rows : List InputRow) (value : Tree) (first : ℕ) → are_rows rows ≡ true → ((j : ℕ) → suc j ≡ first → row_value rows j ≢ Some value) → IsOpened rows value first first rows
opened_none rows value first e other = record { apart = e; ordered = omega arith; had = λ n x y. absurd (omega arith); gone = λ n x y. absurd (omega arith); stays = λ n x. refl; before = other }

-- nothing is taken at a state that has none, and what is not taken stays
at_none : (rows left : List InputRow) (value : Tree) (state a b n : ℕ) → IsTaken rows state value a b left → row_value rows n ≡ None → (n < a) ⊎ (b < n)
at_none rows left value state a b n w none = at (place a b n)
  where
    at : IsWithin a b n → (n < a) ⊎ (b < n)
    at (inside x y t) = let both : None ≡ Some value = sym none ∙ w.had n x y in absurd cc
    at (below x t) = inl x
    at (above x t) = inr x

taken_there : (rows left : List InputRow) (value : Tree) (state a b n : ℕ) → IsTaken rows state value a b left → a ≤ n → n ≤ b → row_value left n ≡ None
taken_there rows left value state a b n w x y = w.has n ∙ rw (inside_range a b n x y) refl

stays_beside : (rows left : List InputRow) (value : Tree) (state a b n : ℕ) → IsTaken rows state value a b left → (n < a) ⊎ (b < n) → row_value left n ≡ row_value rows n
stays_beside rows left value state a b n w (inl p) = w.has n ∙ rw (below_range a b n p) refl
stays_beside rows left value state a b n w (inr p) = w.has n ∙ rw (above_range a b n p) refl

pub opened_by : (rows : List InputRow) (value : Tree) (state first a b : ℕ) (left : List InputRow) → suc state ≡ first → row_value rows first ≡ None → IsTaken rows state value a b left → IsOpened rows value a first left
opened_by rows value state first a b left next none w = at (at_none rows left value state a b first w none)
  where
    around : (n : ℕ) → b < first → (n < a) ⊎ (first ≤ n) → (n < a) ⊎ (b < n)
    around n x (inl p) = inl p
    around n x (inr p) = inr (omega arith)

    at : (first < a) ⊎ (b < first) → IsOpened rows value a first left
    at (inl x) = let low = w.begins in absurd (omega arith)
    at (inr x) =
        let low = w.begins in
        let high = w.ends in
        record { apart = w.apart; ordered = omega arith; had = λ n p q. w.had n p (omega arith); gone = λ n p q. taken_there rows left value state a b n w p (omega arith); stays = λ n p. stays_beside rows left value state a b n w (around n x p); before = w.before }

pub closed_none : (rows : List InputRow) (value : Tree) (last : ℕ) → are_rows rows ≡ true → row_value rows (last + 1) ≢ Some value → IsClosed rows value last last rows
closed_none rows value last e other = record { apart = e; ordered = omega arith; had = λ n x y. absurd (omega arith); gone = λ n x y. absurd (omega arith); stays = λ n x. refl; after = other }

pub closed_by : (rows : List InputRow) (value : Tree) (last a b : ℕ) (left : List InputRow) → row_value rows last ≡ None → IsTaken rows (last + 1) value a b left → IsClosed rows value last b left
closed_by rows value last a b left none w = at (at_none rows left value (last + 1) a b last w none)
  where
    around : (n : ℕ) → last < a → (n ≤ last) ⊎ (b < n) → (n < a) ⊎ (b < n)
    around n x (inl p) = inl (omega arith)
    around n x (inr p) = inr p

    at : (last < a) ⊎ (b < last) → IsClosed rows value last b left
    at (inl x) =
        let low = w.begins in
        let high = w.ends in
        record { apart = w.apart; ordered = omega arith; had = λ n p q. w.had n (omega arith) q; gone = λ n p q. taken_there rows left value (last + 1) a b n w (omega arith) q; stays = λ n p. stays_beside rows left value (last + 1) a b n w (around n x p); after = w.after }
    at (inr x) = let high = w.ends in absurd (omega arith)

pub given_rows : (rows mid left : List InputRow) (value : Tree) (from first last to : ℕ) → IsOpened rows value from first mid → IsClosed mid value last to left → first ≤ last → rows_meet rows first last ≡ false
    → GivesRows first last value rows (with_row (record { first = from; last = to; value = value }) left)
given_rows rows mid left value from first last to o c low free =
    record { apart = p.apart; has = λ n. p.has n ∙ at n (place from to n) (place first last n) }
  where
    new : InputRow
    new = record { first = from; last = to; value = value }

    is_none : (n : ℕ) → first ≤ n → n ≤ last → row_value rows n ≡ None
    is_none n x y = meets_none rows first last n free x y

    nothing : (n : ℕ) → from ≤ n → n ≤ to → row_value left n ≡ None
    nothing n x y = in_place (place first last n)
      where
        in_place : IsWithin first last n → row_value left n ≡ None
        in_place (inside p q t) = c.stays n (inl q) ∙ o.stays n (inr p) ∙ is_none n p q
        in_place (below p t) = c.stays n (inl (omega arith)) ∙ o.gone n x p
        in_place (above p t) = c.gone n p y

    free_of : IsFree left new
    free_of = record {
      apart = c.apart;
      ordered = let a = o.ordered in let b = c.ordered in omega arith;
      free = none_meets left from to c.apart (let a = o.ordered in let b = c.ordered in omega arith) nothing;
      before = λ j q h. let a = o.ordered in o.before j q (sym (c.stays j (inl (omega arith)) ∙ o.stays j (inl (omega arith))) ∙ h);
      after = λ h. let b = c.ordered in c.after (sym (c.stays (to + 1) (inr (omega arith))) ∙ h);
    }

    p : IsPut left new (with_row new left)
    p = row_put left new free_of

    at : (n : ℕ) → IsWithin from to n → IsWithin first last n → cond (nat_le from n && nat_le n to) (Some value) (row_value left n) ≡ cond (nat_le first n && nat_le n last) (Some value) (row_value rows n)
    at n (inside x y t) (inside p q u) = rw (t, u) refl
    at n (inside x y t) (below p u) = rw (t, u) (sym (o.had n x p))
    at n (inside x y t) (above p u) = rw (t, u) (sym (c.had n p y) ∙ o.stays n (inr (omega arith)))
    at n (below x t) (inside p q u) = let a = o.ordered in absurd (omega arith)
    at n (below x t) (below p u) = rw (t, u) (c.stays n (inl (omega arith)) ∙ o.stays n (inl x))
    at n (below x t) (above p u) = let a = o.ordered in absurd (omega arith)
    at n (above x t) (inside p q u) = let b = c.ordered in absurd (omega arith)
    at n (above x t) (below p u) = let b = c.ordered in absurd (omega arith)
    at n (above x t) (above p u) = rw (t, u) (c.stays n (inr x) ∙ o.stays n (inr (omega arith)))
