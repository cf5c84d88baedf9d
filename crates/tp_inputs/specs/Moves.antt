-- What the calls on ranges and on a port change.
use Rattle.std.specs.Prelude.{◌≡◌, ◌≢◌, ℕ, suc, ◌+◌, ◌<◌, ◌≤◌, ◌⊎◌, ◌&&◌, nat_le, true, List, Option, Some, None, if◌then◌else◌}
use Rattle.tp_value.specs.Tree.{Tree}
use Rattle.tp_meaning.specs.Inputs.{InputRow, InputPort, row_value}
use Rattle.tp_inputs.specs.declared.span.Span.{Span}
use Rattle.tp_inputs.specs.Spans.{are_rows, is_told, span_has, is_others}

-- The row from a to b is taken away, which has the state and the value; the states beside it have
-- another value, or none.
pub record IsTaken (rows : List InputRow) (state : ℕ) (value : Tree) (a b : ℕ)
    (left : List InputRow) : Type 0 where
  pub apart : are_rows left ≡ true
  pub begins : a ≤ state
  pub ends : state ≤ b
  pub had : (n : ℕ) → a ≤ n → n ≤ b → row_value rows n ≡ Some value
  pub has : (n : ℕ) → row_value left n
      ≡ (if nat_le a n && nat_le n b then None else row_value rows n)
  pub before : (k : ℕ) → suc k ≡ a → row_value rows k ≢ Some value
  pub after : row_value rows (b + 1) ≢ Some value

abbrev pub TakesRow : List InputRow → ℕ → Tree → Option (ℕ × ℕ) → List InputRow → Type 0
TakesRow rows state value None left = (left ≡ rows) × (row_value rows state ≢ Some value)
TakesRow rows state value (Some e) left = IsTaken rows state value e.0 e.1 left

-- what had the value in the states from `from` on, up to first, is taken away, and before it
-- another value stands, or none
pub record IsOpened (rows : List InputRow) (value : Tree) (from first : ℕ) (left : List InputRow)
    : Type 0 where
  pub apart : are_rows left ≡ true
  pub ordered : from ≤ first
  pub had : (n : ℕ) → from ≤ n → n < first → row_value rows n ≡ Some value
  pub gone : (n : ℕ) → from ≤ n → n < first → row_value left n ≡ None
  pub stays : (n : ℕ) → (n < from) ⊎ (first ≤ n) → row_value left n ≡ row_value rows n
  pub before : (j : ℕ) → suc j ≡ from → row_value rows j ≢ Some value

-- and the same of the states behind last, up to `to`
pub record IsClosed (rows : List InputRow) (value : Tree) (last to : ℕ) (left : List InputRow)
    : Type 0 where
  pub apart : are_rows left ≡ true
  pub ordered : last ≤ to
  pub had : (n : ℕ) → last < n → n ≤ to → row_value rows n ≡ Some value
  pub gone : (n : ℕ) → last < n → n ≤ to → row_value left n ≡ None
  pub stays : (n : ℕ) → (n ≤ last) ⊎ (to < n) → row_value left n ≡ row_value rows n
  pub after : row_value rows (to + 1) ≢ Some value

-- the states from a to b have the value besides
pub record GivesRows (a b : ℕ) (value : Tree) (rows more : List InputRow) : Type 0 where
  pub apart : are_rows more ≡ true
  pub has : (n : ℕ) → row_value more n
      ≡ (if nat_le a n && nat_le n b then Some value else row_value rows n)

-- the port has the value besides for the span
pub record GivesPort (span : Span) (value : Tree) (p q : InputPort) : Type 0 where
  pub apart : are_rows q.rows ≡ true
  pub told : is_told q ≡ true
  pub has : (n : ℕ) → row_value q.rows n
      ≡ (if span_has span n then Some value else row_value p.rows n)
  pub default : q.default ≡ (if is_others span then Some value else p.default)
