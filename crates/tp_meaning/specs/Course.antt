-- States, courses of states, intervals, and what is shown on them.
use Rattle.std.specs.Prelude.{ℕ, zero, suc, ◌<◌, List, [], ◌++◌, cond, eqb}
use Rattle.tp_value.specs.Tree.{Tree}

-- a state: its own number, and the value of each variable by the variable's number
pub record State : Type 0 where
  pub own : ℕ
  pub values : ℕ → Tree

-- A course has a state at each of the positions 0, 1, .. An interval is the part of a course from a
-- position a to a position b, where a is at most b: its states are those at a, .., b, and its
-- length is b - a. What lies outside plays no part. Where a is beyond b there is no interval, and
-- nothing that is defined here is meant of it.
abbrev pub Course : Type 0
Course = ℕ → State

-- What is shown: at each position, the lists of values that are shown there, in order.
abbrev pub Shows : Type 0
Shows = ℕ → List (List Tree)

-- what is said of the interval from a position to a position of one course, and of what is shown on
-- it
abbrev pub Part : Type 1
Part = ℕ → ℕ → Shows → Type 0

-- nothing is shown
abbrev pub blank : Shows
blank = λ j. []

-- What the first shows and then what the second shows, at each position. What is shown on an
-- interval is nothing outside of it. So this also puts the shows of two intervals one after
-- another: at a position that they share, those of the earlier one come first.
infixr 6 ◌⊕◌
abbrev pub ◌⊕◌ : Shows → Shows → Shows
S ⊕ T = λ j. S j ++ T j

-- these lists at one position alone
abbrev pub shown_at : ℕ → List (List Tree) → Shows
shown_at a vs = λ j. cond (eqb j a) vs []

-- T k, T (k+1), .., of which there are m
abbrev pub total : ℕ → ℕ → (ℕ → Shows) → Shows
total zero k T = blank
total (suc m) k T = T k ⊕ total m (suc k) T

-- At the cuts with the numbers k, .., m + k what V shows, and between each two what the piece that
-- begins there shows.
abbrev pub woven : ℕ → ℕ → (ℕ → ℕ) → Shows → (ℕ → Shows) → Shows
woven zero k c V T = shown_at (c k) (V k)
woven (suc m) k c V T = shown_at (c k) (V k) ⊕ (T k ⊕ woven m (suc k) c V T)

-- each position before the next
abbrev pub Rising : (ℕ → ℕ) → Type 0
Rising c = (k : ℕ) → c k < c (suc k)
