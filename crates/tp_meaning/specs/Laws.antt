-- Laws of values and meanings.
use Rattle.std.specs.Prelude.{◌≡◌, ℤ, pos, ◌+ℤ◌, ◌*ℤ◌, ◌≤ℤ◌, ◌<ℤ◌, ℕ, ◌≤◌, List, Some, ◌⊎◌}
use Rattle.tp_value.specs.Tree.{Tree, num}
use Rattle.tp_meaning.specs.Syntax.{Div, Mod, ExprTree, FormulaTree, Definition}
use Rattle.tp_meaning.specs.Course.{Course, Shows}
use Rattle.tp_meaning.specs.Value.{Env, operate, value}
use Rattle.tp_meaning.specs.Holds.{Context, Holds}

-- a value found at one depth is found at each greater one
abbrev pub ValuesDeepen : Type 0
ValuesDeepen =
    (defs : List Definition) (d d' : ℕ) → d ≤ d'
    → (e : ExprTree) (env : Env) (s : Course) (j : ℕ) (v : Tree) → value defs d e env s j ≡ Some v
    → value defs d' e env s j ≡ Some v

-- what holds at one depth holds at each greater one, with the same shows
abbrev pub MeaningsDeepen : Type 0
MeaningsDeepen =
    (w : Context) (d d' : ℕ) → d ≤ d'
    → (f : FormulaTree) (env : Env) (s : Course) (a b : ℕ) (S : Shows) → Holds w d f env s a b S
    → Holds w d' f env s a b S

-- between 0, which it may be, and the divisor, which it is not
abbrev pub IsRemainder : (divisor r : ℤ) → Type 0
IsRemainder b r = ((pos 0 ≤ℤ r) × (r <ℤ b)) ⊎ ((b <ℤ r) × (r ≤ℤ pos 0))

-- `div` and `mod` by a divisor that is not 0: the quotient is rounded down, and what remains lies
-- on the divisor's side of 0
abbrev pub DivisionRoundsDown : Type 0
DivisionRoundsDown = (a b : ℤ) → (b ≡ pos 0 → ⊥) →
    (q : ℤ) × (r : ℤ) × (operate Div (num a) (num b) ≡ Some (num q))
    × (operate Mod (num a) (num b) ≡ Some (num r)) × (a ≡ (q *ℤ b) +ℤ r) × IsRemainder b r
