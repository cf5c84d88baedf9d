-- Which bytes spell a value.
use Rattle.std.specs.Prelude.{◌≡◌, ℕ, ◌+◌, ◌-◌, ◌*◌, ◌==◌, pos, neg_ℤ, Bool, true, false, ◌||◌, List, [], ◌∷◌, ◌++◌, codes, fold, ◌<◌, ◌≤◌, length, slice_range}
use Rattle.std.specs.Char.{is_ascii_digit}
use Rattle.tp_value.specs.declared.phase.Last.{Last}
use Rattle.tp_value.specs.declared.phase.Last.TheVariants.{Bracket, Item, Comma}
use Rattle.tp_value.specs.Tree.{Tree, num, truth, list, of_items}
use Rattle.tp_value.specs.Limits.{IsWithinLimits}

-- spaces and tabs
abbrev pub is_value_blank : ℕ → Bool
is_value_blank b = b == 32 || b == 9

-- no byte but digits
abbrev pub AllDigits : List ℕ → Type 0
AllDigits [] = Unit {0}
AllDigits (b ∷ z) = (is_ascii_digit b ≡ true) × AllDigits z

-- one or more digits
abbrev pub AreDigits : List ℕ → Type 0
AreDigits [] = ⊥
AreDigits (b ∷ z) = AllDigits (b ∷ z)

-- the number with one digit more, a byte
abbrev pub with_digit : ℕ → ℕ → ℕ
with_digit n b = 10 * n + (b - 48)

-- the number that digits spell
abbrev pub decimal_value : List ℕ → ℕ
decimal_value ds = fold with_digit 0 ds

-- the words for the truth values
abbrev pub spelling : Bool → List ℕ
spelling true = codes "true"
spelling false = codes "false"

-- a list whose last part is this may be closed
abbrev pub CanClose : Last → Type 0
CanClose Bracket = Unit {0}
CanClose Item = Unit {0}
CanClose Comma = ⊥

-- an item may follow
abbrev pub TakesItem : Last → Type 0
TakesItem Bracket = Unit {0}
TakesItem Item = ⊥
TakesItem Comma = Unit {0}

mutual
  -- the bytes spell the value: digits, perhaps with a `-` before them, `true`, `false`, or an
  -- unfinished list and `>`
  pub data Spells : List ℕ → Tree → Type 0 where
    digits : (ds : List ℕ) → AreDigits ds → Spells ds (num (pos (decimal_value ds)))
    minus : (ds : List ℕ) → AreDigits ds
        → Spells (codes "-" ++ ds) (num (neg_ℤ (pos (decimal_value ds))))
    word : (b : Bool) → Spells (spelling b) (truth b)
    closed : (s : List ℕ) (ts : List Tree) (last : Last) → Unfinished s ts last → CanClose last
        → Spells (s ++ codes ">") (list (of_items ts))

  -- the bytes spell a list with these items but for its `>`: `<`, then blanks, and items with a
  -- comma between each two; the last part, blanks aside, is named
  pub data Unfinished : List ℕ → List Tree → Last → Type 0 where
    bracket : Unfinished (codes "<") [] Bracket
    blank : (s : List ℕ) (ts : List Tree) (last : Last) (b : ℕ) → Unfinished s ts last
        → is_value_blank b ≡ true → Unfinished (s ++ b ∷ []) ts last
    item : (s : List ℕ) (ts : List Tree) (last : Last) (r : List ℕ) (t : Tree)
        → Unfinished s ts last → TakesItem last → Spells r t
        → Unfinished (s ++ r) (ts ++ t ∷ []) Item
    comma : (s : List ℕ) (ts : List Tree) → Unfinished s ts Item
        → Unfinished (s ++ codes ",") ts Comma

-- the value is spelled by the most bytes that spell one, and it is within the limits
pub record IsRead (bytes : List ℕ) (from : ℕ) (t : Tree) (after : ℕ) : Type 0 where
  pub ordered : from ≤ after
  pub inside : after ≤ length bytes
  pub spelled : Spells (slice_range bytes from after) t
  pub longest : (later : ℕ) (u : Tree) → after < later → later ≤ length bytes
      → ¬ Spells (slice_range bytes from later) u
  pub limits : IsWithinLimits t
