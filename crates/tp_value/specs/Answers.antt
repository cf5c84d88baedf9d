-- What reading a value answers.
use Rattle.std.specs.Prelude.{◌≡◌, ℕ, ℤ, ◌+◌, ◌<◌, ◌≤◌, ◌==◌, Bool, true, false, ◌&&◌, ◌||◌, if◌then◌else◌, List, [], ◌∷◌, ◌++◌, length, fold, slice_index, slice_range, Result, Ok, Err}
use Rattle.std.specs.Char.{is_ascii_digit}
use Rattle.tp_value.specs.declared.reading.ReadValue.{ReadValue}
use Rattle.tp_value.specs.declared.reading.ReadValue.TheVariants.{NoValue, TooLarge, TooLong, TooDeep, NoMemory}
use Rattle.tp_value.specs.declared.value.Value.{Value}
use Rattle.tp_value.specs.Number.{IsNumber}
use Rattle.tp_value.specs.Read.{tree}
use Rattle.tp_value.specs.Tree.{Tree, num, truth, list}
use Rattle.tp_value.specs.Limits.{item_limit, value_depth_limit, depth_of, HasNumbers}
use Rattle.tp_value.specs.Spelling.{is_value_blank, Spells}
use Rattle.tp_value.specs.Reading.{begins_value}

-- the bytes begin the text of a value
abbrev pub BeginsValue : List ℕ → Type 0
BeginsValue p = (rest : List ℕ) × (t : Tree) × Spells (p ++ rest) t

-- how often a byte occurs
abbrev pub occurrences : ℕ → List ℕ → ℕ
occurrences b [] = 0
occurrences b (c ∷ z) = (if c == b then 1 else 0) + occurrences b z

-- how many items have begun, and whether one is due, since the last byte, blanks aside, is `<` or
-- `,`
pub record Begun : Type 0 where
  pub count : ℕ
  pub due : Bool

-- the same with one byte more
abbrev pub with_byte : Begun → ℕ → Begun
with_byte s b =
    if is_value_blank b then s
    else record {
      count = (if s.due && begins_value b then s.count + 1 else s.count);
      due = b == 60 || b == 44;
    }

-- what has begun in some bytes
abbrev pub begun_in : List ℕ → Begun
begun_in p = fold with_byte (record { count = 0; due = false }) p

-- the bytes begin the text of a value within the limits on numbers and depth
pub record BeginsWithinLimits (p : List ℕ) : Type 0 where
  pub rest : List ℕ
  pub value : Tree
  pub spelled : Spells (p ++ rest) value
  pub depth : depth_of value ≤ value_depth_limit
  pub numbers : HasNumbers value

-- no limit is passed so far: the bytes begin the text of a value within the limits on numbers and
-- depth, and have not too many items
pub record IsWithinSoFar (p : List ℕ) : Type 0 where
  pub begins : BeginsWithinLimits p
  pub items : (begun_in p).count ≤ item_limit

-- no bytes spell a value, and the byte at the place, or the end, is the first at which no value's
-- text goes on
pub record IsNoValue (bytes : List ℕ) (from at : ℕ) : Type 0 where
  pub ordered : from ≤ at
  pub inside : at ≤ length bytes
  pub so_far : IsWithinSoFar (slice_range bytes from at)
  pub stops : at < length bytes → ¬ BeginsValue (slice_range bytes from (at + 1))
  pub nothing : (to : ℕ) (t : Tree) → from ≤ to → to ≤ length bytes
      → ¬ Spells (slice_range bytes from to) t

-- a number begins at the place, since it is the first or an item is due there, and the bytes from
-- there to another place spell a number past the limit
pub record IsTooLarge (bytes : List ℕ) (from at : ℕ) : Type 0 where
  pub ordered : from ≤ at
  pub so_far : IsWithinSoFar (slice_range bytes from at)
  pub starts : from < at → (begun_in (slice_range bytes from at)).due ≡ true
  pub to : ℕ
  pub inside : to ≤ length bytes
  pub number : (n : ℤ) × Spells (slice_range bytes at to) (num n) × ¬ IsNumber n
  pub goes_on : BeginsValue (slice_range bytes from to)
  pub items : (begun_in (slice_range bytes from to)).count ≤ item_limit

-- one item more than the limit begins at the place
pub record IsTooLong (bytes : List ℕ) (from at : ℕ) : Type 0 where
  pub ordered : from ≤ at
  pub inside : at < length bytes
  pub so_far : IsWithinSoFar (slice_range bytes from at)
  pub goes_on : BeginsValue (slice_range bytes from (at + 1))
  pub item : (begun_in (slice_range bytes from (at + 1))).count ≡ item_limit + 1

-- the `<` at the place opens a list where as many are open as the limit allows, and begins no item
-- too many
pub record IsTooDeep (bytes : List ℕ) (from at : ℕ) : Type 0 where
  pub ordered : from ≤ at
  pub inside : at < length bytes
  pub so_far : IsWithinSoFar (slice_range bytes from at)
  pub goes_on : BeginsValue (slice_range bytes from (at + 1))
  pub bracket : slice_index bytes at ≡ 60
  pub open_lists : occurrences 60 (slice_range bytes from at)
      ≡ occurrences 62 (slice_range bytes from at) + value_depth_limit
  pub items : (begun_in (slice_range bytes from (at + 1))).count ≤ item_limit

-- when each refusal comes; want of memory may come at any time
abbrev pub IsReadRefused : List ℕ → ℕ → ReadValue → Type 0
IsReadRefused bytes from (NoValue at) = IsNoValue bytes from at
IsReadRefused bytes from (TooLarge at) = IsTooLarge bytes from at
IsReadRefused bytes from (TooLong at) = IsTooLong bytes from at
IsReadRefused bytes from (TooDeep at) = IsTooDeep bytes from at
IsReadRefused bytes from NoMemory = Unit {0}

-- the bytes go on with no digit
abbrev pub EndsNumber : List ℕ → Type 0
EndsNumber [] = Unit {0}
EndsNumber (b ∷ z) = is_ascii_digit b ≡ false

-- the bytes do not make the value's text that of a longer number
abbrev pub CannotContinue : Tree → List ℕ → Type 0
CannotContinue (num n) rest = EndsNumber rest
CannotContinue (truth b) rest = Unit {0}
CannotContinue (list ts) rest = Unit {0}

-- the value is read with this place after it, unless memory is wanting
abbrev pub IsReadBack : Tree → ℕ → Result (Value × ℕ) ReadValue → Type 0
IsReadBack t after (Ok p) = (tree p.0 ≡ t) × (p.1 ≡ after)
IsReadBack t after (Err e) = e ≡ NoMemory
