-- The limits on values, lengths and paths.
use Rattle.std.specs.Prelude.{ℕ, ◌+◌, ◌≤◌, ◌&&◌, max, Bool, nat_le}
use Rattle.tp_value.specs.Number.{IsNumber}
use Rattle.tp_value.specs.Tree.{Tree, Trees, num, truth, list, nil, cons}

-- how many items a value has at most, counted at every depth
abbrev pub item_limit : ℕ
item_limit = 65536

-- how deep a value is at most
abbrev pub value_depth_limit : ℕ
value_depth_limit = 100

-- the greatest index of a path, how many indices it has at most, and the greatest length in a fact
abbrev pub index_limit : ℕ
index_limit = 65535

abbrev pub path_limit : ℕ
path_limit = 100

abbrev pub length_limit : ℕ
length_limit = 65536

-- how many items a value has, counted at every depth
abbrev mutual
  pub items_in : Tree → ℕ
  items_in (num n) = 0
  items_in (truth b) = 0
  items_in (list ts) = items_within ts

  -- those of some values, with the values themselves
  pub items_within : Trees → ℕ
  items_within nil = 0
  items_within (cons t ts) = (1 + items_in t) + items_within ts

-- how deep a value is: a number or truth value 0, a list one more than its deepest item
abbrev mutual
  pub depth_of : Tree → ℕ
  depth_of (num n) = 0
  depth_of (truth b) = 0
  depth_of (list ts) = 1 + greatest_depth ts

  pub greatest_depth : Trees → ℕ
  greatest_depth nil = 0
  greatest_depth (cons t ts) = max (depth_of t) (greatest_depth ts)

-- whether a value is within the limits on items and depth
abbrev pub is_within_list_limit : Tree → Bool
is_within_list_limit t = nat_le (depth_of t) value_depth_limit && nat_le (items_in t) item_limit

-- each number in the value is within the limit
abbrev mutual
  pub HasNumbers : Tree → Type 0
  HasNumbers (num n) = IsNumber n
  HasNumbers (truth b) = Unit {0}
  HasNumbers (list ts) = HaveNumbers ts

  pub HaveNumbers : Trees → Type 0
  HaveNumbers nil = Unit {0}
  HaveNumbers (cons t ts) = HasNumbers t × HaveNumbers ts

-- the value is within the limits on numbers, items and depth
pub record IsWithinLimits (t : Tree) : Type 0 where
  pub items : items_in t ≤ item_limit
  pub depth : depth_of t ≤ value_depth_limit
  pub numbers : HasNumbers t
