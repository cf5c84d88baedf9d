-- What bound names mean, and the value of an expression.
use Rattle.std.specs.Prelude.{ℤ, pos, negsuc, ◌+ℤ◌, ◌-ℤ◌, ◌*ℤ◌, neg_ℤ, int_lt, int_le, ℕ, zero, suc, nat_le, ◌&&◌, Bool, true, false, not, List, [], ◌∷◌, ◌++◌, length, Option, Some, None, slice_get, if◌then◌else◌}
use Rattle.std.specs.Option.{option_and_then}
use Rattle.tp_value.specs.Tree.{Tree, num, truth, list, items_of, of_items, same_tree}
use Rattle.tp_value.specs.Number.{floor_div}
use Rattle.tp_value.specs.Shape.{item_of, item_at}
use Rattle.tp_meaning.specs.Syntax.{Operator, Equal, Differs, Less, LessEqual, Greater, GreaterEqual, Plus, Minus, Times, Div, Mod, ExprTree, ExprTrees, numeral, boolean, known, bound, global, listing, size, index, minus, negation, both, either, binary, choice, invoke, no_expr, expr_then, Definition}
use Rattle.tp_meaning.specs.Course.{Course}

-- `x ← o` goes on with the value of o, where it has one
infixl 10 ◌>>=◌
abbrev pub ◌>>=◌ : {A B : Type 0} → Option A → (A → Option B) → Option B
o >>= f = option_and_then f o

-- the number, the truth value and the items, where the value is of that kind
abbrev pub number_of : Tree → Option ℤ
number_of (num n) = Some n
number_of _ = None

abbrev pub truth_of : Tree → Option Bool
truth_of (truth b) = Some b
truth_of _ = None

abbrev pub list_of : Tree → Option (List Tree)
list_of (list ts) = Some (items_of ts)
list_of _ = None

-- a number that is at least 0, as an index
abbrev pub index_of : ℤ → Option ℕ
index_of (pos k) = Some k
index_of (negsuc k) = None

-- the item of a list at an index
abbrev pub list_item : Tree → Tree → Option Tree
list_item t i = do
  n ← number_of i
  k ← index_of n
  item_of t k

abbrev pub on_numbers : (ℤ → ℤ → Tree) → Tree → Tree → Option Tree
on_numbers f (num a) (num b) = Some (f a b)
on_numbers f _ _ = None

-- none where the divisor is 0
abbrev pub on_divisor : (ℤ → ℤ → ℤ) → Tree → Tree → Option Tree
on_divisor f (num a) (num (pos zero)) = None
on_divisor f (num a) (num b) = Some (num (f a b))
on_divisor f _ _ = None

-- the sum of numbers, and a list after a list
abbrev pub sum_of : Tree → Tree → Option Tree
sum_of (num a) (num b) = Some (num (a +ℤ b))
sum_of (list s) (list t) = Some (list (of_items (items_of s ++ items_of t)))
sum_of _ _ = None

abbrev pub operate : Operator → Tree → Tree → Option Tree
operate Equal s t = Some (truth (same_tree s t))
operate Differs s t = Some (truth (not (same_tree s t)))
operate Less s t = on_numbers (λ a b. truth (int_lt a b)) s t
operate LessEqual s t = on_numbers (λ a b. truth (int_le a b)) s t
operate Greater s t = on_numbers (λ a b. truth (int_lt b a)) s t
operate GreaterEqual s t = on_numbers (λ a b. truth (int_le b a)) s t
operate Plus s t = sum_of s t
operate Minus s t = on_numbers (λ a b. num (a -ℤ b)) s t
operate Times s t = on_numbers (λ a b. num (a *ℤ b)) s t
operate Div s t = on_divisor floor_div s t
operate Mod s t = on_divisor (λ a b. a -ℤ (floor_div a b *ℤ b)) s t

-- What a bound name means along a course: a fixed value, or something that has a value or none at
-- each position.
pub data Meaning : Type 0 where
  fixed : Tree → Meaning
  varying : (ℕ → Option Tree) → Meaning

-- An environment is a list of meanings, of which the bound name number i has the i-th, from 0.
abbrev pub Env : Type 0
Env = List Meaning

-- the value at a position
abbrev pub meant : ℕ → Meaning → Option Tree
meant j (fixed t) = Some t
meant j (varying f) = f j

-- an element of what varies, or of a fixed value
abbrev pub element : Meaning → Tree → Option Meaning
element (fixed t) i = list_item t i >>= λ u. Some (fixed u)
element (varying f) i = do
  n ← number_of i
  k ← index_of n
  Some (varying (λ j. f j >>= item_at (k ∷ [])))

-- a name that begins with a capital letter: its argument is a place
abbrev pub is_upper : List ℕ → Bool
is_upper [] = false
is_upper (c ∷ cs) = nat_le 65 c && nat_le c 90

-- what the call of a definition with its bindings gives at a position of a course
abbrev pub Calls : Type 0
Calls = ℕ → Env → Course → ℕ → Option Tree

module _ (defs : List Definition) (calls : Calls) where
  abbrev mutual
    -- the value of an expression at a position of a course, where calls give what is handed in
    pub value_by : ExprTree → Env → Course → ℕ → Option Tree
    value_by (numeral n) env s j = Some (num n)
    value_by (boolean b) env s j = Some (truth b)
    value_by (known t) env s j = Some t
    value_by (bound i) env s j = slice_get env i >>= meant j
    value_by (global x) env s j = Some ((s j).values x.number)
    value_by (listing es) env s j = values_by es env s j >>= λ ts. Some (list (of_items ts))
    value_by (size e) env s j = do
      t ← value_by e env s j
      ts ← list_of t
      Some (num (pos (length ts)))
    value_by (index e i) env s j = do
      t ← value_by e env s j
      k ← value_by i env s j
      list_item t k
    value_by (minus e) env s j = do
      t ← value_by e env s j
      n ← number_of t
      Some (num (neg_ℤ n))
    value_by (negation e) env s j = do
      t ← value_by e env s j
      b ← truth_of t
      Some (truth (not b))
    value_by (both es) env s j = all_by es env s j
    value_by (either a b) env s j = do
      t ← value_by a env s j
      x ← truth_of t
      if x then Some (truth true) else (value_by b env s j >>= truth_of >>= λ y. Some (truth y))
    value_by (binary o a b) env s j = do
      t ← value_by a env s j
      u ← value_by b env s j
      operate o t u
    value_by (choice b x y) env s j = do
      t ← value_by b env s j
      c ← truth_of t
      if c then value_by x env s j else value_by y env s j
    value_by (invoke p es) env s j = do
      f ← slice_get defs p
      args ← arguments_by es f.parameters env s j
      calls p args s j

    -- the values of expressions in order
    pub values_by : ExprTrees → Env → Course → ℕ → Option (List Tree)
    values_by no_expr env s j = Some []
    values_by (expr_then e es) env s j = do
      t ← value_by e env s j
      ts ← values_by es env s j
      Some (t ∷ ts)

    -- whether all are true; those after the first false one are not looked at
    pub all_by : ExprTrees → Env → Course → ℕ → Option Tree
    all_by no_expr env s j = Some (truth true)
    all_by (expr_then e es) env s j = do
      t ← value_by e env s j
      b ← truth_of t
      if b then all_by es env s j else Some (truth false)

    -- What a place means, which is a name followed by indices: the indices are read at position j,
    -- the variable varies on.
    pub place_by : ExprTree → Env → Course → ℕ → Option Meaning
    place_by (bound i) env s j = slice_get env i
    place_by (global x) env s j = Some (varying (λ k. Some ((s k).values x.number)))
    place_by (index e i) env s j = do
      m ← place_by e env s j
      k ← value_by i env s j
      element m k
    place_by _ env s j = None

    -- what the parameters mean that are bound to these arguments: places where upper-case, values
    -- else
    pub arguments_by : ExprTrees → List (List ℕ) → Env → Course → ℕ → Option Env
    arguments_by no_expr [] env s j = Some []
    arguments_by (expr_then e es) (x ∷ xs) env s j = do
      m ← if is_upper x then place_by e env s j else (value_by e env s j >>= λ t. Some (fixed t))
      ms ← arguments_by es xs env s j
      Some (m ∷ ms)
    arguments_by _ _ env s j = None

-- The value of a called definition at a depth: that of its expression at one less. At depth 0 there
-- is none.
abbrev pub calls_at : List Definition → ℕ → Calls
calls_at defs zero p args s j = None
calls_at defs (suc d) p args s j = do
  f ← slice_get defs p
  e ← f.expr
  value_by defs (calls_at defs d) e args s j

-- the value of an expression at a depth
abbrev pub value : List Definition → ℕ → ExprTree → Env → Course → ℕ → Option Tree
value defs d = value_by defs (calls_at defs d)
