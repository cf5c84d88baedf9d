-- The evaluation of expressions where these facts are known.
use Rattle.std.specs.Prelude.{ℤ, pos, negsuc, ◌+ℤ◌, ◌-ℤ◌, ◌*ℤ◌, neg_ℤ, int_lt, int_le, ℕ, zero, suc, nat_le, nat_lt, Bool, true, false, not, List, [], ◌∷◌, ◌++◌, length, Option, Some, None, slice_get, if◌then◌else◌}
use Rattle.tp_value.specs.Tree.{Tree, num, truth, list, items_of, of_items, same_tree}
use Rattle.tp_value.specs.Number.{floor_div, floor_mod}
use Rattle.tp_value.specs.Limits.{index_limit, path_limit}
use Rattle.tp_value.specs.declared.value.Shape.{Shape}
use Rattle.tp_value.specs.declared.value.Shape.TheVariants.{Num, Truth, Items}
use Rattle.tp_value.specs.declared.path.Path.{Path}
use Rattle.tp_value.specs.declared.path.Fact.{Fact}
use Rattle.tp_value.specs.Shape.{item_at}
use Rattle.tp_kernel.specs.declared.fault.FaultKind.TheVariants.{WrongKind, ZeroDivisor, NoElement}
use Rattle.tp_kernel.specs.declared.fault.LimitKind.TheVariants as limit
use Rattle.tp_meaning.specs.Syntax.{Operator, Equal, Differs, Less, LessEqual, Greater, GreaterEqual, Plus, Minus, Times, Div, Mod, ExprTree, ExprTrees, numeral, boolean, known, bound, global, listing, size, index, minus, negation, both, either, binary, choice, invoke, no_expr, expr_then, Definition, BindingTree, place_binding, known_binding}
use Rattle.tp_meaning.specs.Value.{is_upper}
use Rattle.tp_store.specs.Facts.{kept_shape, is_excluded, item_path}
use Rattle.tp_store.specs.Known as store
use Rattle.tp_store.specs.Known.{full}
use Rattle.tp_eval.specs.Reached.{waits, passes, reaches, stops, Evaluation, ◌>>=◌, gives, stop, fault, within_numbers, within_lists}

-- the number, the truth value and the items, where the value is of that kind
abbrev pub number_in : Tree → Evaluation ℤ
number_in (num n) = gives n
number_in _ = fault WrongKind

abbrev pub truth_in : Tree → Evaluation Bool
truth_in (truth b) = gives b
truth_in _ = fault WrongKind

abbrev pub list_items : Tree → Evaluation (List Tree)
list_items (list ts) = gives (items_of ts)
list_items _ = fault WrongKind

-- an element, where there is one
abbrev pub element_in : Option Tree → Evaluation Tree
element_in (Some t) = gives t
element_in None = fault NoElement

-- the item at an index from 0
abbrev pub item_in : List Tree → ℤ → Evaluation Tree
item_in ts (pos k) = element_in (slice_get ts k)
item_in ts (negsuc k) = fault NoElement

-- the item of a value at another value; the kinds of both are looked at before the item
abbrev pub item_between : (whole at : Tree) → Evaluation Tree
item_between t u = do
  ts ← list_items t
  n ← number_in u
  item_in ts n

abbrev pub on_divisor_outcome : (ℤ → ℤ → ℤ) → ℤ → ℤ → Evaluation Tree
on_divisor_outcome f a (pos zero) = fault ZeroDivisor
on_divisor_outcome f a b = within_numbers (f a b)

-- numbers are needed on both sides
abbrev pub on_numbers_outcome : (ℤ → ℤ → Evaluation Tree) → Tree → Tree → Evaluation Tree
on_numbers_outcome f s t = do
  a ← number_in s
  b ← number_in t
  f a b

abbrev pub compared : (ℤ → ℤ → Bool) → Tree → Tree → Evaluation Tree
compared f = on_numbers_outcome (λ a b. gives (truth (f a b)))

-- the sum of numbers, and a list after a list
abbrev pub sum_in : Tree → Tree → Evaluation Tree
sum_in (num a) t = number_in t >>= λ b. within_numbers (a +ℤ b)
sum_in (list s) t = list_items t >>= λ us. within_lists (list (of_items (items_of s ++ us)))
sum_in (truth b) t = fault WrongKind

abbrev pub operate_outcome : Operator → Tree → Tree → Evaluation Tree
operate_outcome Equal s t = gives (truth (same_tree s t))
operate_outcome Differs s t = gives (truth (not (same_tree s t)))
operate_outcome Less s t = compared int_lt s t
operate_outcome LessEqual s t = compared int_le s t
operate_outcome Greater s t = compared (λ a b. int_lt b a) s t
operate_outcome GreaterEqual s t = compared (λ a b. int_le b a) s t
operate_outcome Plus s t = sum_in s t
operate_outcome Minus s t = on_numbers_outcome (λ a b. within_numbers (a -ℤ b)) s t
operate_outcome Times s t = on_numbers_outcome (λ a b. within_numbers (a *ℤ b)) s t
operate_outcome Div s t = on_numbers_outcome (on_divisor_outcome floor_div) s t
operate_outcome Mod s t = on_numbers_outcome (on_divisor_outcome floor_mod) s t

abbrev pub negated_in : Tree → Evaluation Tree
negated_in t = truth_in t >>= λ b. gives (truth (not b))

abbrev pub negative_in : Tree → Evaluation Tree
negative_in t = number_in t >>= λ n. within_numbers (neg_ℤ n)

-- What a place is, a name followed by indices: a path, or an element of a known value, at these
-- indices.
pub data PlaceFound : Type 0 where
  at_path : Path → PlaceFound
  inside : Tree → (at : List ℕ) → PlaceFound

-- a name followed by indices
abbrev pub is_place : ExprTree → Bool
is_place (bound i) = true
is_place (global x) = true
is_place (index e i) = is_place e
is_place _ = false

-- the place that a binding is
abbrev pub bound_place : Option BindingTree → Evaluation PlaceFound
bound_place (Some (place_binding p)) = gives (at_path p)
bound_place (Some (known_binding t)) = gives (inside t [])
bound_place None = fault NoElement

-- the greatest depth of an evaluation, and the most calls in one
abbrev pub depth_limit : ℕ
depth_limit = 2000

abbrev pub call_limit : ℕ
call_limit = 100000

-- an index of a place: a number that is at least 0 and within the limit
abbrev pub index_in : Tree → Evaluation ℕ
index_in (num (pos k)) = if nat_le k index_limit then gives k else stop (passes limit.List)
index_in (num (negsuc k)) = fault NoElement
index_in _ = fault WrongKind

-- one index more; a path has no more than its limit
abbrev pub farther : PlaceFound → ℕ → Evaluation PlaceFound
farther (at_path p) k =
    if nat_lt (length p.at) path_limit then gives (at_path (item_path p k))
    else stop (passes limit.List)
farther (inside t at) k = gives (inside t (at ++ k ∷ []))

abbrev pub of_full : store.Full → Evaluation Tree
of_full store.absent = fault NoElement
of_full (store.undecided p) = stop (waits p)
of_full store.too_long = stop (passes limit.List)
of_full (store.value t) = gives t

-- the length of the list at a path that isn't excluded, by the shape there
abbrev pub length_in : Path → Option Shape → Evaluation Tree
length_in p None = stop (waits p)
length_in p (Some (Items n)) = gives (num (pos n))
length_in p (Some (Num n)) = fault WrongKind
length_in p (Some (Truth b)) = fault WrongKind

abbrev pub length_of : Tree → Evaluation Tree
length_of t = list_items t >>= λ ts. gives (num (pos (length ts)))

-- what a parameter is bound to that is given a place
abbrev pub bind_place : PlaceFound → Evaluation BindingTree
bind_place (at_path p) = gives (place_binding p)
bind_place (inside t at) = element_in (item_at at t) >>= λ u. gives (known_binding u)

-- one call more, where there may be one
abbrev pub count_call : Evaluation ℕ
count_call =
    λ calls. if nat_lt calls call_limit then reaches calls (suc calls)
    else stops (passes limit.Calls)

module _ (facts : List Fact) where
  -- the value of a place
  abbrev pub value_at : PlaceFound → Evaluation Tree
  value_at (at_path p) = of_full (full facts p)
  value_at (inside t at) = element_in (item_at at t)

  abbrev pub read_at : Evaluation PlaceFound → Evaluation Tree
  read_at o = o >>= value_at

  -- the size of a place, for which its shape is enough
  abbrev pub size_at : PlaceFound → Evaluation Tree
  size_at (at_path p) =
      if is_excluded facts p then fault NoElement else length_in p (kept_shape facts p)
  size_at (inside t at) = element_in (item_at at t) >>= length_of

-- `operand` evaluates one level deeper
module _ (operand : ExprTree → Evaluation Tree) where
  -- of each from left to right
  abbrev pub each : ExprTrees → Evaluation (List Tree)
  each no_expr = gives []
  each (expr_then e es) = do
    t ← operand e
    ts ← each es
    gives (t ∷ ts)

  -- whether all are true; those after the first false one are not looked at
  abbrev pub all_true : ExprTrees → Evaluation Tree
  all_true no_expr = gives (truth true)
  all_true (expr_then e es) = do
    t ← operand e
    b ← truth_in t
    if b then all_true es else gives (truth false)

  abbrev pub one_true : ExprTree → ExprTree → Evaluation Tree
  one_true a b = do
    t ← operand a
    x ← truth_in t
    if x then gives (truth true) else (operand b >>= truth_in >>= λ y. gives (truth y))

  abbrev pub negated : ExprTree → Evaluation Tree
  negated e = operand e >>= negated_in

  abbrev pub negative : ExprTree → Evaluation Tree
  negative e = operand e >>= negative_in

  abbrev pub operation_outcome : Operator → ExprTree → ExprTree → Evaluation Tree
  operation_outcome o a b = do
    t ← operand a
    u ← operand b
    operate_outcome o t u

  abbrev pub chosen : (condition first second : ExprTree) → Evaluation Tree
  chosen b x y = do
    t ← operand b
    c ← truth_in t
    if c then operand x else operand y

  -- the element of a value that is no place
  abbrev pub element_of : ExprTree → ExprTree → Evaluation Tree
  element_of e i = do
    t ← operand e
    u ← operand i
    item_between t u

-- `operand` and `place` evaluate one level deeper
module _ (operand : ExprTree → Evaluation Tree) (place : ExprTree → Evaluation PlaceFound) where
  -- what a name followed by indices is; each index is looked at before the next one is evaluated
  abbrev pub evaluated_place : List BindingTree → ExprTree → Evaluation PlaceFound
  evaluated_place env (bound i) = bound_place (slice_get env i)
  evaluated_place env (global x) = gives (at_path (record { var = x; at = [] }))
  evaluated_place env (index e i) = do
    p ← place e
    t ← operand i
    k ← index_in t
    farther p k
  evaluated_place env e = fault NoElement

  -- what a parameter is bound to: a place where it is upper-case, a value else
  abbrev pub argument : (upper : Bool) → ExprTree → Evaluation BindingTree
  argument true e = place e >>= bind_place
  argument false e = operand e >>= λ t. gives (known_binding t)

  -- what the parameters are bound to, from left to right
  abbrev pub arguments : ExprTrees → List (List ℕ) → Evaluation (List BindingTree)
  arguments no_expr [] = gives []
  arguments (expr_then e es) (x ∷ xs) = do
    b ← argument (is_upper x) e
    bs ← arguments es xs
    gives (b ∷ bs)
  arguments _ _ = fault NoElement

  module _ (facts : List Fact) (env : List BindingTree) where
    abbrev pub indexed_value : (is_one : Bool) → ExprTree → ExprTree → Evaluation Tree
    indexed_value true e i = evaluated_place env (index e i) >>= value_at facts
    indexed_value false e i = element_of operand e i

    abbrev pub size_of : (is_one : Bool) → ExprTree → Evaluation Tree
    size_of true e = place e >>= size_at facts
    size_of false e = operand e >>= length_of

    -- where `body` evaluates a definition's expression under its arguments
    module _ (defs : List Definition) (body : ExprTree → List BindingTree → Evaluation Tree) where
      abbrev pub body_of : Option ExprTree → List BindingTree → Evaluation Tree
      body_of (Some e) args = body e args
      body_of None args = fault NoElement

      -- a call is counted first
      abbrev pub call : Option Definition → ExprTrees → Evaluation Tree
      call (Some f) es = do
        n ← count_call
        args ← arguments es f.parameters
        body_of f.expr args
      call None es = fault NoElement

      abbrev pub part_value : ExprTree → Evaluation Tree
      part_value (numeral n) = within_numbers n
      part_value (boolean b) = gives (truth b)
      part_value (known t) = within_lists t
      part_value (bound i) = evaluated_place env (bound i) >>= value_at facts
      part_value (global x) = evaluated_place env (global x) >>= value_at facts
      part_value (listing es) = each operand es >>= λ ts. within_lists (list (of_items ts))
      part_value (size e) = size_of (is_place e) e
      part_value (index e i) = indexed_value (is_place e) e i
      part_value (minus e) = negative operand e
      part_value (negation e) = negated operand e
      part_value (both es) = all_true operand es
      part_value (either a b) = one_true operand a b
      part_value (binary o a b) = operation_outcome operand o a b
      part_value (choice b x y) = chosen operand b x y
      part_value (invoke p es) = call (slice_get defs p) es

-- The evaluation of an expression and of a place, where so many levels are left: at none the limit
-- on calls is passed.
module _ (facts : List Fact) (defs : List Definition) where
  abbrev mutual
    pub evaluate : (levels : ℕ) → ExprTree → List BindingTree → Evaluation Tree
    evaluate zero e env = stop (passes limit.Calls)
    evaluate (suc d) e env =
        part_value (λ x. evaluate d x env) (λ x. find_place d x env) facts env defs
        (λ x args. evaluate d x args) e

    pub find_place : (levels : ℕ) → ExprTree → List BindingTree → Evaluation PlaceFound
    find_place zero e env = stop (passes limit.Calls)
    find_place (suc d) e env =
        evaluated_place (λ x. evaluate d x env) (λ x. find_place d x env) env e
