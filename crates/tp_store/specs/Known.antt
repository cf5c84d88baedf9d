-- What is known of a state: facts without a clash, and the names of its variables.
use Rattle.std.specs.Prelude.{◌≡◌, ℕ, zero, suc, Bool, true, false, ◌||◌, nat_lt, max, List, [], ◌∷◌, filter, length, map, Option, Some, None, if◌then◌else◌, slice_get, eqb, ◌&&◌}
use Rattle.tp_value.specs.Tree.{Tree, num, truth, list, of_items, same_truth}
use Rattle.tp_value.specs.Globals.{is_lower}
use Rattle.tp_value.specs.Limits.{is_within_list_limit}
use Rattle.tp_value.specs.declared.value.Shape.{Shape}
use Rattle.tp_value.specs.declared.value.Shape.TheVariants.{Num, Truth, Items}
use Rattle.tp_value.specs.declared.path.VarId.{VarId}
use Rattle.tp_value.specs.declared.path.Path.{Path}
use Rattle.tp_value.specs.declared.path.Fact.{Fact}
use Rattle.tp_store.specs.Facts.{clash, kept_shape, is_excluded, item_path}

-- some fact of the list clashes with this one
abbrev pub clashes_with_some : List Fact → Fact → Bool
clashes_with_some [] f = false
clashes_with_some (g ∷ gs) f = clash g f || clashes_with_some gs f

abbrev pub is_none : {A : Type 0} → Option A → Bool
is_none None = true
is_none (Some a) = false

-- no path stands twice, and no two facts clash
abbrev pub NoClash : List Fact → Type 0
NoClash [] = Unit {0}
NoClash (f ∷ fs) = (kept_shape fs f.path ≡ None) × (clashes_with_some fs f ≡ false) × NoClash fs

-- the lesser indices come first: fewer, or as many and with the lesser index where they first
-- differ
abbrev pub is_lesser : List ℕ → List ℕ → Bool
is_lesser [] [] = false
is_lesser [] (k ∷ ks) = true
is_lesser (j ∷ js) [] = false
is_lesser (j ∷ js) (k ∷ ks) = nat_lt j k || (eqb j k && is_lesser js ks)

abbrev pub is_earlier : Fact → Fact → Bool
is_earlier f g =
    let m = length f.path.at in
    let n = length g.path.at in
    nat_lt m n || (eqb m n && is_lesser f.path.at g.path.at)

abbrev pub earlier_of : Fact → Option Fact → Fact
earlier_of f None = f
earlier_of f (Some g) = if is_earlier g f then g else f

-- of the facts that clash with this one, that with the fewest indices, and among these with the
-- lesser ones
abbrev pub first_clash : List Fact → Fact → Option Fact
first_clash [] f = None
first_clash (g ∷ gs) f =
    if clash g f then Some (earlier_of g (first_clash gs f)) else first_clash gs f

-- what comes of adding facts: those that are new, or the first of them that clashes, with the kept
-- one that it clashes with
pub data Addition : Type 0 where
  adds : List Fact → Addition
  refuses : (kept new : Fact) → Addition

-- those that aren't kept yet, in order
abbrev pub new_facts : List Fact → List Fact → List Fact
new_facts kept news = filter (λ f. is_none (kept_shape kept f.path)) news

abbrev pub refused_or : Option Fact → Fact → Addition → Addition
refused_or None f rest = rest
refused_or (Some g) f rest = refuses g f

abbrev pub checked : (kept facts : List Fact) → Addition → Addition
checked kept [] o = o
checked kept (f ∷ fs) o = refused_or (first_clash kept f) f (checked kept fs o)

-- what comes of adding these facts, which don't clash with each other, to those that are kept
abbrev pub addition : (kept facts : List Fact) → Addition
addition kept facts = checked kept facts (adds (new_facts kept facts))

-- what is known of the value at a path: the whole value, or the first path of it without a shape
pub data Whole : Type 0 where
  known : Tree → Whole
  open_at : Path → Whole

pub data WholeItems : Type 0 where
  all_known : List Tree → WholeItems
  item_open_at : Path → WholeItems

abbrev pub and_items : Whole → WholeItems → WholeItems
and_items (open_at q) rest = item_open_at q
and_items (known t) (item_open_at q) = item_open_at q
and_items (known t) (all_known ts) = all_known (t ∷ ts)

abbrev pub list_of_items : WholeItems → Whole
list_of_items (all_known ts) = known (list (of_items ts))
list_of_items (item_open_at q) = open_at q

-- m items from index k on, of which each is known as far as `item` says
abbrev pub items_known : (item : Path → Whole) → Path → (m k : ℕ) → WholeItems
items_known item p zero k = all_known []
items_known item p (suc m) k = and_items (item (item_path p k)) (items_known item p m (suc k))

abbrev pub with_shape : (item : Path → Whole) → Path → Option Shape → Whole
with_shape item p None = open_at p
with_shape item p (Some (Num n)) = known (num n)
with_shape item p (Some (Truth b)) = known (truth b)
with_shape item p (Some (Items n)) = list_of_items (items_known item p n 0)

-- The whole value at a path, where no kept path has as many as `deeper` indices more: its items are
-- looked at from the left, each with all that is in it.
abbrev pub whole : (deeper : ℕ) → List Fact → Path → Whole
whole zero facts p = open_at p
whole (suc d) facts p = with_shape (whole d facts) p (kept_shape facts p)

-- the greatest number of indices of a kept path
abbrev pub deepest : List Fact → ℕ
deepest [] = 0
deepest (f ∷ fs) = max (length f.path.at) (deepest fs)

-- What is known of the value at a path: there is no such element, the shape of this path isn't kept
-- yet, it is longer than a list may be, or it is this value.
pub data Full : Type 0 where
  absent : Full
  undecided : Path → Full
  too_long : Full
  value : Tree → Full

abbrev pub limited : Whole → Full
limited (open_at q) = undecided q
limited (known t) = if is_within_list_limit t then value t else too_long

abbrev pub full : List Fact → Path → Full
full facts p = if is_excluded facts p then absent else limited (whole (suc (deepest facts)) facts p)

-- a variable of a store: its source name, and whether it is static
pub record Variable : Type 0 where
  pub name : List ℕ
  pub lasting : Bool

-- What a store holds: its facts, whose order is open, and its variables, of which the i-th, from 0,
-- has number i.
pub record Contents : Type 0 where
  pub facts : List Fact
  pub variables : List Variable

abbrev pub global_variable : List ℕ → Variable
global_variable name = record { name = name; lasting = is_lower name }

-- no facts, and the variables of these names
abbrev pub new_store : List (List ℕ) → Contents
new_store names = record { facts = []; variables = map global_variable names }

-- The variable is one of the store's.
abbrev pub IsVariableOf : List Variable → VarId → Type 0
IsVariableOf xs x = slice_get (map (λ v. v.lasting) xs) x.number ≡ Some x.lasting

-- each fact is of a variable of the store's
abbrev pub AreOfVariables : List Variable → List Fact → Type 0
AreOfVariables xs [] = Unit {0}
AreOfVariables xs (f ∷ fs) = IsVariableOf xs f.path.var × AreOfVariables xs fs

-- the name, where it is static as asked for
abbrev pub name_where : (lasting : Bool) → Option Variable → Option (List ℕ)
name_where lasting None = None
name_where lasting (Some v) = if same_truth v.lasting lasting then Some v.name else None

-- the source name of a variable, where it is one of the store's
abbrev pub name_of : List Variable → VarId → Option (List ℕ)
name_of xs x = name_where x.lasting (slice_get xs x.number)

-- the facts of static variables
abbrev pub lasting_facts : List Fact → List Fact
lasting_facts = filter (λ f. f.path.var.lasting)

-- the facts of the variables whose number is less than `below`
abbrev pub facts_below : ℕ → List Fact → List Fact
facts_below below = filter (λ f. nat_lt f.path.var.number below)
