-- Facts, and when they clash.
use Rattle.std.specs.Prelude.{◌≡◌, ℕ, suc, Bool, true, false, not, ◌&&◌, ◌||◌, eqb, nat_lt, List, [], ◌∷◌, ◌++◌, Option, Some, None, if◌then◌else◌}
use Rattle.std.specs.Ordering.{int_eq}
use Rattle.tp_value.specs.Tree.{Tree, Trees, num, truth, list, nil, cons, same_truth}
use Rattle.tp_value.specs.Shape.{shape_of, shape_at_path}
use Rattle.tp_value.specs.declared.value.Shape.{Shape}
use Rattle.tp_value.specs.declared.value.Shape.TheVariants.{Num, Truth, Items}
use Rattle.tp_value.specs.declared.path.VarId.{VarId}
use Rattle.tp_value.specs.declared.path.Path.{Path}
use Rattle.tp_value.specs.declared.path.Fact.{Fact}

abbrev pub same_variable : VarId → VarId → Bool
same_variable x y = eqb x.number y.number && same_truth x.lasting y.lasting

abbrev pub same_indices : List ℕ → List ℕ → Bool
same_indices [] [] = true
same_indices [] (k ∷ ks) = false
same_indices (j ∷ js) [] = false
same_indices (j ∷ js) (k ∷ ks) = eqb j k && same_indices js ks

abbrev pub same_path : Path → Path → Bool
same_path p q = same_variable p.var q.var && same_indices p.at q.at

abbrev pub same_shape : Shape → Shape → Bool
same_shape (Num m) (Num n) = int_eq m n
same_shape (Truth a) (Truth b) = same_truth a b
same_shape (Items m) (Items n) = eqb m n
same_shape (Num m) s = false
same_shape (Truth a) s = false
same_shape (Items m) s = false

-- the shape has an item with this index
abbrev pub has_item : Shape → ℕ → Bool
has_item (Items n) k = nat_lt k n
has_item (Num n) k = false
has_item (Truth b) k = false

-- A shape at the indices `at` leaves no element at the indices `beyond`: these go on from `at` with
-- an index that the shape has no item for.
abbrev pub leaves_out : (at : List ℕ) → Shape → (beyond : List ℕ) → Bool
leaves_out [] sh [] = false
leaves_out [] sh (k ∷ ks) = not (has_item sh k)
leaves_out (j ∷ js) sh [] = false
leaves_out (j ∷ js) sh (k ∷ ks) = eqb j k && leaves_out js sh ks

-- the fact gives a proper prefix of the path a shape that has no such element
abbrev pub excludes : Fact → Path → Bool
excludes f p = same_variable f.path.var p.var && leaves_out f.path.at f.shape p.at

-- Two facts clash where they give one path two shapes, or where one excludes the other's path.
abbrev pub clash : Fact → Fact → Bool
clash f g =
    (same_path f.path g.path && not (same_shape f.shape g.shape))
    || (excludes f g.path || excludes g f.path)

-- The shape that a fact of the list gives to the path. In a list without a clash there is one such
-- shape at most.
abbrev pub kept_shape : List Fact → Path → Option Shape
kept_shape [] p = None
kept_shape (f ∷ fs) p = if same_path f.path p then Some f.shape else kept_shape fs p

-- some fact of the list excludes the path
abbrev pub is_excluded : List Fact → Path → Bool
is_excluded [] p = false
is_excluded (f ∷ fs) p = excludes f p || is_excluded fs p

-- the path of an item of what stands at a path
abbrev pub item_path : Path → ℕ → Path
item_path p k = record { var = p.var; at = p.at ++ k ∷ [] }

abbrev pub fact : Path → Shape → Fact
fact p sh = record { path = p; shape = sh }

-- The facts of a value at a path: its shape there, and then the facts of its items in order.
abbrev mutual
  pub facts_at : Path → Tree → List Fact
  facts_at p (num n) = fact p (Num n) ∷ []
  facts_at p (truth b) = fact p (Truth b) ∷ []
  facts_at p (list ts) = fact p (shape_of (list ts)) ∷ facts_of_items p 0 ts

  -- of the items from index k on
  pub facts_of_items : Path → (k : ℕ) → Trees → List Fact
  facts_of_items p k nil = []
  facts_of_items p k (cons t ts) = facts_at (item_path p k) t ++ facts_of_items p (suc k) ts

-- the values of the variables by their numbers agree with a fact, or with each of several
abbrev pub AgreesWith : (ℕ → Tree) → Fact → Type 0
AgreesWith values f = shape_at_path f.path.at (values f.path.var.number) ≡ Some f.shape

abbrev pub AgreesWithAll : (ℕ → Tree) → List Fact → Type 0
AgreesWithAll values [] = Unit {0}
AgreesWithAll values (f ∷ fs) = AgreesWith values f × AgreesWithAll values fs
