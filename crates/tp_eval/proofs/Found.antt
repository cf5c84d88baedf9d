-- Elements, sizes and operators: what is reached is what is meant.
use Rattle.std.proofs.Common.{◌≡◌, ℤ, pos, negsuc, ℕ, zero, suc, ◌<◌, Bool, List, [], ◌∷◌, ◌++◌, length, Option, Some, None, refl, ap, ◌∙◌, arith, slice_get, get_or, drop}
use Rattle.tp_value.specs.Tree.{Tree, Trees, num, truth, list, items_of, of_items}
use Rattle.std.specs.Prelude.{◌+ℤ◌, ◌-ℤ◌, ◌*ℤ◌}
use Rattle.tp_value.specs.Number.{is_within_limit, floor_div}
use Rattle.tp_value.specs.Limits.{is_within_list_limit}
use Rattle.tp_value.specs.Shape.{shape_of, item_of, at_item, shape_at_path, item_at}
use Rattle.tp_value.specs.declared.value.Shape.{Shape}
use Rattle.tp_value.specs.declared.value.Shape.TheVariants.{Num, Truth, Items}
use Rattle.tp_value.specs.declared.path.Fact.{Fact}
use Rattle.tp_kernel.specs.declared.fault.LimitKind.TheVariants as limit
use Rattle.tp_meaning.specs.Syntax.{Operator, Equal, Differs, Less, LessEqual, Greater, GreaterEqual, Plus, Minus, Times, Div, Mod}
use Rattle.tp_meaning.specs.Value as meaning
use Rattle.tp_meaning.specs.Value.{◌>>=◌, list_item, list_of, truth_of, number_of, Meaning, fixed, varying, element}
use Rattle.tp_eval.specs.Reached.{Reached, with_reached, within_numbers, within_lists}
use Rattle.tp_eval.specs.Evaluate.{operate_outcome, truth_in, number_in, list_items, item_in, element_in, length_of}
use Rattle.tp_eval.proofs.Agree.{Agrees, limit_agrees}

-- the length of a list, as a value
abbrev pub sized : Tree → Option Tree
sized t = list_of t >>= λ ts. Some (num (pos (length ts)))

-- the shape at a path is that of the element there
pub shape_of_element : (at : List ℕ) (t : Tree) → shape_at_path at t ≡ (item_at at t >>= λ u. Some (shape_of u))
shape_of_element [] t = refl
shape_of_element (k ∷ ks) t = further (shape_of_element ks) (item_of t k)
  where
    further : ((u : Tree) → shape_at_path ks u ≡ (item_at ks u >>= λ v. Some (shape_of v))) → (o : Option Tree) → at_item o (shape_at_path ks) ≡ ((o >>= item_at ks) >>= λ u. Some (shape_of u))
    further h None = refl
    further h (Some u) = h u

-- an element that has this shape has this size
abbrev pub size_of_shape : Shape → Option Tree
size_of_shape (Items n) = Some (num (pos n))
size_of_shape (Num n) = None
size_of_shape (Truth b) = None

sized_by_shape : (t : Tree) → sized t ≡ size_of_shape (shape_of t)
sized_by_shape (num n) = refl
sized_by_shape (truth b) = refl
sized_by_shape (list ts) = refl

pub size_by_shape : (o : Option Tree) (sh : Shape) → (o >>= λ u. Some (shape_of u)) ≡ Some sh → (o >>= sized) ≡ size_of_shape sh
size_by_shape None sh h = absurd (cc)
size_by_shape (Some t) sh h = let q : shape_of t ≡ sh = cc in sized_by_shape t ∙ ap size_of_shape q

-- the element at more indices
pub element_further : (at ks : List ℕ) (t : Tree) → item_at (at ++ ks) t ≡ (item_at at t >>= item_at ks)
element_further [] ks t = refl
element_further (k ∷ at) ks t = further (element_further at ks) (item_of t k)
  where
    further : ((u : Tree) → item_at (at ++ ks) u ≡ (item_at at u >>= item_at ks)) → (o : Option Tree) → (o >>= item_at (at ++ ks)) ≡ ((o >>= item_at at) >>= item_at ks)
    further h None = refl
    further h (Some u) = h u

pub one_element : (t : Tree) (k : ℕ) → item_at (k ∷ []) t ≡ item_of t k
one_element t k = found (item_of t k)
  where
    found : (o : Option Tree) → (o >>= item_at []) ≡ o
    found None = refl
    found (Some u) = refl

pub element_of_fixed : (o : Option Tree) (k : ℕ) → ((o >>= item_at (k ∷ [])) >>= λ u. Some (fixed u)) ≡ ((o >>= λ u. Some (fixed u)) >>= λ m. element m (num (pos k)))
element_of_fixed None k = refl
element_of_fixed (Some t) k = ap (λ o. o >>= λ u. Some (fixed u)) (one_element t k)

-- a number alone is an index
pub no_element : (o : Option Meaning) (u : Tree) → ((m : Meaning) → element m u ≡ None) → (o >>= λ m. element m u) ≡ None
no_element None u h = refl
no_element (Some m) u h = h m

pub element_below_zero : (k : ℕ) (m : Meaning) → element m (num (negsuc k)) ≡ None
element_below_zero k (fixed t) = refl
element_below_zero k (varying f) = refl

pub element_at_truth : (b : Bool) (m : Meaning) → element m (truth b) ≡ None
element_at_truth b (fixed t) = refl
element_at_truth b (varying f) = refl

pub element_at_list : (ts : Trees) (m : Meaning) → element m (list ts) ≡ None
element_at_list ts (fixed t) = refl
element_at_list ts (varying f) = refl

module _ (facts : List Fact) (Agreeing : Type 0) where
  abbrev Gives : {A : Type 0} → Reached A → Option A → Type 0
  Gives = Agrees facts Agreeing Some

  pub number_agrees : (n : ℤ) (c : ℕ) → Gives (within_numbers n c) (Some (num n))
  number_agrees n c = limit_agrees facts Agreeing Some (is_within_limit n) (num n) limit.Number c

  pub limited_agrees : (t : Tree) (c : ℕ) → Gives (within_lists t c) (Some t)
  limited_agrees t c = limit_agrees facts Agreeing Some (is_within_list_limit t) t limit.List c

  pub truth_agrees : (t : Tree) (c : ℕ) → Gives (truth_in t c) (truth_of t)
  truth_agrees (num n) c = λ w. refl
  truth_agrees (truth b) c = λ w. refl
  truth_agrees (list ts) c = λ w. refl

  pub number_in_agrees : (t : Tree) (c : ℕ) → Gives (number_in t c) (number_of t)
  number_in_agrees (num n) c = λ w. refl
  number_in_agrees (truth b) c = λ w. refl
  number_in_agrees (list ts) c = λ w. refl

  pub element_agrees : (o : Option Tree) (c : ℕ) → Gives (element_in o c) o
  element_agrees None c = λ w. refl
  element_agrees (Some t) c = λ w. refl

  pub length_agrees : (t : Tree) (c : ℕ) → Gives (length_of t c) (sized t)
  length_agrees (num n) c = λ w. refl
  length_agrees (truth b) c = λ w. refl
  length_agrees (list ts) c = λ w. refl

  -- an element of a value that is no place
  pub item_agrees : (t u : Tree) (c : ℕ) → Gives (with_reached (list_items t c) (λ ts c'. with_reached (number_in u c') (item_in ts))) (list_item t u)
  item_agrees (list ts) (num (pos k)) c = element_agrees (slice_get (items_of ts) k) c
  item_agrees (list ts) (num (negsuc k)) c = λ w. refl
  item_agrees (list ts) (truth b) c = λ w. refl
  item_agrees (list ts) (list us) c = λ w. refl
  item_agrees (num n) (num (pos k)) c = λ w. refl
  item_agrees (num n) (num (negsuc k)) c = λ w. refl
  item_agrees (num n) (truth b) c = λ w. refl
  item_agrees (num n) (list us) c = λ w. refl
  item_agrees (truth x) (num (pos k)) c = λ w. refl
  item_agrees (truth x) (num (negsuc k)) c = λ w. refl
  item_agrees (truth x) (truth b) c = λ w. refl
  item_agrees (truth x) (list us) c = λ w. refl

  pub operate_agrees : (o : Operator) (t u : Tree) (c : ℕ) → Gives (operate_outcome o t u c) (meaning.operate o t u)
  operate_agrees Equal t u c = λ w. refl
  operate_agrees Differs t u c = λ w. refl
  operate_agrees Less (num a) (num b) c = λ w. refl
  operate_agrees LessEqual (num a) (num b) c = λ w. refl
  operate_agrees Greater (num a) (num b) c = λ w. refl
  operate_agrees GreaterEqual (num a) (num b) c = λ w. refl
  operate_agrees Plus (num a) (num b) c = number_agrees (a +ℤ b) c
  operate_agrees Plus (list s) (list t) c = limited_agrees (list (of_items (items_of s ++ items_of t))) c
  operate_agrees Minus (num a) (num b) c = number_agrees (a -ℤ b) c
  operate_agrees Times (num a) (num b) c = number_agrees (a *ℤ b) c
  operate_agrees Div (num a) (num (pos zero)) c = λ w. refl
  operate_agrees Div (num a) (num (pos (suc b))) c = number_agrees (floor_div a (pos (suc b))) c
  operate_agrees Div (num a) (num (negsuc b)) c = number_agrees (floor_div a (negsuc b)) c
  operate_agrees Mod (num a) (num (pos zero)) c = λ w. refl
  operate_agrees Mod (num a) (num (pos (suc b))) c = number_agrees (a -ℤ (floor_div a (pos (suc b)) *ℤ pos (suc b))) c
  operate_agrees Mod (num a) (num (negsuc b)) c = number_agrees (a -ℤ (floor_div a (negsuc b) *ℤ negsuc b)) c
  operate_agrees o t u c = λ w. refl

-- one index further down a path
pub one_further : (at : List ℕ) (i k : ℕ) (t : Tree) → i < length at → get_or at i 0 ≡ k → item_at (drop i at) t ≡ (item_of t k >>= item_at (drop (suc i) at))
one_further [] i k t h e = absurd (omega arith)
one_further (x ∷ at) zero k t h e = ap (λ j. item_of t j >>= item_at at) e
one_further (x ∷ at) (suc i) k t h e = one_further at i k t (omega arith) e
