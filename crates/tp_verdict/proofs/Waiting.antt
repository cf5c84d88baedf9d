-- An expression waits for paths of its variables alone.
use Rattle.std.proofs.Common.{◌≡◌, ℤ, pos, negsuc, ◌+ℤ◌, ◌-ℤ◌, ◌*ℤ◌, neg_ℤ, ◌++◌, ℕ, zero, suc, nat_le, nat_lt, Bool, true, false, List, [], length, Option, Some, None, slice_get, refl, sym, subst, arith, if◌then◌else◌}
use Rattle.std.specs.Prelude.{int_lt, int_le}
use Rattle.tp_value.specs.Tree.{Tree, num, truth, list, items_of, of_items}
use Rattle.tp_value.specs.Limits.{index_limit, path_limit, is_within_list_limit}
use Rattle.tp_value.specs.Number.{is_within_limit, floor_div, floor_mod}
use Rattle.tp_value.specs.Shape.{item_at}
use Rattle.tp_value.specs.declared.value.Shape.{Shape}
use Rattle.tp_value.specs.declared.value.Shape.TheVariants.{Num, Truth, Items}
use Rattle.tp_value.specs.declared.path.Path.{Path}
use Rattle.tp_value.specs.declared.path.VarId.{VarId}
use Rattle.tp_value.specs.declared.path.Fact.{Fact}
use Rattle.tp_meaning.specs.Syntax.{Operator, Equal, Differs, Less, LessEqual, Greater, GreaterEqual, Plus, Minus, Times, Div, Mod, ExprTree, ExprTrees, numeral, boolean, known, bound, global, listing, size, index, minus, negation, both, either, binary, choice, invoke, no_expr, expr_then}
use Rattle.tp_meaning.specs.Fits.{ExprFits, ExprsFit, IsVariable}
use Rattle.tp_store.specs.Facts.{kept_shape, is_excluded}
use Rattle.tp_store.specs.Known as store
use Rattle.tp_store.specs.Known.{full, NoClash}
use Rattle.tp_eval.specs.Reached.{Reached, reaches, stops, waits, faults, passes, Evaluation, with_reached, gives, within_numbers, within_lists}
use Rattle.tp_eval.specs.Evaluate.{PlaceFound, at_path, inside, is_place, number_in, truth_in, list_items, element_in, item_in, item_between, on_divisor_outcome, sum_in, operate_outcome, index_in, farther, of_full, length_in, length_of, value_at, size_at, each, all_true, size_of, indexed_value, evaluate, find_place, depth_limit}
use Rattle.tp_eval.specs.Outcome as found
use Rattle.tp_eval.specs.Outcome.{outcome, outcome_reached}
use Rattle.tp_verdict.proofs.Right.{no_item}
use Rattle.tp_verdict.proofs.WholeKnown.{full_var}

module _ (facts : List Fact) (kinds : List Bool) where
  -- a path that is waited for is of one of the variables
  abbrev IsFine : {A : Type 0} → Reached A → Type 0
  IsFine (reaches x c) = Unit {0}
  IsFine (stops (waits p)) = IsVariable kinds p.var
  IsFine (stops (faults k)) = Unit {0}
  IsFine (stops (passes k)) = Unit {0}

  abbrev IsOfVariable : PlaceFound → Type 0
  IsOfVariable (at_path p) = IsVariable kinds p.var
  IsOfVariable (inside t at) = Unit {0}

  -- and so is a place that is reached
  abbrev IsFinePlace : Reached PlaceFound → Type 0
  IsFinePlace (reaches p c) = IsOfVariable p
  IsFinePlace (stops s) = IsFine {A = PlaceFound} (stops s)

  then_fine : {A B : Type 0} (r : Reached A) (f : A → Evaluation B) → IsFine r → ((x : A) (c : ℕ) → IsFine (f x c)) → IsFine (with_reached r f)
  then_fine (reaches x c) f h k = k x c
  then_fine (stops (waits p)) f h k = h
  then_fine (stops (faults j)) f h k = tt
  then_fine (stops (passes j)) f h k = tt

  then_place : {A : Type 0} (r : Reached A) (f : A → Evaluation PlaceFound) → IsFine r → ((x : A) (c : ℕ) → IsFinePlace (f x c)) → IsFinePlace (with_reached r f)
  then_place (reaches x c) f h k = k x c
  then_place (stops (waits p)) f h k = h
  then_place (stops (faults j)) f h k = tt
  then_place (stops (passes j)) f h k = tt

  place_then : {B : Type 0} (r : Reached PlaceFound) (f : PlaceFound → Evaluation B) → IsFinePlace r → ((p : PlaceFound) (c : ℕ) → IsOfVariable p → IsFine (f p c)) → IsFine (with_reached r f)
  place_then (reaches p c) f h k = k p c h
  place_then (stops (waits p)) f h k = h
  place_then (stops (faults j)) f h k = tt
  place_then (stops (passes j)) f h k = tt

  place_place : (r : Reached PlaceFound) (f : PlaceFound → Evaluation PlaceFound) → IsFinePlace r → ((p : PlaceFound) (c : ℕ) → IsOfVariable p → IsFinePlace (f p c)) → IsFinePlace (with_reached r f)
  place_place (reaches p c) f h k = k p c h
  place_place (stops (waits p)) f h k = h
  place_place (stops (faults j)) f h k = tt
  place_place (stops (passes j)) f h k = tt

  if_fine : {B : Type 0} (z : Bool) (x y : Evaluation B) (c : ℕ) → IsFine (x c) → IsFine (y c) → IsFine ((if z then x else y) c)
  if_fine true x y c h k = h
  if_fine false x y c h k = k

  number_fine : (t : Tree) (c : ℕ) → IsFine (number_in t c)
  number_fine (num n) c = tt
  number_fine t c = tt

  truth_fine : (t : Tree) (c : ℕ) → IsFine (truth_in t c)
  truth_fine (truth b) c = tt
  truth_fine t c = tt

  list_fine : (t : Tree) (c : ℕ) → IsFine (list_items t c)
  list_fine (list ts) c = tt
  list_fine t c = tt

  index_fine : (t : Tree) (c : ℕ) → IsFine (index_in t c)
  index_fine (num (pos k)) c = if_fine (nat_le k index_limit) _ _ c tt tt
  index_fine (num (negsuc k)) c = tt
  index_fine t c = tt

  element_fine : (o : Option Tree) (c : ℕ) → IsFine (element_in o c)
  element_fine (Some t) c = tt
  element_fine None c = tt

  item_fine : (ts : List Tree) (n : ℤ) (c : ℕ) → IsFine (item_in ts n c)
  item_fine ts (pos k) c = element_fine (slice_get ts k) c
  item_fine ts (negsuc k) c = tt

  numbers_fine : (n : ℤ) (c : ℕ) → IsFine (within_numbers n c)
  numbers_fine n c = if_fine (is_within_limit n) _ _ c tt tt

  lists_fine : (t : Tree) (c : ℕ) → IsFine (within_lists t c)
  lists_fine t c = if_fine (is_within_list_limit t) _ _ c tt tt

  length_fine : (t : Tree) (c : ℕ) → IsFine (length_of t c)
  length_fine t c = then_fine (list_items t c) _ (list_fine t c) (λ ts c'. tt)

  between_fine : (t u : Tree) (c : ℕ) → IsFine (item_between t u c)
  between_fine t u c = then_fine (list_items t c) _ (list_fine t c) (λ ts c'. then_fine (number_in u c') _ (number_fine u c') (λ n c''. item_fine ts n c''))

  by_numbers : (f : ℤ → ℤ → Evaluation Tree) (t u : Tree) (c : ℕ) → ((m n : ℤ) (c : ℕ) → IsFine (f m n c)) → IsFine (with_reached (number_in t c) (λ m. λ c'. with_reached (number_in u c') (f m)))
  by_numbers f t u c h = then_fine (number_in t c) _ (number_fine t c) (λ m c'. then_fine (number_in u c') _ (number_fine u c') (λ n c''. h m n c''))

  divisor_fine : (f : ℤ → ℤ → ℤ) (m n : ℤ) (c : ℕ) → IsFine (on_divisor_outcome f m n c)
  divisor_fine f m (pos zero) c = tt
  divisor_fine f m (pos (suc n)) c = numbers_fine (f m (pos (suc n))) c
  divisor_fine f m (negsuc n) c = numbers_fine (f m (negsuc n)) c

  sum_fine : (t u : Tree) (c : ℕ) → IsFine (sum_in t u c)
  sum_fine (num m) u c = then_fine (number_in u c) _ (number_fine u c) (λ n c'. numbers_fine (m +ℤ n) c')
  sum_fine (list ts) u c = then_fine (list_items u c) _ (list_fine u c) (λ us c'. lists_fine (list (of_items (items_of ts ++ us))) c')
  sum_fine (truth b) u c = tt

  operate_fine : (o : Operator) (t u : Tree) (c : ℕ) → IsFine (operate_outcome o t u c)
  operate_fine Equal t u c = tt
  operate_fine Differs t u c = tt
  operate_fine Less t u c = by_numbers (λ a b. gives (truth (int_lt a b))) t u c (λ m n c'. tt)
  operate_fine LessEqual t u c = by_numbers (λ a b. gives (truth (int_le a b))) t u c (λ m n c'. tt)
  operate_fine Greater t u c = by_numbers (λ a b. gives (truth (int_lt b a))) t u c (λ m n c'. tt)
  operate_fine GreaterEqual t u c = by_numbers (λ a b. gives (truth (int_le b a))) t u c (λ m n c'. tt)
  operate_fine Plus t u c = sum_fine t u c
  operate_fine Minus t u c = by_numbers (λ a b. within_numbers (a -ℤ b)) t u c (λ m n c'. numbers_fine (m -ℤ n) c')
  operate_fine Times t u c = by_numbers (λ a b. within_numbers (a *ℤ b)) t u c (λ m n c'. numbers_fine (m *ℤ n) c')
  operate_fine Div t u c = by_numbers (on_divisor_outcome floor_div) t u c (λ m n c'. divisor_fine floor_div m n c')
  operate_fine Mod t u c = by_numbers (on_divisor_outcome floor_mod) t u c (λ m n c'. divisor_fine floor_mod m n c')

  -- places, their values and sizes
  full_fine : (p : Path) (o : store.Full) (c : ℕ) → IsVariable kinds p.var → full facts p ≡ o → IsFine (of_full o c)
  full_fine p store.absent c h e = tt
  full_fine p (store.undecided q) c h e = subst (λ (x : VarId). IsVariable kinds x) (sym (full_var facts p q e)) h
  full_fine p store.too_long c h e = tt
  full_fine p (store.value t) c h e = tt

  value_fine : (p : PlaceFound) (c : ℕ) → IsOfVariable p → IsFine (value_at facts p c)
  value_fine (at_path p) c h = full_fine p (full facts p) c h refl
  value_fine (inside t at) c h = element_fine (item_at at t) c

  shape_fine : (p : Path) (o : Option Shape) (c : ℕ) → IsVariable kinds p.var → IsFine (length_in p o c)
  shape_fine p None c h = h
  shape_fine p (Some (Items n)) c h = tt
  shape_fine p (Some (Num n)) c h = tt
  shape_fine p (Some (Truth b)) c h = tt

  size_fine : (p : PlaceFound) (c : ℕ) → IsOfVariable p → IsFine (size_at facts p c)
  size_fine (at_path p) c h = if_fine (is_excluded facts p) _ _ c tt (shape_fine p (kept_shape facts p) c h)
  size_fine (inside t at) c h = then_fine (element_in (item_at at t) c) _ (element_fine (item_at at t) c) (λ u c'. length_fine u c')

  if_place : (z : Bool) (x y : Evaluation PlaceFound) (c : ℕ) → IsFinePlace (x c) → IsFinePlace (y c) → IsFinePlace ((if z then x else y) c)
  if_place true x y c h k = h
  if_place false x y c h k = k

  farther_fine : (p : PlaceFound) (k c : ℕ) → IsOfVariable p → IsFinePlace (farther p k c)
  farther_fine (at_path p) k c h = if_place (nat_lt (length p.at) path_limit) _ _ c h tt
  farther_fine (inside t at) k c h = tt

  module _ (operand : ExprTree → Evaluation Tree) (fine : (e : ExprTree) (c : ℕ) → ExprFits [] kinds e 0 → IsFine (operand e c)) where
    each_fine : (es : ExprTrees) (c : ℕ) → ExprsFit [] kinds es 0 → IsFine (each operand es c)
    each_fine no_expr c h = tt
    each_fine (expr_then e es) c h = then_fine (operand e c) _ (fine e c h.0) (λ t c'. then_fine (each operand es c') _ (each_fine es c' h.1) (λ ts c''. tt))

    all_fine : (es : ExprTrees) (c : ℕ) → ExprsFit [] kinds es 0 → IsFine (all_true operand es c)
    all_fine no_expr c h = tt
    all_fine (expr_then e es) c h = then_fine (operand e c) _ (fine e c h.0) (λ t c'. then_fine (truth_in t c') _ (truth_fine t c') (λ b c''. if_fine b _ _ c'' (all_fine es c'' h.1) tt))

  -- one level deeper
  module _ (operand : ExprTree → Evaluation Tree) (place : ExprTree → Evaluation PlaceFound) where
    size_by : (e : ExprTree) (c : ℕ) → IsFine (operand e c) → IsFinePlace (place e c) → (z : Bool) → IsFine (size_of operand place facts [] z e c)
    size_by e c h k true = place_then (place e c) _ k (λ p c' u. size_fine p c' u)
    size_by e c h k false = then_fine (operand e c) _ h (λ t c'. length_fine t c')

    index_by : (e i : ExprTree) (c : ℕ) → IsFine (operand e c) → IsFinePlace (place e c) → ((c : ℕ) → IsFine (operand i c)) → (z : Bool) → IsFine (indexed_value operand place facts [] z e i c)
    index_by e i c h k g true = place_then (with_reached (place e c) _) _
        (place_place (place e c) _ k (λ p c' u. then_place (operand i c') _ (g c') (λ t l. then_place (index_in t l) _ (index_fine t l) (λ n l'. farther_fine p n l' u))))
        (λ p c' u. value_fine p c' u)
    index_by e i c h k g false = then_fine (operand e c) _ h (λ t c'. then_fine (operand i c') _ (g c') (λ u c''. between_fine t u c''))

  mutual
    evaluate_fine : (d : ℕ) (e : ExprTree) (c : ℕ) → ExprFits [] kinds e 0 → IsFine (evaluate facts [] d e [] c)
    evaluate_fine zero e c h = tt
    evaluate_fine (suc d) (numeral n) c h = numbers_fine n c
    evaluate_fine (suc d) (boolean b) c h = tt
    evaluate_fine (suc d) (known t) c h = lists_fine t c
    evaluate_fine (suc d) (bound i) c h = absurd (omega (arith, h))
    evaluate_fine (suc d) (global x) c h = value_fine (at_path (record { var = x; at = [] })) c h
    evaluate_fine (suc d) (listing es) c h = then_fine (each (λ x. evaluate facts [] d x []) es c) _ (each_fine (λ x. evaluate facts [] d x []) (λ x. evaluate_fine d x) es c h) (λ ts c'. lists_fine (list (of_items ts)) c')
    evaluate_fine (suc d) (size e) c h = size_by (λ x. evaluate facts [] d x []) (λ x. find_place facts [] d x []) e c (evaluate_fine d e c h) (place_fine d e c h) (is_place e)
    evaluate_fine (suc d) (index e i) c h = index_by (λ x. evaluate facts [] d x []) (λ x. find_place facts [] d x []) e i c (evaluate_fine d e c h.0) (place_fine d e c h.0) (λ k. evaluate_fine d i k h.1) (is_place e)
    evaluate_fine (suc d) (minus e) c h = then_fine (evaluate facts [] d e [] c) _ (evaluate_fine d e c h) (λ t c'. then_fine (number_in t c') _ (number_fine t c') (λ n c''. numbers_fine (neg_ℤ n) c''))
    evaluate_fine (suc d) (negation e) c h = then_fine (evaluate facts [] d e [] c) _ (evaluate_fine d e c h) (λ t c'. then_fine (truth_in t c') _ (truth_fine t c') (λ b c''. tt))
    evaluate_fine (suc d) (both es) c h = all_fine (λ x. evaluate facts [] d x []) (λ x. evaluate_fine d x) es c h
    evaluate_fine (suc d) (either a b) c h = then_fine (evaluate facts [] d a [] c) _ (evaluate_fine d a c h.0) (λ t c'. then_fine (truth_in t c') _ (truth_fine t c') (λ x c''. if_fine x _ _ c'' tt
        (then_fine (with_reached (evaluate facts [] d b [] c'') truth_in) _ (then_fine (evaluate facts [] d b [] c'') _ (evaluate_fine d b c'' h.1) (λ u k. truth_fine u k)) (λ y k. tt))))
    evaluate_fine (suc d) (binary o a b) c h = then_fine (evaluate facts [] d a [] c) _ (evaluate_fine d a c h.0) (λ t c'. then_fine (evaluate facts [] d b [] c') _ (evaluate_fine d b c' h.1) (λ u c''. operate_fine o t u c''))
    evaluate_fine (suc d) (choice b x y) c h = then_fine (evaluate facts [] d b [] c) _ (evaluate_fine d b c h.0) (λ t c'. then_fine (truth_in t c') _ (truth_fine t c') (λ z c''. if_fine z _ _ c'' (evaluate_fine d x c'' h.1) (evaluate_fine d y c'' h.2)))
    evaluate_fine (suc d) (invoke p es) c h = absurd (no_item p h.0 h.2)

    place_fine : (d : ℕ) (e : ExprTree) (c : ℕ) → ExprFits [] kinds e 0 → IsFinePlace (find_place facts [] d e [] c)
    place_fine zero e c h = tt
    place_fine (suc d) (bound i) c h = absurd (omega (arith, h))
    place_fine (suc d) (global x) c h = h
    place_fine (suc d) (index e i) c h = place_place (find_place facts [] d e [] c) _ (place_fine d e c h.0) (λ p c' u.
        then_place (evaluate facts [] d i [] c') _ (evaluate_fine d i c' h.1) (λ t k. then_place (index_in t k) _ (index_fine t k) (λ n k'. farther_fine p n k' u)))
    place_fine (suc d) e c h = tt

  wait_of : (r : Reached Tree) (p : Path) → IsFine r → outcome_reached r ≡ found.wait p → IsVariable kinds p.var
  wait_of (reaches t c) p h e = absurd (cc)
  wait_of (stops (waits q)) p h e = let s : q ≡ p = cc in subst (λ (x : Path). IsVariable kinds x.var) s h
  wait_of (stops (faults k)) p h e = absurd (cc)
  wait_of (stops (passes k)) p h e = absurd (cc)

  pub waits_for_variables : (e : ExprTree) → ExprFits [] kinds e 0 → (p : Path) → outcome facts [] e [] ≡ found.wait p → IsVariable kinds p.var
  unfolding outcome
  waits_for_variables e h p q = wait_of (evaluate facts [] depth_limit e [] 0) p (evaluate_fine depth_limit e 0 h) q
