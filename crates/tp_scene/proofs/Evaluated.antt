-- What an evaluation gives, told by its parts, for any properties of expressions, bindings and outcomes that are closed under what evaluation does.
use Rattle.std.proofs.Common.{◌≡◌, ℤ, pos, negsuc, ◌+ℤ◌, ◌-ℤ◌, ◌*ℤ◌, neg_ℤ, ℕ, zero, suc, nat_le, nat_lt, Bool, true, false, List, [], ◌∷◌, ◌++◌, length, Option, Some, None, refl, sym, slice_get, if◌then◌else◌}
use Rattle.std.specs.Option.{option_and_then}
use Rattle.tp_value.specs.Tree.{Tree, Trees, num, truth, list, items_of, of_items}
use Rattle.tp_value.specs.Shape.{item_of, item_at}
use Rattle.tp_value.specs.Number.{is_within_limit, floor_div, floor_mod}
use Rattle.tp_value.specs.Limits.{index_limit, path_limit, is_within_list_limit}
use Rattle.tp_value.specs.declared.value.Shape.{Shape}
use Rattle.tp_value.specs.declared.value.Shape.TheVariants.{Num, Truth, Items}
use Rattle.tp_value.specs.declared.path.Path.{Path}
use Rattle.tp_value.specs.declared.path.Fact.{Fact}
use Rattle.tp_kernel.specs.declared.fault.FaultKind.{FaultKind}
use Rattle.tp_kernel.specs.declared.fault.FaultKind.TheVariants.{WrongKind, ZeroDivisor, NoElement}
use Rattle.tp_kernel.specs.declared.fault.LimitKind.TheVariants as limit
use Rattle.tp_meaning.specs.Syntax.{Operator, Equal, Differs, Plus, Minus, Times, Div, Mod, ExprTree, ExprTrees, numeral, boolean, known, bound, global, listing, size, index, minus, negation, both, either, binary, choice, invoke, no_expr, expr_then, Definition, BindingTree, place_binding, known_binding}
use Rattle.tp_meaning.specs.Value.{is_upper}
use Rattle.tp_store.specs.Facts.{kept_shape, is_excluded, item_path}
use Rattle.tp_store.specs.Known as store
use Rattle.tp_store.specs.Known.{full}
use Rattle.tp_eval.specs.Reached.{Stop, waits, faults, passes, Reached, reaches, stops, Evaluation, with_reached, within_numbers, within_lists}
use Rattle.tp_eval.specs.Evaluate as ev
use Rattle.tp_eval.specs.Evaluate.{PlaceFound, at_path, inside, is_place, element_in, list_items as list_in, number_in, truth_in, of_full, length_in, evaluate, find_place, depth_limit}
use Rattle.tp_eval.specs.Outcome as found
use Rattle.tp_eval.specs.Outcome.{outcome, place_outcome, outcome_reached, place_reached}
use Rattle.tp_scene.proofs.Told.{Bundle, AllBound, bound_at, Lists, PlaceHas}

module _ (b : Bundle) where
  abbrev pub Value : Tree → Type 0
  Value t = b.evaluated (found.value t)

  abbrev pub Values : List Tree → Type 0
  Values [] = Unit {0}
  Values (t ∷ ts) = Value t × Values ts

  -- the parts of an expression that its row evaluates
  abbrev pub ExprPartsOf : ExprTree → ℕ → Type 0
  ExprPartsOf (numeral n) m = Unit {0}
  ExprPartsOf (boolean c) m = Unit {0}
  ExprPartsOf (known t) m = is_within_list_limit t ≡ true → Value t
  ExprPartsOf (bound i) m = Unit {0}
  ExprPartsOf (global x) m = b.binding (place_binding (record { var = x; at = [] }))
  ExprPartsOf (listing es) m = b.exprs es m
  ExprPartsOf (size e) m = b.expr e m
  ExprPartsOf (index e i) m = b.expr e m × b.expr i m
  ExprPartsOf (minus e) m = b.expr e m
  ExprPartsOf (negation e) m = b.expr e m
  ExprPartsOf (both es) m = b.exprs es m
  ExprPartsOf (either x y) m = b.expr x m × b.expr y m
  ExprPartsOf (binary o x y) m = b.expr x m × b.expr y m
  ExprPartsOf (choice c x y) m = b.expr c m × b.expr x m × b.expr y m
  ExprPartsOf (invoke i es) m = b.exprs es m

-- what is known of values, places and stops, where these facts are kept
pub record Evaluates (b : Bundle) (defs : List Definition) (facts : List Fact) : Type 0 where
  pub lists : Lists b
  pub parts : (e : ExprTree) (m : ℕ) → b.expr e m → ExprPartsOf b e m
  pub body : (i : ℕ) (d : Definition) (e : ExprTree) → slice_get defs i ≡ Some d → d.expr ≡ Some e → b.expr e (length d.parameters)
  pub number : (n : ℤ) → is_within_limit n ≡ true → Value b (num n)
  pub truths : (c : Bool) → Value b (truth c)
  pub listed : (ts : List Tree) → Values b ts → is_within_list_limit (list (of_items ts)) ≡ true → Value b (list (of_items ts))
  pub item : (ts : Trees) (k : ℕ) (t : Tree) → Value b (list ts) → slice_get (items_of ts) k ≡ Some t → Value b t
  pub sized : (ts : Trees) → Value b (list ts) → Value b (num (pos (length (items_of ts))))
  pub kept_size : (q : Path) (n : ℕ) → kept_shape facts q ≡ Some (Items n) → Value b (num (pos n))
  pub kept : (q : Path) (t : Tree) → full facts q ≡ store.value t → Value b t
  pub value_bound : (t : Tree) → Value b t → b.binding (known_binding t)
  pub bound_value : (t : Tree) → b.binding (known_binding t) → Value b t
  pub farther : (q : Path) (k : ℕ) → b.binding (place_binding q) → nat_le k index_limit ≡ true → nat_lt (length q.at) path_limit ≡ true → b.binding (place_binding (item_path q k))
  pub waiting : (q : Path) → b.binding (place_binding q) → b.evaluated (found.wait q)
  pub undecided : (q p : Path) → b.binding (place_binding q) → full facts q ≡ store.undecided p → b.evaluated (found.wait p)
  pub fault : (k : FaultKind) → b.evaluated (found.fault k)
  pub limits : b.evaluated (found.over limit.Number) × b.evaluated (found.over limit.List) × b.evaluated (found.over limit.Calls)

module _ (b : Bundle) (facts : List Fact) (defs : List Definition) (closed : Evaluates b defs facts) where
  abbrev V : Tree → Type 0
  V = Value b

  abbrev StopHas : Stop → Type 0
  StopHas (waits p) = b.evaluated (found.wait p)
  StopHas (faults k) = b.evaluated (found.fault k)
  StopHas (passes k) = b.evaluated (found.over k)

  -- what is reached has P
  abbrev Gives : {A : Type 0} → (A → Type 0) → Reached A → Type 0
  Gives P (reaches x c) = P x
  Gives P (stops s) = StopHas s

  abbrev Any : {A : Type 0} → A → Type 0
  Any x = Unit {0}

  abbrev PlaceIs : PlaceFound → Type 0
  PlaceIs (at_path p) = b.binding (place_binding p)
  PlaceIs (inside t at) = V t

  then_gives : {A B : Type 0} (P : A → Type 0) (Q : B → Type 0) (r : Reached A) (f : A → Evaluation B) → Gives P r → ((x : A) (c : ℕ) → P x → Gives Q (f x c)) → Gives Q (with_reached r f)
  then_gives P Q (reaches x c) f h k = k x c h
  then_gives P Q (stops s) f h k = h

  if_gives : {B : Type 0} (Q : B → Type 0) (z : Bool) (x y : Evaluation B) (c : ℕ) → (z ≡ true → Gives Q (x c)) → (z ≡ false → Gives Q (y c)) → Gives Q ((if z then x else y) c)
  if_gives Q true x y c h k = h refl
  if_gives Q false x y c h k = k refl

  number_given : (t : Tree) (c : ℕ) → Gives Any (number_in t c)
  number_given (num n) c = tt
  number_given t c = closed.fault WrongKind

  truth_given : (t : Tree) (c : ℕ) → Gives Any (truth_in t c)
  truth_given (truth x) c = tt
  truth_given t c = closed.fault WrongKind

  index_given : (t : Tree) (c : ℕ) → Gives (λ k. nat_le k index_limit ≡ true) (ev.index_in t c)
  index_given (num (pos k)) c = if_gives (λ k. nat_le k index_limit ≡ true) (nat_le k index_limit) _ _ c (λ e. e) (λ _. closed.limits.1)
  index_given (num (negsuc k)) c = closed.fault NoElement
  index_given t c = closed.fault WrongKind

  by_number : {B : Type 0} (Q : B → Type 0) (t : Tree) (c : ℕ) (f : ℤ → Evaluation B) → ((n : ℤ) (c : ℕ) → Gives Q (f n c)) → Gives Q (with_reached (number_in t c) f)
  by_number Q t c f h = then_gives Any Q (number_in t c) f (number_given t c) (λ n c u. h n c)

  by_truth : (t : Tree) (c : ℕ) (f : Bool → Evaluation Tree) → ((x : Bool) (c : ℕ) → Gives V (f x c)) → Gives V (with_reached (truth_in t c) f)
  by_truth t c f h = then_gives Any V (truth_in t c) f (truth_given t c) (λ x c u. h x c)

  -- the items of a list
  all_from : (ts : List Tree) → ((k : ℕ) (t : Tree) → slice_get ts k ≡ Some t → V t) → Values b ts
  all_from [] h = tt
  all_from (t ∷ ts) h = (h 0 t refl, all_from ts (λ k u e. h (suc k) u e))

  all_append : (ts us : List Tree) → Values b ts → Values b us → Values b (ts ++ us)
  all_append [] us h k = k
  all_append (t ∷ ts) us h k = (h.0, all_append ts us h.1 k)

  items_given : (t : Tree) (c : ℕ) → V t → Gives (Values b) (list_in t c)
  items_given (list ts) c h = all_from (items_of ts) (λ k u e. closed.item ts k u h e)
  items_given t c h = closed.fault WrongKind

  -- an element of a value
  item_has : (t : Tree) (k : ℕ) (u : Tree) → item_of t k ≡ Some u → V t → V u
  item_has (list ts) k u e h = closed.item ts k u h e
  item_has (num n) k u e h = absurd (cc)
  item_has (truth x) k u e h = absurd (cc)

  element_has : (at : List ℕ) (t u : Tree) → item_at at t ≡ Some u → V t → V u
  element_has [] t u e h = let q : t ≡ u = cc in rw (sym q) h
  element_has (k ∷ ks) t u e h = go (item_of t k) refl e (λ v. element_has ks v u)
    where
      go : (o : Option Tree) → item_of t k ≡ o → option_and_then (item_at ks) o ≡ Some u → ((v : Tree) → item_at ks v ≡ Some u → V v → V u) → V u
      go None q x rest = absurd (cc x)
      go (Some v) q x rest = rest v x (item_has t k v q h)

  element_given : (o : Option Tree) (c : ℕ) → ((u : Tree) → o ≡ Some u → V u) → Gives V (element_in o c)
  element_given None c h = closed.fault NoElement
  element_given (Some t) c h = h t refl

  inside_given : (t : Tree) (at : List ℕ) (c : ℕ) → V t → Gives V (element_in (item_at at t) c)
  inside_given t at c h = element_given (item_at at t) c (λ u e. element_has at t u e h)

  -- values within the limits
  number_within : (n : ℤ) (c : ℕ) → Gives V (within_numbers n c)
  number_within n c = if_gives V (is_within_limit n) _ _ c (closed.number n) (λ _. closed.limits.0)

  list_within : (ts : List Tree) (c : ℕ) → Values b ts → Gives V (within_lists (list (of_items ts)) c)
  list_within ts c h = if_gives V (is_within_list_limit (list (of_items ts))) _ _ c (closed.listed ts h) (λ _. closed.limits.1)

  length_of_given : (t : Tree) (c : ℕ) → V t → Gives V (ev.length_of t c)
  length_of_given (list ts) c h = closed.sized ts h
  length_of_given t c h = closed.fault WrongKind

  -- operations
  numbers_given : (f : ℤ → ℤ → Evaluation Tree) → ((x y : ℤ) (c : ℕ) → Gives V (f x y c)) → (s t : Tree) (c : ℕ) → Gives V (ev.on_numbers_outcome f s t c)
  numbers_given f h s t c = by_number V s c _ (λ x c. by_number V t c _ (λ y c. h x y c))

  divisor_given : (f : ℤ → ℤ → ℤ) (x y : ℤ) (c : ℕ) → Gives V (ev.on_divisor_outcome f x y c)
  divisor_given f x (pos zero) c = closed.fault ZeroDivisor
  divisor_given f x (pos (suc k)) c = number_within (f x (pos (suc k))) c
  divisor_given f x (negsuc k) c = number_within (f x (negsuc k)) c

  sum_given : (s t : Tree) (c : ℕ) → V s → V t → Gives V (ev.sum_in s t c)
  sum_given (num x) t c h k = by_number V t c _ (λ y c. number_within (x +ℤ y) c)
  sum_given (list ss) t c h k =
      then_gives (Values b) V (list_in t c) _ (items_given t c k) (λ us c u. list_within (items_of ss ++ us) c (all_append (items_of ss) us (items_given (list ss) c h) u))
  sum_given (truth x) t c h k = closed.fault WrongKind

  operate_given : (o : Operator) (s t : Tree) (c : ℕ) → V s → V t → Gives V (ev.operate_outcome o s t c)
  operate_given Equal s t c h k = closed.truths _
  operate_given Differs s t c h k = closed.truths _
  operate_given Plus s t c h k = sum_given s t c h k
  operate_given Minus s t c h k = numbers_given _ (λ x y c. number_within (x -ℤ y) c) s t c
  operate_given Times s t c h k = numbers_given _ (λ x y c. number_within (x *ℤ y) c) s t c
  operate_given Div s t c h k = numbers_given _ (divisor_given floor_div) s t c
  operate_given Mod s t c h k = numbers_given _ (divisor_given floor_mod) s t c
  operate_given o s t c h k = numbers_given _ (λ x y c. closed.truths _) s t c

  between_given : (t u : Tree) (c : ℕ) → V t → Gives V (ev.item_between t u c)
  between_given (list ts) u c h = by_number V u c _ at
    where
      at : (n : ℤ) (c : ℕ) → Gives V (ev.item_in (items_of ts) n c)
      at (pos k) c = element_given (slice_get (items_of ts) k) c (λ v e. closed.item ts k v h e)
      at (negsuc k) c = closed.fault NoElement
  between_given t u c h = closed.fault WrongKind

  -- places
  bound_given : (env : List BindingTree) (i c : ℕ) → AllBound b env → Gives PlaceIs (ev.bound_place (slice_get env i) c)
  bound_given env i c h = go (slice_get env i) refl
    where
      go : (o : Option BindingTree) → slice_get env i ≡ o → Gives PlaceIs (ev.bound_place o c)
      go (Some (place_binding p)) e = bound_at b env i (place_binding p) h e
      go (Some (known_binding t)) e = closed.bound_value t (bound_at b env i (known_binding t) h e)
      go None e = closed.fault NoElement

  farther_given : (p : PlaceFound) (k c : ℕ) → nat_le k index_limit ≡ true → PlaceIs p → Gives PlaceIs (ev.farther p k c)
  farther_given (at_path p) k c small h = if_gives PlaceIs (nat_lt (length p.at) path_limit) _ _ c (closed.farther p k h small) (λ _. closed.limits.1)
  farther_given (inside t at) k c small h = h

  bind_given : (p : PlaceFound) (c : ℕ) → PlaceIs p → Gives b.binding (ev.bind_place p c)
  bind_given (at_path p) c h = h
  bind_given (inside t at) c h = then_gives V b.binding (element_in (item_at at t) c) _ (inside_given t at c h) (λ u c k. closed.value_bound u k)

  value_at_given : (p : PlaceFound) (c : ℕ) → PlaceIs p → Gives V (ev.value_at facts p c)
  value_at_given (at_path p) c h = go (full facts p) refl
    where
      go : (o : store.Full) → full facts p ≡ o → Gives V (of_full o c)
      go store.absent e = closed.fault NoElement
      go (store.undecided q) e = closed.undecided p q h e
      go store.too_long e = closed.limits.1
      go (store.value t) e = closed.kept p t e
  value_at_given (inside t at) c h = inside_given t at c h

  size_at_given : (p : PlaceFound) (c : ℕ) → PlaceIs p → Gives V (ev.size_at facts p c)
  size_at_given (at_path p) c h = if_gives V (is_excluded facts p) _ _ c (λ _. closed.fault NoElement) (λ _. go (kept_shape facts p) refl)
    where
      go : (o : Option Shape) → kept_shape facts p ≡ o → Gives V (length_in p o c)
      go None e = closed.waiting p h
      go (Some (Items n)) e = closed.kept_size p n e
      go (Some (Num n)) e = closed.fault WrongKind
      go (Some (Truth x)) e = closed.fault WrongKind
  size_at_given (inside t at) c h = then_gives V V (element_in (item_at at t) c) _ (inside_given t at c h) length_of_given

  -- one level, where operands and places have it one level deeper
  module _ (m : ℕ) (env : List BindingTree) (bs : AllBound b env) (op : ExprTree → Evaluation Tree) (up : (e : ExprTree) (c : ℕ) → b.expr e m → Gives V (op e c))
      (pl : ExprTree → Evaluation PlaceFound) (down : (e : ExprTree) (c : ℕ) → b.expr e m → Gives PlaceIs (pl e c)) where
    all_given : (es : ExprTrees) (c : ℕ) → b.exprs es m → Gives V (ev.all_true op es c)
    all_given no_expr c h = closed.truths true
    all_given (expr_then e es) c h = then_gives V V (op e c) _ (up e c (closed.lists.first_expr e es m h))
        (λ t c u. by_truth t c _ (λ x c. if_gives V x _ _ c (λ _. all_given es c (closed.lists.other_exprs e es m h)) (λ _. closed.truths false)))

    one_given : (x y : ExprTree) (c : ℕ) → b.expr x m → b.expr y m → Gives V (ev.one_true op x y c)
    one_given x y c h k = then_gives V V (op x c) _ (up x c h) (λ t c u. by_truth t c _ (λ z c. if_gives V z _ _ c (λ _. closed.truths true)
        (λ _. then_gives Any V (with_reached (op y c) truth_in) _ (then_gives V Any (op y c) truth_in (up y c k) (λ t c u. truth_given t c)) (λ z c u. closed.truths z))))

    each_given : (es : ExprTrees) (c : ℕ) → b.exprs es m → Gives (Values b) (ev.each op es c)
    each_given no_expr c h = tt
    each_given (expr_then e es) c h = then_gives V (Values b) (op e c) _ (up e c (closed.lists.first_expr e es m h))
        (λ t c u. then_gives (Values b) (Values b) (ev.each op es c) _ (each_given es c (closed.lists.other_exprs e es m h)) (λ ts c v. (u, v)))

    place_row : (e : ExprTree) (c : ℕ) → ExprPartsOf b e m → Gives PlaceIs (ev.evaluated_place op pl env e c)
    place_row (bound i) c h = bound_given env i c bs
    place_row (global x) c h = h
    place_row (index e i) c h = then_gives PlaceIs PlaceIs (pl e c) _ (down e c h.0) (λ p c u. then_gives V PlaceIs (op i c) _ (up i c h.1)
        (λ t c v. then_gives (λ k. nat_le k index_limit ≡ true) PlaceIs (ev.index_in t c) _ (index_given t c) (λ k c l. farther_given p k c l u)))
    place_row e c h = closed.fault NoElement

    argument_given : (u : Bool) (e : ExprTree) (c : ℕ) → b.expr e m → Gives b.binding (ev.argument op pl u e c)
    argument_given true e c h = then_gives PlaceIs b.binding (pl e c) _ (down e c h) (λ p c u. bind_given p c u)
    argument_given false e c h = then_gives V b.binding (op e c) _ (up e c h) (λ t c u. closed.value_bound t u)

    arguments_given : (es : ExprTrees) (xs : List (List ℕ)) (c : ℕ) → b.exprs es m → Gives (AllBound b) (ev.arguments op pl es xs c)
    arguments_given no_expr [] c h = tt
    arguments_given (expr_then e es) (x ∷ xs) c h = then_gives b.binding (AllBound b) (ev.argument op pl (is_upper x) e c) _ (argument_given (is_upper x) e c (closed.lists.first_expr e es m h))
        (λ y c u. then_gives (AllBound b) (AllBound b) (ev.arguments op pl es xs c) _ (arguments_given es xs c (closed.lists.other_exprs e es m h)) (λ ys c v. (u, v)))
    arguments_given no_expr (x ∷ xs) c h = closed.fault NoElement
    arguments_given (expr_then e es) [] c h = closed.fault NoElement

    read_given : (e : ExprTree) (c : ℕ) → ExprPartsOf b e m → Gives V (with_reached (ev.evaluated_place op pl env e c) (ev.value_at facts))
    read_given e c h = then_gives PlaceIs V (ev.evaluated_place op pl env e c) _ (place_row e c h) value_at_given

    index_value : (one : Bool) (e i : ExprTree) (c : ℕ) → b.expr e m × b.expr i m → Gives V (ev.indexed_value op pl facts env one e i c)
    index_value true e i c h = read_given (index e i) c h
    index_value false e i c h = then_gives V V (op e c) _ (up e c h.0) (λ t c u. then_gives V V (op i c) _ (up i c h.1) (λ j c v. between_given t j c u))

    size_value : (one : Bool) (e : ExprTree) (c : ℕ) → b.expr e m → Gives V (ev.size_of op pl facts env one e c)
    size_value true e c h = then_gives PlaceIs V (pl e c) _ (down e c h) size_at_given
    size_value false e c h = then_gives V V (op e c) _ (up e c h) length_of_given

    -- where the body of a definition has it
    module _ (body : ExprTree → List BindingTree → Evaluation Tree) (in_body : (e : ExprTree) (j : ℕ) (args : List BindingTree) (c : ℕ) → b.expr e j → AllBound b args → Gives V (body e args c)) where
      body_given : (j : ℕ) (o : Option ExprTree) (args : List BindingTree) (c : ℕ) → ((e : ExprTree) → o ≡ Some e → b.expr e j) → AllBound b args → Gives V (ev.body_of op pl facts env defs body o args c)
      body_given j (Some e) args c h k = in_body e j args c (h e refl) k
      body_given j None args c h k = closed.fault NoElement

      count_given : (c : ℕ) → Gives Any (ev.count_call c)
      count_given c = go (nat_lt c ev.call_limit)
        where
          go : (z : Bool) → Gives Any (if z then reaches c (suc c) else stops (passes limit.Calls))
          go true = tt
          go false = closed.limits.2

      call_given : (i : ℕ) (d : Option Definition) → slice_get defs i ≡ d → (es : ExprTrees) (c : ℕ) → b.exprs es m → Gives V (ev.call op pl facts env defs body d es c)
      call_given i (Some d) is es c h = then_gives Any V (ev.count_call c) _ (count_given c) (λ n c u. then_gives (AllBound b) V (ev.arguments op pl es d.parameters c) _ (arguments_given es d.parameters c h)
          (λ args c k. body_given (length d.parameters) d.expr args c (λ e q. closed.body i d e is q) k))
      call_given i None is es c h = closed.fault NoElement

      row : (e : ExprTree) (c : ℕ) → ExprPartsOf b e m → Gives V (ev.part_value op pl facts env defs body e c)
      row (numeral n) c h = number_within n c
      row (boolean x) c h = closed.truths x
      row (known t) c h = if_gives V (is_within_list_limit t) _ _ c h (λ _. closed.limits.1)
      row (bound i) c h = read_given (bound i) c h
      row (global x) c h = read_given (global x) c h
      row (listing es) c h = then_gives (Values b) V (ev.each op es c) _ (each_given es c h) list_within
      row (size e) c h = size_value (is_place e) e c h
      row (index e i) c h = index_value (is_place e) e i c h
      row (minus e) c h = then_gives V V (op e c) _ (up e c h) (λ t c u. by_number V t c _ (λ n c. number_within (neg_ℤ n) c))
      row (negation e) c h = then_gives V V (op e c) _ (up e c h) (λ t c u. by_truth t c _ (λ x c. closed.truths _))
      row (both es) c h = all_given es c h
      row (either x y) c h = one_given x y c h.0 h.1
      row (binary o x y) c h = then_gives V V (op x c) _ (up x c h.0) (λ t c u. then_gives V V (op y c) _ (up y c h.1) (λ s c v. operate_given o t s c u v))
      row (choice z x y) c h = then_gives V V (op z c) _ (up z c h.0) (λ t c u. by_truth t c _ (λ v c. if_gives V v _ _ c (λ _. up x c h.1) (λ _. up y c h.2)))
      row (invoke i es) c h = call_given i (slice_get defs i) refl es c h

  -- at each level
  given_at : (d : ℕ) → ((e : ExprTree) (m : ℕ) (env : List BindingTree) (c : ℕ) → b.expr e m → AllBound b env → Gives V (evaluate facts defs d e env c))
      × ((e : ExprTree) (m : ℕ) (env : List BindingTree) (c : ℕ) → b.expr e m → AllBound b env → Gives PlaceIs (find_place facts defs d e env c))
  given_at zero = (λ e m env c h k. closed.limits.2, λ e m env c h k. closed.limits.2)
  given_at (suc d) = let ih = given_at d in (
    (λ e m env c h k. row m env k _ (λ x c l. ih.0 x m env c l k) _ (λ x c l. ih.1 x m env c l k) _ (λ x j args c l n. ih.0 x j args c l n) e c (closed.parts e m h)),
    (λ e m env c h k. place_row m env k _ (λ x c l. ih.0 x m env c l k) _ (λ x c l. ih.1 x m env c l k) e c (closed.parts e m h)),
  )

  outcome_has : (r : Reached Tree) → Gives V r → b.evaluated (outcome_reached r)
  outcome_has (reaches t c) h = h
  outcome_has (stops (waits p)) h = h
  outcome_has (stops (faults k)) h = h
  outcome_has (stops (passes k)) h = h

  place_has : (r : Reached PlaceFound) → Gives PlaceIs r → PlaceHas b (place_reached facts r)
  place_has (reaches (at_path p) c) h = h
  place_has (reaches (inside t at) c) h = outcome_has (ev.value_at facts (inside t at) c) (value_at_given (inside t at) c h)
  place_has (stops (waits p)) h = h
  place_has (stops (faults k)) h = h
  place_has (stops (passes k)) h = h

  pub outcome_told : (e : ExprTree) (m : ℕ) (env : List BindingTree) → b.expr e m → AllBound b env → b.evaluated (outcome facts defs e env)
  unfolding outcome
  outcome_told e m env h k = outcome_has (evaluate facts defs depth_limit e env 0) ((given_at depth_limit).0 e m env 0 h k)

  pub place_outcome_told : (e : ExprTree) (m : ℕ) (env : List BindingTree) → b.expr e m → AllBound b env → PlaceHas b (place_outcome facts defs e env)
  unfolding place_outcome
  place_outcome_told e m env h k = place_has (find_place facts defs depth_limit e env 0) ((given_at depth_limit).1 e m env 0 h k)
