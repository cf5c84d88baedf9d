-- The value of an expression at a position depends on the state, and on what is bound, at that position alone.
use Rattle.std.proofs.Common.{◌≡◌, ℤ, pos, ℕ, zero, suc, ◌≤◌, Bool, true, false, not, List, [], ◌∷◌, length, Option, Some, None, refl, ap, sym, subst, slice_get, if◌then◌else◌}
use Rattle.std.specs.Prelude.{neg_ℤ}
use Rattle.tp_value.specs.Tree.{Tree, num, truth, list, of_items}
use Rattle.tp_value.specs.Shape.{item_at}
use Rattle.tp_meaning.specs.Syntax.{ExprTree, ExprTrees, numeral, boolean, known, bound, global, listing, size, index, minus, negation, both, either, binary, choice, invoke, no_expr, expr_then, Definition}
use Rattle.tp_meaning.specs.Course.{Course}
use Rattle.tp_meaning.specs.Moving.{MeaningMoved, EnvMoved, CourseMoved}
use Rattle.tp_meaning.specs.Value.{◌>>=◌, Meaning, fixed, varying, Env, meant, element, list_item, number_of, index_of, list_of, truth_of, operate, Calls, value_by, values_by, all_by, place_by, arguments_by, is_upper, calls_at}

module _ (f : ℕ → ℕ) (a b : ℕ) where
  abbrev pub MaybeMoved : Option Meaning → Option Meaning → Type 0
  MaybeMoved None None = Unit {0}
  MaybeMoved None (Some m) = ⊥
  MaybeMoved (Some m) None = ⊥
  MaybeMoved (Some m) (Some n) = MeaningMoved f a b m n

  abbrev pub MaybeAll : Option Env → Option Env → Type 0
  MaybeAll None None = Unit {0}
  MaybeAll None (Some m) = ⊥
  MaybeAll (Some m) None = ⊥
  MaybeAll (Some m) (Some n) = EnvMoved f a b m n

  bound_moved : (i : ℕ) (env env' : Env) → EnvMoved f a b env env' → MaybeMoved (slice_get env i) (slice_get env' i)
  bound_moved i [] [] h = tt
  bound_moved i [] (m ∷ ms) h = elim h [ ]
  bound_moved i (m ∷ ms) [] h = elim h [ ]
  bound_moved zero (m ∷ ms) (n ∷ ns) h = h.0
  bound_moved (suc i) (m ∷ ms) (n ∷ ns) h = bound_moved i ms ns h.1

  meant_moved : (o o' : Option Meaning) (j : ℕ) → a ≤ j → j ≤ b → MaybeMoved o o' → (o' >>= meant (f j)) ≡ (o >>= meant j)
  meant_moved None None j u v h = refl
  meant_moved None (Some m) j u v h = elim h [ ]
  meant_moved (Some m) None j u v h = elim h [ ]
  meant_moved (Some (fixed t)) (Some (fixed t')) j u v h = ap Some h
  meant_moved (Some (fixed t)) (Some (varying g)) j u v h = elim h [ ]
  meant_moved (Some (varying g)) (Some (fixed t)) j u v h = elim h [ ]
  meant_moved (Some (varying g)) (Some (varying h')) j u v h = h j u v

  item_moved : (o o' : Option Tree) → o' ≡ o → MaybeMoved (o >>= λ u. Some (fixed u)) (o' >>= λ u. Some (fixed u))
  item_moved None o' e = subst (λ (x : Option Tree). MaybeMoved None (x >>= λ u. Some (fixed u))) (sym e) tt
  item_moved (Some t) o' e = subst (λ (x : Option Tree). MaybeMoved (Some (fixed t)) (x >>= λ u. Some (fixed u))) (sym e) refl

  at_index : (g h : ℕ → Option Tree) → ((j : ℕ) → a ≤ j → j ≤ b → h (f j) ≡ g j) → (o : Option ℕ) →
      MaybeMoved (o >>= λ k. Some (varying (λ j. g j >>= item_at (k ∷ [])))) (o >>= λ k. Some (varying (λ j. h j >>= item_at (k ∷ []))))
  at_index g h q None = tt
  at_index g h q (Some k) = λ j u v. ap (λ o. o >>= item_at (k ∷ [])) (q j u v)

  at_number : (g h : ℕ → Option Tree) → ((j : ℕ) → a ≤ j → j ≤ b → h (f j) ≡ g j) → (o : Option ℤ) →
      MaybeMoved (o >>= λ n. index_of n >>= λ k. Some (varying (λ j. g j >>= item_at (k ∷ [])))) (o >>= λ n. index_of n >>= λ k. Some (varying (λ j. h j >>= item_at (k ∷ []))))
  at_number g h q None = tt
  at_number g h q (Some n) = at_index g h q (index_of n)

  element_moved : (m n : Meaning) (i : Tree) → MeaningMoved f a b m n → MaybeMoved (element m i) (element n i)
  element_moved (fixed t) (fixed u) i h = item_moved (list_item t i) (list_item u i) (ap (λ x. list_item x i) h)
  element_moved (fixed t) (varying g) i h = elim h [ ]
  element_moved (varying g) (fixed u) i h = elim h [ ]
  element_moved (varying g) (varying h') i h = at_number g h' h (number_of i)

  index_moved : (o o' : Option Meaning) (k : Option Tree) → MaybeMoved o o' → MaybeMoved (o >>= λ m. k >>= λ i. element m i) (o' >>= λ m. k >>= λ i. element m i)
  index_moved None None k h = tt
  index_moved None (Some m) k h = elim h [ ]
  index_moved (Some m) None k h = elim h [ ]
  index_moved (Some m) (Some n) None h = tt
  index_moved (Some m) (Some n) (Some i) h = element_moved m n i h

  cons_moved : (o o' : Option Meaning) (q q' : Option Env) → MaybeMoved o o' → MaybeAll q q' → MaybeAll (o >>= λ m. q >>= λ ms. Some (m ∷ ms)) (o' >>= λ m. q' >>= λ ms. Some (m ∷ ms))
  cons_moved None None q q' h k = tt
  cons_moved None (Some m) q q' h k = elim h [ ]
  cons_moved (Some m) None q q' h k = elim h [ ]
  cons_moved (Some m) (Some n) None None h k = tt
  cons_moved (Some m) (Some n) None (Some y) h k = elim k [ ]
  cons_moved (Some m) (Some n) (Some x) None h k = elim k [ ]
  cons_moved (Some m) (Some n) (Some x) (Some y) h k = (h, k)

  with_moved : (o o' : Option Env) (g g' : Env → Option Tree) → MaybeAll o o' → ((x y : Env) → EnvMoved f a b x y → g' y ≡ g x) → (o' >>= g') ≡ (o >>= g)
  with_moved None None g g' h k = refl
  with_moved None (Some y) g g' h k = elim h [ ]
  with_moved (Some x) None g g' h k = elim h [ ]
  with_moved (Some x) (Some y) g g' h k = k x y h

  upper_moved : (q : Bool) (o o' : Option Meaning) (v v' : Option Tree) → MaybeMoved o o' → v' ≡ v → MaybeMoved (if q then o else (v >>= λ t. Some (fixed t))) (if q then o' else (v' >>= λ t. Some (fixed t)))
  upper_moved true o o' v v' h e = h
  upper_moved false o o' v v' h e = item_moved v v' e

  named_moved : {A : Type 0} (o : Option A) (g g' : A → Option Tree) → ((x : A) → g' x ≡ g x) → (o >>= g') ≡ (o >>= g)
  named_moved None g g' h = refl
  named_moved (Some x) g g' h = h x

module _ (defs : List Definition) (calls : Calls) (f : ℕ → ℕ) (a b : ℕ) (s t : Course) (course : CourseMoved f a b s t)
    (more : (p : ℕ) (x y : Env) → EnvMoved f a b x y → (j : ℕ) → a ≤ j → j ≤ b → calls p y t (f j) ≡ calls p x s j) where
  mutual
    pub value_moved : (e : ExprTree) (x y : Env) → EnvMoved f a b x y → (j : ℕ) → a ≤ j → j ≤ b → value_by defs calls e y t (f j) ≡ value_by defs calls e x s j
    value_moved (numeral n) x y h j u v = refl
    value_moved (boolean q) x y h j u v = refl
    value_moved (known r) x y h j u v = refl
    value_moved (bound i) x y h j u v = meant_moved f a b (slice_get x i) (slice_get y i) j u v (bound_moved f a b i x y h)
    value_moved (global n) x y h j u v = λ i. Some ((course j u v i).values n.number)
    value_moved (listing es) x y h j u v = λ i. values_moved es x y h j u v i >>= λ ts. Some (list (of_items ts))
    value_moved (size e) x y h j u v = λ i. value_moved e x y h j u v i >>= λ r. list_of r >>= λ ts. Some (num (pos (length ts)))
    value_moved (index e k) x y h j u v = λ i. value_moved e x y h j u v i >>= λ r. value_moved k x y h j u v i >>= λ n. list_item r n
    value_moved (minus e) x y h j u v = λ i. value_moved e x y h j u v i >>= λ r. number_of r >>= λ n. Some (num (neg_ℤ n))
    value_moved (negation e) x y h j u v = λ i. value_moved e x y h j u v i >>= λ r. truth_of r >>= λ q. Some (truth (not q))
    value_moved (both es) x y h j u v = all_moved es x y h j u v
    value_moved (either e k) x y h j u v = λ i. value_moved e x y h j u v i >>= λ r. truth_of r >>= λ q. if q then Some (truth true) else (value_moved k x y h j u v i >>= truth_of >>= λ z. Some (truth z))
    value_moved (binary o e k) x y h j u v = λ i. value_moved e x y h j u v i >>= λ r. value_moved k x y h j u v i >>= λ n. operate o r n
    value_moved (choice e k l) x y h j u v = λ i. value_moved e x y h j u v i >>= λ r. truth_of r >>= λ q. if q then value_moved k x y h j u v i else value_moved l x y h j u v i
    value_moved (invoke p es) x y h j u v = named_moved f a b (slice_get defs p) _ _ (λ g. with_moved f a b (arguments_by defs calls es g.parameters x s j) (arguments_by defs calls es g.parameters y t (f j)) _ _
        (arguments_moved es g.parameters x y h j u v) (λ x' y' q. more p x' y' q j u v))

    pub values_moved : (es : ExprTrees) (x y : Env) → EnvMoved f a b x y → (j : ℕ) → a ≤ j → j ≤ b → values_by defs calls es y t (f j) ≡ values_by defs calls es x s j
    values_moved no_expr x y h j u v = refl
    values_moved (expr_then e es) x y h j u v = λ i. value_moved e x y h j u v i >>= λ r. values_moved es x y h j u v i >>= λ rs. Some (r ∷ rs)

    all_moved : (es : ExprTrees) (x y : Env) → EnvMoved f a b x y → (j : ℕ) → a ≤ j → j ≤ b → all_by defs calls es y t (f j) ≡ all_by defs calls es x s j
    all_moved no_expr x y h j u v = refl
    all_moved (expr_then e es) x y h j u v = λ i. value_moved e x y h j u v i >>= λ r. truth_of r >>= λ q. if q then all_moved es x y h j u v i else Some (truth false)

    place_moved : (e : ExprTree) (x y : Env) → EnvMoved f a b x y → (j : ℕ) → a ≤ j → j ≤ b → MaybeMoved f a b (place_by defs calls e x s j) (place_by defs calls e y t (f j))
    place_moved (bound i) x y h j u v = bound_moved f a b i x y h
    place_moved (global n) x y h j u v = λ k p q i. Some ((course k p q i).values n.number)
    place_moved (index e k) x y h j u v =
        subst (λ (o : Option Tree). MaybeMoved f a b (place_by defs calls e x s j >>= λ m. value_by defs calls k x s j >>= λ i. element m i) (place_by defs calls e y t (f j) >>= λ m. o >>= λ i. element m i))
        (sym (value_moved k x y h j u v)) (index_moved f a b (place_by defs calls e x s j) (place_by defs calls e y t (f j)) (value_by defs calls k x s j) (place_moved e x y h j u v))
    place_moved (numeral n) x y h j u v = tt
    place_moved (boolean q) x y h j u v = tt
    place_moved (known r) x y h j u v = tt
    place_moved (listing es) x y h j u v = tt
    place_moved (size e) x y h j u v = tt
    place_moved (minus e) x y h j u v = tt
    place_moved (negation e) x y h j u v = tt
    place_moved (both es) x y h j u v = tt
    place_moved (either e k) x y h j u v = tt
    place_moved (binary o e k) x y h j u v = tt
    place_moved (choice e k l) x y h j u v = tt
    place_moved (invoke p es) x y h j u v = tt

    pub arguments_moved : (es : ExprTrees) (names : List (List ℕ)) (x y : Env) → EnvMoved f a b x y → (j : ℕ) → a ≤ j → j ≤ b → MaybeAll f a b (arguments_by defs calls es names x s j) (arguments_by defs calls es names y t (f j))
    arguments_moved no_expr [] x y h j u v = tt
    arguments_moved no_expr (n ∷ ns) x y h j u v = tt
    arguments_moved (expr_then e es) [] x y h j u v = tt
    arguments_moved (expr_then e es) (n ∷ ns) x y h j u v = cons_moved f a b _ _ _ _
        (upper_moved f a b (is_upper n) (place_by defs calls e x s j) (place_by defs calls e y t (f j)) (value_by defs calls e x s j) (value_by defs calls e y t (f j)) (place_moved e x y h j u v) (value_moved e x y h j u v))
        (arguments_moved es ns x y h j u v)

pub calls_moved : (defs : List Definition) (d : ℕ) (f : ℕ → ℕ) (a b : ℕ) (s t : Course) → CourseMoved f a b s t → (p : ℕ) (x y : Env) → EnvMoved f a b x y → (j : ℕ) → a ≤ j → j ≤ b → calls_at defs d p y t (f j) ≡ calls_at defs d p x s j
calls_moved defs zero f a b s t course p x y h j u v = refl
calls_moved defs (suc d) f a b s t course p x y h j u v = named_moved f a b (slice_get defs p) _ _ (λ g. named_moved f a b g.expr _ _ (λ e. value_moved defs (calls_at defs d) f a b s t course (calls_moved defs d f a b s t course) e x y h j u v))
