-- What is found at one depth is found at a greater one.
use Rattle.std.proofs.Common.{◌≡◌, ℕ, zero, suc, ◌≤◌, Bool, true, false, List, [], ◌∷◌, Option, Some, None, refl, ap, ◌∙◌, arith, slice_get, if◌then◌else◌}
use Rattle.tp_meaning.specs.Syntax.{ExprTree, ExprTrees, numeral, boolean, known, bound, global, listing, size, index, minus, negation, both, either, binary, choice, invoke, no_expr, expr_then, Definition}
use Rattle.tp_meaning.specs.Course.{Course}
use Rattle.tp_meaning.specs.Value.{◌>>=◌, Env, Calls, value_by, values_by, all_by, place_by, arguments_by, truth_of, is_upper, calls_at, value}

-- what the first gives, the second gives
abbrev pub Keeps : {A : Type 0} → Option A → Option A → Type 0
Keeps {A} o o' = (v : A) → o ≡ Some v → o' ≡ Some v

pub same : {A : Type 0} (o : Option A) → Keeps o o
same o v h = h

pub bind_keeps : {A B : Type 0} (o o' : Option A) (f f' : A → Option B) → Keeps o o' → ((x : A) → Keeps (f x) (f' x)) → Keeps (o >>= f) (o' >>= f')
bind_keeps None o' f f' p q v h = absurd (cc)
bind_keeps (Some x) o' f f' p q v h = ap (λ o. o >>= f') (p x refl) ∙ q x v h

pub if_keeps : {A : Type 0} (b : Bool) (x x' y y' : Option A) → Keeps x x' → Keeps y y' → Keeps (if b then x else y) (if b then x' else y')
if_keeps true x x' y y' p q = p
if_keeps false x x' y y' p q = q

module _ (defs : List Definition) (calls calls' : Calls) (more : (p : ℕ) (args : Env) (s : Course) (j : ℕ) → Keeps (calls p args s j) (calls' p args s j)) where
  mutual
    pub value_keeps : (e : ExprTree) (env : Env) (s : Course) (j : ℕ) → Keeps (value_by defs calls e env s j) (value_by defs calls' e env s j)
    value_keeps (numeral n) env s j = same _
    value_keeps (boolean b) env s j = same _
    value_keeps (known t) env s j = same _
    value_keeps (bound i) env s j = same _
    value_keeps (global v) env s j = same _
    value_keeps (listing es) env s j = bind_keeps _ _ _ _ (values_keep es env s j) (λ ts. same _)
    value_keeps (size e) env s j = bind_keeps _ _ _ _ (value_keeps e env s j) (λ t. same _)
    value_keeps (index e i) env s j = bind_keeps _ _ _ _ (value_keeps e env s j) (λ t. bind_keeps _ _ _ _ (value_keeps i env s j) (λ k. same _))
    value_keeps (minus e) env s j = bind_keeps _ _ _ _ (value_keeps e env s j) (λ t. same _)
    value_keeps (negation e) env s j = bind_keeps _ _ _ _ (value_keeps e env s j) (λ t. same _)
    value_keeps (both es) env s j = all_keep es env s j
    value_keeps (either a b) env s j = bind_keeps _ _ _ _ (value_keeps a env s j) (λ t. bind_keeps _ _ _ _ (same (truth_of t)) (λ x.
        if_keeps x _ _ _ _ (same _) (bind_keeps _ _ _ _ (bind_keeps _ _ _ _ (value_keeps b env s j) (λ t. same _)) (λ y. same _))))
    value_keeps (binary o a b) env s j = bind_keeps _ _ _ _ (value_keeps a env s j) (λ u. bind_keeps _ _ _ _ (value_keeps b env s j) (λ t. same _))
    value_keeps (choice b x y) env s j = bind_keeps _ _ _ _ (value_keeps b env s j) (λ t. bind_keeps _ _ _ _ (same (truth_of t)) (λ c.
        if_keeps c _ _ _ _ (value_keeps x env s j) (value_keeps y env s j)))
    value_keeps (invoke p es) env s j = bind_keeps _ _ _ _ (same (slice_get defs p)) (λ f. bind_keeps _ _ _ _ (arguments_keep es f.parameters env s j) (λ args. more p args s j))

    pub values_keep : (es : ExprTrees) (env : Env) (s : Course) (j : ℕ) → Keeps (values_by defs calls es env s j) (values_by defs calls' es env s j)
    values_keep no_expr env s j = same _
    values_keep (expr_then e es) env s j = bind_keeps _ _ _ _ (value_keeps e env s j) (λ t. bind_keeps _ _ _ _ (values_keep es env s j) (λ ts. same _))

    pub all_keep : (es : ExprTrees) (env : Env) (s : Course) (j : ℕ) → Keeps (all_by defs calls es env s j) (all_by defs calls' es env s j)
    all_keep no_expr env s j = same _
    all_keep (expr_then e es) env s j = bind_keeps _ _ _ _ (value_keeps e env s j) (λ t. bind_keeps _ _ _ _ (same (truth_of t)) (λ b.
        if_keeps b _ _ _ _ (all_keep es env s j) (same _)))

    pub place_keeps : (e : ExprTree) (env : Env) (s : Course) (j : ℕ) → Keeps (place_by defs calls e env s j) (place_by defs calls' e env s j)
    place_keeps (bound i) env s j = same _
    place_keeps (global v) env s j = same _
    place_keeps (index e i) env s j = bind_keeps _ _ _ _ (place_keeps e env s j) (λ b. bind_keeps _ _ _ _ (value_keeps i env s j) (λ k. same _))
    place_keeps (numeral n) env s j = same _
    place_keeps (boolean b) env s j = same _
    place_keeps (known t) env s j = same _
    place_keeps (listing es) env s j = same _
    place_keeps (size e) env s j = same _
    place_keeps (minus e) env s j = same _
    place_keeps (negation e) env s j = same _
    place_keeps (both es) env s j = same _
    place_keeps (either a b) env s j = same _
    place_keeps (binary o a b) env s j = same _
    place_keeps (choice b x y) env s j = same _
    place_keeps (invoke p es) env s j = same _

    pub arguments_keep : (es : ExprTrees) (names : List (List ℕ)) (env : Env) (s : Course) (j : ℕ) → Keeps (arguments_by defs calls es names env s j) (arguments_by defs calls' es names env s j)
    arguments_keep no_expr [] env s j = same _
    arguments_keep no_expr (x ∷ xs) env s j = same _
    arguments_keep (expr_then e es) [] env s j = same _
    arguments_keep (expr_then e es) (x ∷ xs) env s j = bind_keeps _ _ _ _
        (if_keeps (is_upper x) _ _ _ _ (place_keeps e env s j) (bind_keeps _ _ _ _ (value_keeps e env s j) (λ t. same _)))
        (λ b. bind_keeps _ _ _ _ (arguments_keep es xs env s j) (λ bs. same _))

-- what calls give at one depth, they give at a greater one
pub calls_keep : (defs : List Definition) (d d' : ℕ) → d ≤ d' → (p : ℕ) (args : Env) (s : Course) (j : ℕ) → Keeps (calls_at defs d p args s j) (calls_at defs d' p args s j)
calls_keep defs zero d' h p args s j = λ v e. absurd (cc)
calls_keep defs (suc d) zero h p args s j = absurd (omega arith)
calls_keep defs (suc d) (suc d') h p args s j = bind_keeps _ _ _ _ (same (slice_get defs p)) (λ f. bind_keeps _ _ _ _ (same f.expr) (λ e.
    value_keeps defs (calls_at defs d) (calls_at defs d') (calls_keep defs d d' (omega arith)) e args s j))

-- a value found at one depth is found at each greater one
pub value_deeper : (defs : List Definition) (d d' : ℕ) → d ≤ d' → (e : ExprTree) (env : Env) (s : Course) (j : ℕ) → Keeps (value defs d e env s j) (value defs d' e env s j)
value_deeper defs d d' h = value_keeps defs (calls_at defs d) (calls_at defs d') (calls_keep defs d d' h)
