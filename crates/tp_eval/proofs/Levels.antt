-- One level of an evaluation, and the expressions of a list one by one.
use Rattle.std.proofs.Common.{◌≡◌, ℕ, zero, suc, ◌+◌, ◌-◌, ◌<◌, Bool, true, false, List, [], ◌∷◌, ◌++◌, length, map, drop, get_or, refl, ap, sym, subst, ◌∙◌, arith, append_assoc, ◌≤◌, if◌then◌else◌}
use Rattle.std.proofs.Math.Seq.{drop-cons}
use Rattle.std.proofs.lemmas.List.{append-nil}
use Rattle.tp_value.specs.Tree.{Tree, truth}
use Rattle.tp_value.specs.declared.path.VarId.{VarId}
use Rattle.tp_kernel.specs.declared.formula.Expr.{Expr}
use Rattle.tp_kernel.specs.Read.{expr_tree, bindings_of, definitions_of}
use Rattle.tp_meaning.specs.Syntax.{ExprTree, ExprTrees, bound, global, index, no_expr, expr_then, exprs_of}
use Rattle.tp_eval.specs.Reached.{Reached, reaches, stops, Evaluation, with_reached, ◌>>=◌, gives}
use Rattle.tp_eval.specs.declared.lookup.Lookup.{Lookup}
use Rattle.tp_eval.specs.declared.halt.EvalHalt.{EvalHalt}
use Rattle.tp_eval.specs.Evaluate.{PlaceFound, is_place, each, all_true, truth_in, evaluate, evaluated_place, part_value, indexed_value, index_in, farther, read_at}
use Rattle.tp_eval.specs.Answers.{Halts, Stops, operand_in, place_at}
use Rattle.tp_eval.proofs.Steps.{reaches_then, stops_then, stops_same, halts_at}

-- what the evaluation of an expression is at a level
abbrev pub level : Lookup → (inner : ℕ) → ExprTree → Evaluation Tree
level l d e =
    part_value (operand_in l d) (place_at l d) l.store.now.facts (bindings_of l.env.now) (definitions_of l.defs.now)
    (λ x args. evaluate l.store.now.facts (definitions_of l.defs.now) d x args) e

abbrev pub place_level : Lookup → (inner : ℕ) → ExprTree → Evaluation PlaceFound
place_level l d e = evaluated_place (operand_in l d) (place_at l d) (bindings_of l.env.now) e

pub at_level : (l : Lookup) (n : ℕ) (e t : ExprTree) (c : ℕ) → (n ≡ 0 → ⊥) → e ≡ t → operand_in l n e c ≡ level l (n - 1) t c
at_level l zero e t c h q = absurd (h refl)
at_level l (suc d) e t c h q = let same : d ≡ suc d - 1 = omega arith in ap (λ x. level l d x c) q ∙ ap (λ m. level l m t c) same

pub at_place_level : (l : Lookup) (n : ℕ) (e t : ExprTree) (c : ℕ) → (n ≡ 0 → ⊥) → e ≡ t → place_at l n e c ≡ place_level l (n - 1) t c
at_place_level l zero e t c h q = absurd (h refl)
at_place_level l (suc d) e t c h q = let same : d ≡ suc d - 1 = omega arith in ap (λ x. place_level l d x c) q ∙ ap (λ m. place_level l m t c) same

-- a name, and a name followed by indices, is read
pub read_global : (l : Lookup) (n : ℕ) (e : ExprTree) (x : VarId) (c : ℕ) → (n ≡ 0 → ⊥) → e ≡ global x → operand_in l n e c ≡ read_at l.store.now.facts (place_at l n e) c
read_global l zero e x c h q = absurd (h refl)
read_global l (suc d) e x c h q = let P : ExprTree → Type 0 = λ t. operand_in l (suc d) t c ≡ read_at l.store.now.facts (place_at l (suc d) t) c in subst P (sym q) refl

pub read_bound : (l : Lookup) (n : ℕ) (e : ExprTree) (i c : ℕ) → (n ≡ 0 → ⊥) → e ≡ bound i → operand_in l n e c ≡ read_at l.store.now.facts (place_at l n e) c
read_bound l zero e i c h q = absurd (h refl)
read_bound l (suc d) e i c h q = let P : ExprTree → Type 0 = λ t. operand_in l (suc d) t c ≡ read_at l.store.now.facts (place_at l (suc d) t) c in subst P (sym q) refl

pub read_index : (l : Lookup) (n : ℕ) (e a b : ExprTree) (c : ℕ) → (n ≡ 0 → ⊥) → e ≡ index a b → is_place a ≡ true → operand_in l n e c ≡ read_at l.store.now.facts (place_at l n e) c
read_index l zero e a b c h q p = absurd (h refl)
read_index l (suc d) e a b c h q p =
    let P : ExprTree → Type 0 = λ t. operand_in l (suc d) t c ≡ read_at l.store.now.facts (place_at l (suc d) t) c in
    subst P (sym q) (ap (λ (w : Bool). indexed_value (operand_in l d) (place_at l d) l.store.now.facts (bindings_of l.env.now) w a b c) p)

pub then_all : {A B C : Type 0} (r : Reached A) (f : A → Evaluation B) (g : B → Evaluation C) → with_reached (with_reached r f) g ≡ with_reached r (λ x. f x >>= g)
then_all (reaches x c) f g = refl
then_all (stops k) f g = refl

-- where the place before an index was found
pub at_index : (l : Lookup) (n : ℕ) (e a i : ExprTree) (p : PlaceFound) (c c' : ℕ) → (n ≡ 0 → ⊥) → e ≡ index a i → place_at l (n - 1) a c ≡ reaches p c'
    → place_at l n e c ≡ with_reached (with_reached (operand_in l (n - 1) i c') index_in) (farther p)
at_index l n e a i p c c' h q r = at_place_level l n e (index a i) c h q ∙ reaches_then _ p c' _ r ∙ sym (then_all (operand_in l (n - 1) i c') index_in (farther p))

pub then_itself : {A : Type 0} (r : Reached A) → with_reached r (λ x. gives x) ≡ r
then_itself (reaches x c) = refl
then_itself (stops k) = refl

-- the expressions from a place on
abbrev pub rest : List Expr → ℕ → ExprTrees
rest es i = exprs_of (map expr_tree (drop i es))

pub rest_next : (es : List Expr) (i : ℕ) (e : Expr) → i < length es → e ≡ get_or es i e → rest es i ≡ expr_then (expr_tree e) (rest es (i + 1))
rest_next es i e h q =
    let next : suc i ≡ i + 1 = omega arith in
    ap (λ xs. exprs_of (map expr_tree xs)) (drop-cons es i e h) ∙ ap (λ x. expr_then (expr_tree x) (rest es (suc i))) (sym q) ∙ ap (λ n. expr_then (expr_tree e) (rest es n)) next

pub rest_end : (es : List Expr) (i : ℕ) → length es ≤ i → rest es i ≡ no_expr
rest_end [] zero h = refl
rest_end [] (suc i) h = refl
rest_end (e ∷ es) zero h = absurd (omega arith)
rest_end (e ∷ es) (suc i) h = rest_end es i (omega arith)

-- the values so far, with those of the rest after them
abbrev pub values_with : (ExprTree → Evaluation Tree) → List Tree → ExprTrees → Evaluation (List Tree)
values_with operand done es = each operand es >>= λ us. gives (done ++ us)

pub each_begins : (operand : ExprTree → Evaluation Tree) (es : ExprTrees) (c : ℕ) → each operand es c ≡ values_with operand [] es c
each_begins operand es c = sym (then_itself (each operand es c))

pub each_next : (operand : ExprTree → Evaluation Tree) (done : List Tree) (e : ExprTree) (t : Tree) (es : ExprTrees) (c c' : ℕ) → operand e c ≡ reaches t c'
    → values_with operand done (expr_then e es) c ≡ values_with operand (done ++ t ∷ []) es c'
each_next operand done e t es c c' h =
    ap (λ r. with_reached r (λ us. gives (done ++ us))) (reaches_then (operand e c) t c' (λ x. each operand es >>= λ ts. gives (x ∷ ts)) h)
    ∙ then_all (each operand es c') (λ ts. gives (t ∷ ts)) (λ us. gives (done ++ us))
    ∙ ap (λ (f : List Tree → List Tree). with_reached (each operand es c') (λ ts. gives (f ts))) (λ i ts. sym (append_assoc done (t ∷ []) ts) i)

pub each_halts : (operand : ExprTree → Evaluation Tree) (done : List Tree) (e : ExprTree) (es : ExprTrees) (c : ℕ) (h : EvalHalt) → Stops (operand e c) h → Stops (values_with operand done (expr_then e es) c) h
each_halts operand done e es c h k = stops_then _ h _ (stops_then (operand e c) h _ k)

pub each_ends : (operand : ExprTree → Evaluation Tree) (done : List Tree) (c : ℕ) → values_with operand done no_expr c ≡ reaches done c
each_ends operand done c = ap (λ ts. reaches ts c) (append-nil done)

pub all_next : (operand : ExprTree → Evaluation Tree) (e : ExprTree) (t : Tree) (b : Bool) (es : ExprTrees) (c c' : ℕ) → operand e c ≡ reaches t c' → truth_in t ≡ gives b → b ≡ true → all_true operand (expr_then e es) c ≡ all_true operand es c'
all_next operand e t b es c c' h k q = reaches_then (operand e c) t c' _ h ∙ ap (λ (o : Evaluation Bool). (o >>= λ x. if x then all_true operand es else gives (truth false)) c') k ∙ ap (λ (x : Bool). (if x then all_true operand es else gives (truth false)) c') q

pub all_false : (operand : ExprTree → Evaluation Tree) (e : ExprTree) (t : Tree) (b : Bool) (es : ExprTrees) (c c' : ℕ) → operand e c ≡ reaches t c' → truth_in t ≡ gives b → b ≡ false → all_true operand (expr_then e es) c ≡ reaches (truth false) c'
all_false operand e t b es c c' h k q = reaches_then (operand e c) t c' _ h ∙ ap (λ (o : Evaluation Bool). (o >>= λ x. if x then all_true operand es else gives (truth false)) c') k ∙ ap (λ (x : Bool). (if x then all_true operand es else gives (truth false)) c') q

pub all_halts : (operand : ExprTree → Evaluation Tree) (e : ExprTree) (es : ExprTrees) (c : ℕ) (h : EvalHalt) → Stops (operand e c) h → Stops (all_true operand (expr_then e es) c) h
all_halts operand e es c h k = stops_then (operand e c) h _ k

pub all_halts_truth : (operand : ExprTree → Evaluation Tree) (e : ExprTree) (t : Tree) (es : ExprTrees) (c c' : ℕ) (h : EvalHalt) → operand e c ≡ reaches t c' → Halts (truth_in t) h → Stops (all_true operand (expr_then e es) c) h
all_halts_truth operand e t es c c' h q k = stops_same _ _ h (reaches_then (operand e c) t c' _ q) (stops_then (truth_in t c') h _ (halts_at (truth_in t) h c' k))
