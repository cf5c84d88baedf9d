-- Properties that ask nothing of formulas: what is bound and found is enough.
use Rattle.std.proofs.Common.{◌≡◌, refl, ℤ, ℕ, false, List, [], ◌∷◌, Some, None}
use Rattle.tp_value.specs.Tree.{Tree, num}
use Rattle.tp_value.specs.declared.path.Path.{Path}
use Rattle.tp_value.specs.declared.path.Fact.{Fact}
use Rattle.tp_value.specs.declared.value.Shape.{Shape}
use Rattle.tp_value.specs.declared.value.Shape.TheVariants.{Items}
use Rattle.tp_meaning.specs.Syntax.{ExprTree, FormulaTree, equation, next_equation, always, branch, len, assign, chop, for_from, forall_from, project, exists, input, Definition, BindingTree, known_binding}
use Rattle.tp_meaning.specs.Inputs.{InputTable}
use Rattle.tp_store.specs.Facts.{fact, facts_at, kept_shape, is_excluded}
use Rattle.tp_eval.specs.Outcome as found
use Rattle.tp_eval.specs.Outcome.{PlaceOutcome, outcome, place_outcome}
use Rattle.tp_scene.specs.Scene.{Bindings, Place}
use Rattle.tp_scene.specs.Step.{Numbers, formula_step}
use Rattle.tp_scene.proofs.Told.{Bundle, AllBound, Lists, PartsOf, PlaceHas, RowsKeep, Told, formula_told}

abbrev pub free : (BindingTree → Type 0) → (found.Outcome → Type 0) → (List Fact → Type 0) → Bundle
free B Q N = record {
  formula = λ f m. Unit {0};
  formulas = λ fs m. Unit {0};
  expr = λ e m. Unit {0};
  exprs = λ es m. Unit {0};
  binding = B;
  evaluated = Q;
  new_facts = N;
  name = λ x. Unit {0};
  local = λ x. Unit {0};
}

module _ (B : BindingTree → Type 0) (Q : found.Outcome → Type 0) (N : List Fact → Type 0) (numbers : (k : ℤ) → B (known_binding (num k))) where
  -- a line for each kind that owes more than one thing
  pub free_parts : (f : FormulaTree) (m : ℕ) → PartsOf (free B Q N) f m
  free_parts (equation l r) m = (tt, tt)
  free_parts (next_equation k t e) m = (tt, λ v u. tt)
  free_parts (always f) m = (tt, tt)
  free_parts (branch e f g) m = (tt, tt, tt)
  free_parts (len e) m = (tt, tt, λ k. tt)
  free_parts (assign t e) m = (tt, λ v u. tt)
  free_parts (chop f g) m = (tt, tt)
  free_parts (for_from x k e f) m = (tt, record { last = tt; number = numbers k; turn = tt; left = λ j u l. tt })
  free_parts (forall_from x k e f) m = record { last = tt; number = numbers k; turn = tt; left = λ j u l. tt }
  free_parts (project f g) m = (tt, tt)
  free_parts (exists x lasting f) m = (tt, tt)
  free_parts (input x port) m = (tt, tt)
  free_parts f m = tt

  pub free_lists : Lists (free B Q N)
  free_lists = record { first_formula = λ g gs m h. tt; other_formulas = λ g gs m h. tt; first_expr = λ e es m h. tt; other_exprs = λ e es m h. tt; sized = λ e m h. tt }

-- nothing is asked of bindings either
abbrev pub loose : (found.Outcome → Type 0) → (List Fact → Type 0) → Bundle
loose Q N = free (λ x. Unit {0}) Q N

-- What is owed then: Q of an expression's outcome, of a place's that is no path, of any value, and of
-- a wait for what has no shape; and N of the facts that give a path its value, a list its length, or
-- a path the shape of another.
pub record LooseKeep (Q : found.Outcome → Type 0) (N : List Fact → Type 0) (defs : List Definition) (facts : List Fact) : Type 0 where
  pub value : (e : ExprTree) (env : Bindings) → Q (outcome facts defs e env)
  pub other : (e : ExprTree) (env : Bindings) (o : found.Outcome) → place_outcome facts defs e env ≡ found.other o → Q o
  pub values : (v : Tree) → Q (found.value v)
  pub sets : (q : Path) (v : Tree) → N (facts_at q v)
  pub lengthens : (q : Path) (k : ℕ) → N (fact q (Items k) ∷ [])
  pub shapes : (p q : Path) (sh : Shape) → kept_shape facts q ≡ Some sh → N (fact p sh ∷ [])
  pub open_path : (q : Path) → kept_shape facts q ≡ None → is_excluded facts q ≡ false → Q (found.wait q)

module _ (Q : found.Outcome → Type 0) (N : List Fact → Type 0) (defs : List Definition) (inputs : InputTable) (state : ℕ) (facts : List Fact) (keep : LooseKeep Q N defs facts) where
  place_by : (e : ExprTree) (env : Bindings) (o : PlaceOutcome) → place_outcome facts defs e env ≡ o → PlaceHas (loose Q N) o
  place_by e env (found.path q) is = tt
  place_by e env (found.other o) is = keep.other e env o is

  unasked : (env : Bindings) → AllBound (loose Q N) env
  unasked [] = tt
  unasked (x ∷ env) = (tt, unasked env)

  pub loose_told : (f : FormulaTree) (env : Bindings) (p : Place) (n : Numbers) → Told (loose Q N) facts p n (formula_step defs inputs state facts f env p n)
  loose_told f env p n = formula_told (loose Q N) defs inputs state facts n known p f env (tt, unasked env)
    where
      known : RowsKeep (loose Q N) defs inputs state facts n
      known = record {
        lists = free_lists (λ x. Unit {0}) Q N (λ k. tt);
        parts = λ g m h. free_parts (λ x. Unit {0}) Q N (λ k. tt) g m;
        body = λ i d e. tt;
        value = λ e xs h k. keep.value e xs;
        place = λ e xs h k. place_by e xs (place_outcome facts defs e xs) refl;
        read = λ port v e. keep.values v;
        value_bound = λ v u. tt;
        local_bound = λ x l. tt;
        sets = λ q v h u. keep.sets q v;
        lengthens = λ q k h l. keep.lengthens q k;
        shared = λ q k i h e l. tt;
        shapes = λ x q sh h k e. keep.shapes x q sh e;
        open_path = λ q h u v. keep.open_path q u v;
      }
