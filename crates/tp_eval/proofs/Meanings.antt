-- Expressions and places reach what they mean, at so many levels and at as great a depth of calls.
use Rattle.std.proofs.Common.{◌≡◌, ℕ, zero, suc, ◌≤◌, Bool, List, Option, Some, ap, ◌∙◌, arith, slice_get, length}
use Rattle.tp_value.specs.declared.path.Fact.{Fact}
use Rattle.tp_meaning.specs.Syntax.{ExprTree, Definition, BindingTree}
use Rattle.tp_meaning.specs.Fits.{ExprFits, DefinitionsFit}
use Rattle.tp_meaning.specs.Course.{Course}
use Rattle.tp_meaning.specs.Bindings.{Locals}
use Rattle.tp_meaning.specs.Value.{◌>>=◌, value_by, place_by, calls_at, Env}
use Rattle.tp_eval.specs.Evaluate.{evaluate, find_place}
use Rattle.tp_eval.proofs.Agree.{Agrees, same_meaning}
use Rattle.tp_eval.proofs.PlaceLemmas.{FactsAreRight, value_here, PlaceGives}
use Rattle.tp_eval.proofs.Operands.{meant_env, place_agrees, value_agrees}

module _ (facts : List Fact) (Agreeing : Type 0) (defs : List Definition) (kinds : List Bool) (s : Course) (locals : Locals) (a : ℕ)
    (right : FactsAreRight facts Agreeing (value_here facts Agreeing kinds s locals a)) (fit : Agreeing → DefinitionsFit defs kinds) where
  abbrev env_here : List BindingTree → Env
  env_here env = meant_env facts Agreeing defs kinds s locals a right env

  abbrev ValueAgrees : (levels depth : ℕ) → Type 0
  ValueAgrees l d = (n : ℕ) (e : ExprTree) (env : List BindingTree) → (Agreeing → ExprFits defs kinds e n) → (c : ℕ)
      → Agrees facts Agreeing Some (evaluate facts defs l e env c) (value_by defs (calls_at defs d) e (env_here env) s a)

  abbrev PlaceAgrees : (levels depth : ℕ) → Type 0
  PlaceAgrees l d = (n : ℕ) (e : ExprTree) (env : List BindingTree) → (Agreeing → ExprFits defs kinds e n) → (c : ℕ)
      → PlaceGives facts Agreeing kinds s locals a (find_place facts defs l e env c) (place_by defs (calls_at defs d) e (env_here env) s a)

  called : (d p : ℕ) (f : Definition) (e : ExprTree) (x : Env) → slice_get defs p ≡ Some f → f.expr ≡ Some e → calls_at defs (suc d) p x s a ≡ value_by defs (calls_at defs d) e x s a
  called d p f e x h k =
      ap (λ (o : Option Definition). o >>= λ g. g.expr >>= λ y. value_by defs (calls_at defs d) y x s a) h
      ∙ ap (λ (o : Option ExprTree). o >>= λ y. value_by defs (calls_at defs d) y x s a) k

  -- both, since operands hold indices, and indices are expressions
  agree : (l d : ℕ) → l ≤ d → ValueAgrees l d × PlaceAgrees l d
  agree zero d le = ((λ n e env h c. tt), (λ n e env h c. tt))
  agree (suc l) zero le = absurd (omega arith)
  agree (suc l) (suc d) le =
      let below = agree l (suc d) (omega arith) in
      let inside = agree l d (omega arith) in (
        (λ n e env h c. value_agrees facts Agreeing defs kinds s locals a right
            (λ x. evaluate facts defs l x env) (λ x. find_place facts defs l x env) env (calls_at defs (suc d)) n
            (λ x k. below.0 n x env k) (λ x k. below.1 n x env k)
            (λ x args. evaluate facts defs l x args)
            (λ p f x i j args k. same_meaning facts Agreeing Some (evaluate facts defs l x args k) (calls_at defs (suc d) p (env_here args) s a) (value_by defs (calls_at defs d) x (env_here args) s a)
            (λ w. called d p f x (env_here args) i j) (inside.0 (length f.parameters) x args (λ w. (fit w).expr p f i x j) k))
            e h c),
        (λ n e env h c. place_agrees facts Agreeing defs kinds s locals a right
            (λ x. evaluate facts defs l x env) (λ x. find_place facts defs l x env) env (calls_at defs (suc d)) n
            (λ x k. below.0 n x env k) (λ x k. below.1 n x env k) e h c),
      )

  pub evaluate_agrees : (l d : ℕ) → l ≤ d → ValueAgrees l d
  evaluate_agrees l d le = (agree l d le).0

  pub find_place_agrees : (l d : ℕ) → l ≤ d → PlaceAgrees l d
  find_place_agrees l d le = (agree l d le).1
