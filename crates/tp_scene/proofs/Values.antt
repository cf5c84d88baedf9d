-- A value that is found is the one that an expression has, at each depth where it has one.
use Rattle.std.proofs.Common.{◌≡◌, ℤ, ℕ, ◌+◌, ◌≤◌, ◌<◌, Bool, List, length, Option, Some, None, refl, ap, sym, ◌∙◌, arith}
use Rattle.tp_value.specs.Tree.{Tree, num, truth, list}
use Rattle.tp_value.specs.declared.path.Fact.{Fact}
use Rattle.tp_kernel.specs.declared.fault.FaultKind.{FaultKind}
use Rattle.tp_meaning.specs.Syntax.{ExprTree}
use Rattle.tp_meaning.specs.Course.{Course, Shows}
use Rattle.tp_meaning.specs.Bindings.{Locals, meanings_of}
use Rattle.tp_meaning.specs.Value.{value, number_of, truth_of}
use Rattle.tp_meaning.specs.Fits.{ExprFits}
use Rattle.tp_meaning.specs.Holds.{Context}
use Rattle.tp_meaning.proofs.Deeper.{value_deeper}
use Rattle.tp_eval.specs.Evaluate.{depth_limit}
use Rattle.tp_eval.specs.Outcome as found
use Rattle.tp_eval.specs.Outcome.{outcome}
use Rattle.tp_eval.specs.Right.{OutcomesAreRight}
use Rattle.tp_scene.specs.Scene.{Bindings}
use Rattle.tp_scene.specs.Says.{Claim}
use Rattle.tp_scene.specs.Step.{PickOutcome, of_wanted, with_value, with_truth, with_number}
use Rattle.tp_scene.proofs.Frame.{Keeps}
use Rattle.tp_scene.proofs.RowForms.{Agrees, with_value_row, with_wanted_row}

-- outcomes are right in each state that agrees with the facts
abbrev pub AreRight : (w : Context) (kinds : List Bool) → List Fact → Type 0
AreRight w kinds facts = (σ : Locals) (s : Course) (a : ℕ) (x : ExprTree) (env : Bindings) → ExprFits w.defs kinds x (length env) → Agrees (length kinds) facts σ s a
    → OutcomesAreRight facts w.defs kinds s σ a x env

is_truth : (t : Tree) (c : Bool) → truth_of t ≡ Some c → t ≡ truth c
is_truth (truth b) c e = let same : b ≡ c = cc e in ap truth same
is_truth (num k) c e = absurd (cc e)
is_truth (list ts) c e = absurd (cc e)

is_number : (t : Tree) (k : ℤ) → number_of t ≡ Some k → t ≡ num k
is_number (num m) k e = let same : m ≡ k = cc e in ap num same
is_number (truth b) k e = absurd (cc e)
is_number (list ts) k e = absurd (cc e)

module _ (w : Context) (kinds : List Bool) (facts : List Fact) (n e : ℕ) (deep : depth_limit < e) (right : AreRight w kinds facts) where
  abbrev pub HasValue : ExprTree → Bindings → ℕ → Locals → Course → ℕ → Tree → Type 0
  HasValue x env d σ s a t = value w.defs d x (meanings_of (length kinds) s σ env) s a ≡ Some t

  abbrev pub Meets : Locals → Course → ℕ → Type 0
  Meets = Agrees (length kinds) facts

  abbrev pub Finds : ExprTree → Bindings → Tree → Type 0
  Finds x env t = outcome facts w.defs x env ≡ found.value t

  pub deep_enough : (d : ℕ) → depth_limit ≤ e + d
  deep_enough d = omega (arith, deep)

  module _ (x : ExprTree) (env : Bindings) (fit : ExprFits w.defs kinds x (length env)) where
    pub value_found : (t : Tree) → Finds x env t → (d : ℕ) (σ : Locals) (s : Course) (a : ℕ) → Meets σ s a → HasValue x env (e + d) σ s a t
    value_found t q d σ s a ag = (right σ s a x env fit ag).values t q (e + d) (deep_enough d)

    pub one_value : (t : Tree) → Finds x env t → (d : ℕ) (σ : Locals) (s : Course) (a : ℕ) → Meets σ s a → (u : Tree) → HasValue x env d σ s a u → u ≡ t
    one_value t q d σ s a ag u h =
        let r : HasValue x env (e + d) σ s a u = value_deeper w.defs d (e + d) (omega arith) x (meanings_of (length kinds) s σ env) s a u h in
        let r' : HasValue x env (e + d) σ s a t = value_found t q d σ s a ag in cc

    -- so at that depth it has the value too
    pub same_value : (t : Tree) → Finds x env t → (d : ℕ) (σ : Locals) (s : Course) (a : ℕ) → Meets σ s a → (u : Tree) → HasValue x env d σ s a u → HasValue x env d σ s a t
    same_value t q d σ s a ag u h = let r : u ≡ t = one_value t q d σ s a ag u h in cc

    pub no_value : (k : FaultKind) → outcome facts w.defs x env ≡ found.fault k → (d : ℕ) (σ : Locals) (s : Course) (a : ℕ) → Meets σ s a → (u : Tree) → HasValue x env d σ s a u → ⊥
    no_value k q d σ s a ag u h = let r : value w.defs d x (meanings_of (length kinds) s σ env) s a ≡ None = (right σ s a x env fit ag).faults k q d in absurd (cc)

    module _ (Old : Claim) (s : Course) (a b : ℕ) where
      abbrev pub RowOf : PickOutcome → Type 0
      RowOf o = Keeps w (length kinds) facts n e o Old s a b

      -- where the item holds, the expression has a value
      pub value_row : (f : Tree → PickOutcome)
          → ((d : ℕ) (σ : Locals) (S : Shows) → Old d σ s a b S → (u : Tree) × HasValue x env d σ s a u)
          → ((t : Tree) → Finds x env t → RowOf (f t)) → RowOf (with_value (outcome facts w.defs x env) f)
      value_row f needs h = with_value_row w (length kinds) facts n e Old s a b (outcome facts w.defs x env) f
          (λ k q d σ S ag y. let u = needs d σ S y in no_value k q d σ s a ag u.0 u.1) h

      -- where it holds, that is one that `make` makes
      kind_row : {A : Type 0} (kind : Tree → Option A) (make : A → Tree) → ((v : A) → kind (make v) ≡ Some v) → ((t : Tree) (v : A) → kind t ≡ Some v → t ≡ make v) → (f : A → PickOutcome)
          → ((d : ℕ) (σ : Locals) (S : Shows) → Old d σ s a b S → (v : A) × HasValue x env d σ s a (make v))
          → ((v : A) → Finds x env (make v) → RowOf (f v)) → RowOf (with_value (outcome facts w.defs x env) (λ t. of_wanted (kind t) f))
      kind_row kind make made from f needs h = with_wanted_row w (length kinds) facts n e Old s a b (outcome facts w.defs x env) kind f
          (λ k q d σ S ag y. let u = needs d σ S y in no_value k q d σ s a ag (make u.0) u.1)
          (λ t q none d σ S ag y. let u = needs d σ S y in
          let same : make u.0 ≡ t = one_value t q d σ s a ag (make u.0) u.1 in
          let z : Some u.0 ≡ None = sym (made u.0) ∙ ap kind same ∙ none in
          cc z)
          (λ t v q is. h v (q ∙ ap found.value (from t v is)))

      pub truth_row : (f : Bool → PickOutcome)
          → ((d : ℕ) (σ : Locals) (S : Shows) → Old d σ s a b S → (c : Bool) × HasValue x env d σ s a (truth c))
          → ((c : Bool) → Finds x env (truth c) → RowOf (f c)) → RowOf (with_truth (outcome facts w.defs x env) f)
      truth_row = kind_row truth_of truth (λ c. refl) is_truth

      pub number_row : (f : ℤ → PickOutcome)
          → ((d : ℕ) (σ : Locals) (S : Shows) → Old d σ s a b S → (k : ℤ) × HasValue x env d σ s a (num k))
          → ((k : ℤ) → Finds x env (num k) → RowOf (f k)) → RowOf (with_number (outcome facts w.defs x env) f)
      number_row = kind_row number_of num (λ k. refl) is_number
