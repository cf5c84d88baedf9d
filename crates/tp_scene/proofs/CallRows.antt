-- The steps of calls and displays keep what these say.
use Rattle.std.proofs.Common.{◌≡◌, ℕ, zero, suc, ◌+◌, ◌<◌, Bool, true, false, List, [], ◌∷◌, length, Option, Some, None, refl, ap, sym, ◌∙◌, subst, arith, slice_get, if◌then◌else◌}
use Rattle.tp_value.specs.Tree.{Tree}
use Rattle.tp_value.specs.declared.path.Fact.{Fact}
use Rattle.tp_meaning.specs.Syntax.{ExprTree, ExprTrees, no_expr, expr_then, call, display, Definition, BindingTree, place_binding, known_binding}
use Rattle.tp_meaning.specs.Course.{Course, Shows, shown_at}
use Rattle.tp_meaning.specs.Bindings.{Locals, meaning_of, meanings_of}
use Rattle.tp_meaning.specs.Value.{◌>>=◌, Env, Meaning, fixed, is_upper, value, values_by, place_by, arguments_by, calls_at}
use Rattle.tp_meaning.specs.Fits.{ExprFits, ExprsFit}
use Rattle.tp_meaning.specs.Holds.{Context, Holds}
use Rattle.tp_meaning.proofs.Deeper.{values_keep, arguments_keep, calls_keep}
use Rattle.tp_meaning.proofs.DeeperHolds.{holds_deeper}
use Rattle.tp_eval.specs.Evaluate.{depth_limit}
use Rattle.tp_eval.specs.Outcome as found
use Rattle.tp_eval.specs.Outcome.{outcome, PlaceOutcome, place_outcome}
use Rattle.tp_eval.specs.Bound.{PlaceIsRight}
use Rattle.tp_scene.specs.Scene.{Bindings, Do, Shown, none, leaf, Place}
use Rattle.tp_scene.specs.Says.{Claim, FormulaSays}
use Rattle.tp_scene.specs.Step.{Numbers, PickOutcome, becomes, with_value, with_values, with_place, with_arguments, called}
use Rattle.tp_scene.proofs.Frame.{Never, Keeps}
use Rattle.tp_scene.proofs.RowForms.{Agrees, becomes_one, with_value_row}
use Rattle.tp_scene.proofs.Values.{AreRight, deep_enough, value_found}
use Rattle.tp_scene.proofs.SimpleRows.{FormulaKeeps}

-- places are right in each state that agrees with the facts
abbrev pub PlacesAreRight : (w : Context) (kinds : List Bool) → List Fact → Type 0
PlacesAreRight w kinds facts = (σ : Locals) (s : Course) (a : ℕ) (x : ExprTree) (env : Bindings) → ExprFits w.defs kinds x (length env) → Agrees (length kinds) facts σ s a
    → PlaceIsRight facts w.defs kinds s σ a x env

none_after : {A B C : Type 0} (o : Option A) (u : Option B) (f : A → B → C) → u ≡ None → (o >>= λ x. u >>= λ y. Some (f x y)) ≡ None
none_after None u f h = refl
none_after (Some x) u f h = ap (λ v. v >>= λ y. Some (f x y)) h

none_first : {A B : Type 0} (o : Option A) (f : A → Option B) → o ≡ None → (o >>= f) ≡ None
none_first o f h = ap (λ u. u >>= f) h

both_there : {A B C : Type 0} (o : Option A) (u : Option B) (f : A → B → C) (x : A) (y : B) → o ≡ Some x → u ≡ Some y → (o >>= λ x. u >>= λ y. Some (f x y)) ≡ Some (f x y)
both_there o u f x y p q = ap (λ v. v >>= λ x. u >>= λ y. Some (f x y)) p ∙ ap (λ v. v >>= λ y. Some (f x y)) q

module _ (w : Context) (state : ℕ) (kinds : List Bool) (facts : List Fact) (nn : Numbers) (e : ℕ) (deep : depth_limit < e) (right : AreRight w kinds facts) (placed : PlacesAreRight w kinds facts) where
  abbrev globals : ℕ
  globals = length kinds

  module _ (env : Bindings) (s : Course) (a b : ℕ) where
    abbrev env_in : Locals → Env
    env_in σ = meanings_of globals s σ env

    abbrev ValuesAt : ExprTrees → ℕ → Locals → Option (List Tree)
    ValuesAt xs d σ = values_by w.defs (calls_at w.defs d) xs (env_in σ) s a

    abbrev ArgumentsAt : ExprTrees → List (List ℕ) → ℕ → Locals → Option Env
    ArgumentsAt xs names d σ = arguments_by w.defs (calls_at w.defs d) xs names (env_in σ) s a

    abbrev ArgumentAt : Bool → ExprTree → ℕ → Locals → Option Meaning
    ArgumentAt upper x d σ = if upper then place_by w.defs (calls_at w.defs d) x (env_in σ) s a else (value w.defs d x (env_in σ) s a >>= λ t. Some (fixed t))

    -- in each state that agrees, there is none at any depth; or this is it, at each great depth
    abbrev NoneIs : {A : Type 0} → (ℕ → Locals → Option A) → Type 0
    NoneIs o = (d : ℕ) (σ : Locals) → Agrees globals facts σ s a → o d σ ≡ None

    abbrev ItIs : {A : Type 0} → (ℕ → Locals → Option A) → (Locals → A) → Type 0
    ItIs o x = (d : ℕ) (σ : Locals) → Agrees globals facts σ s a → o (e + d) σ ≡ Some (x σ)

    module _ (Old : Claim) where
      abbrev No : Type 0
      No = Never w globals facts nn.local e Old s a b

      abbrev Row : PickOutcome → Type 0
      Row o = Keeps w globals facts nn.local e o Old s a b

      with_values_row : (xs : ExprTrees) → ExprsFit w.defs kinds xs (length env) → (f : List Tree → PickOutcome)
          → (NoneIs (ValuesAt xs) → No) → ((vs : List Tree) → ItIs (ValuesAt xs) (λ _. vs) → Row (f vs)) → Row (with_values w.defs facts xs env f)
      with_values_row no_expr fits f fails all = all [] (λ d σ ag. refl)
      with_values_row (expr_then x xs) fits f fails all =
          with_value_row w globals facts nn.local e Old s a b (outcome facts w.defs x env) (λ v. with_values w.defs facts xs env (λ vs. f (v ∷ vs)))
          (λ k q. fails (λ d σ ag. none_first _ _ ((right σ s a x env fits.0 ag).faults k q d)))
          (λ v q. with_values_row xs fits.1 (λ vs. f (v ∷ vs))
          (λ z. fails (λ d σ ag. none_after (value w.defs d x (env_in σ) s a) (ValuesAt xs d σ) (λ t ts. t ∷ ts) (z d σ ag)))
          (λ vs z. all (v ∷ vs) (λ d σ ag. both_there (value w.defs (e + d) x (env_in σ) s a) (ValuesAt xs (e + d) σ) (λ t ts. t ∷ ts) v vs (value_found w kinds facts nn.local e deep right x env fits.0 v q d σ s a ag) (z d σ ag))))

      argument_row : (upper : Bool) (x : ExprTree) → ExprFits w.defs kinds x (length env) → (f : BindingTree → PickOutcome)
          → (NoneIs (ArgumentAt upper x) → No) → ((y : BindingTree) → ItIs (ArgumentAt upper x) (λ σ. meaning_of globals s σ y) → Row (f y))
          → Row (if upper then with_place (place_outcome facts w.defs x env) f else with_value (outcome facts w.defs x env) (λ v. f (known_binding v)))
      argument_row true x fit f fails all = by_place (place_outcome facts w.defs x env) refl
        where
          by_place : (o : PlaceOutcome) → place_outcome facts w.defs x env ≡ o → Row (with_place o f)
          by_place (found.path p) q = all (place_binding p) (λ d σ ag. (placed σ s a x env fit ag).paths p q (e + d) (deep_enough w kinds facts nn.local e deep right d))
          by_place (found.other (found.value t)) q = all (known_binding t) (λ d σ ag. (placed σ s a x env fit ag).from_values t q (e + d) (deep_enough w kinds facts nn.local e deep right d))
          by_place (found.other (found.fault k)) q = fails (λ d σ ag. (placed σ s a x env fit ag).from_faults k q d)
          by_place x q = tt
      argument_row false x fit f fails all =
          with_value_row w globals facts nn.local e Old s a b (outcome facts w.defs x env) (λ v. f (known_binding v))
          (λ k q. fails (λ d σ ag. none_first _ _ ((right σ s a x env fit ag).faults k q d)))
          (λ v q. all (known_binding v) (λ d σ ag. ap (λ (o : Option Tree). o >>= λ t. Some (fixed t)) (value_found w kinds facts nn.local e deep right x env fit v q d σ s a ag)))

      arguments_row : (xs : ExprTrees) (names : List (List ℕ)) → ExprsFit w.defs kinds xs (length env) → (f : Bindings → PickOutcome)
          → (NoneIs (ArgumentsAt xs names) → No) → ((ys : Bindings) → ItIs (ArgumentsAt xs names) (λ σ. meanings_of globals s σ ys) → Row (f ys))
          → Row (with_arguments w.defs facts xs names env f)
      arguments_row no_expr [] fits f fails all = all [] (λ d σ ag. refl)
      arguments_row (expr_then x xs) (name ∷ names) fits f fails all =
          argument_row (is_upper name) x fits.0 (λ y. with_arguments w.defs facts xs names env (λ ys. f (y ∷ ys)))
          (λ z. fails (λ d σ ag. none_first _ _ (z d σ ag)))
          (λ y z. arguments_row xs names fits.1 (λ ys. f (y ∷ ys))
          (λ u. fails (λ d σ ag. none_after (ArgumentAt (is_upper name) x d σ) (ArgumentsAt xs names d σ) (λ m ms. m ∷ ms) (u d σ ag)))
          (λ ys u. all (y ∷ ys) (λ d σ ag. both_there (ArgumentAt (is_upper name) x (e + d) σ) (ArgumentsAt xs names (e + d) σ) (λ m ms. m ∷ ms) (meaning_of globals s σ y) (meanings_of globals s σ ys) (z d σ ag) (u d σ ag))))
      arguments_row x y fits f fails all = fails (λ d σ ag. refl)

    same_values : (xs : ExprTrees) (d : ℕ) (σ : Locals) (us vs : List Tree) → ValuesAt xs d σ ≡ Some us → ValuesAt xs (e + d) σ ≡ Some vs → us ≡ vs
    same_values xs d σ us vs p q =
        let r : ValuesAt xs (e + d) σ ≡ Some us = values_keep w.defs (calls_at w.defs d) (calls_at w.defs (e + d)) (calls_keep w.defs d (e + d) (omega arith)) xs (env_in σ) s a us p in cc

    same_arguments : (xs : ExprTrees) (names : List (List ℕ)) (d : ℕ) (σ : Locals) (us vs : Env) → ArgumentsAt xs names d σ ≡ Some us → ArgumentsAt xs names (e + d) σ ≡ Some vs → us ≡ vs
    same_arguments xs names d σ us vs p q =
        let r : ArgumentsAt xs names (e + d) σ ≡ Some us = arguments_keep w.defs (calls_at w.defs d) (calls_at w.defs (e + d)) (calls_keep w.defs d (e + d) (omega arith)) xs names (env_in σ) s a us p in cc

    pub display_row : (xs : ExprTrees) → ExprsFit w.defs kinds xs (length env) → (p : Place) → FormulaKeeps w state kinds facts nn e deep right (display xs) env p s a b
    display_row xs fits p = with_values_row (FormulaSays w globals (display xs) env) xs fits (λ vs. becomes (leaf (nn.item 0) (Shown vs) none) 1)
        (λ z d σ S ag h. let q = z d σ ag in let r = h.1 in absurd (cc))
        (λ vs z. becomes_one w globals facts nn.local e (FormulaSays w globals (display xs) env) s a b (nn.item 0) (Shown vs) 1
        (λ d σ S ag h. h.2 ∙ ap (λ (us : List Tree). shown_at a (us ∷ [])) (same_values xs d σ h.0 vs h.1 (z d σ ag)))
        (λ d σ S ag h. (vs, z d σ ag, h)))

    module _ (i : ℕ) (f : Definition) (is : slice_get w.defs i ≡ Some f) (xs : ExprTrees) where
      of_definition : (d : ℕ) (σ : Locals) → (slice_get w.defs i >>= λ g. ArgumentsAt xs g.parameters d σ) ≡ ArgumentsAt xs f.parameters d σ
      of_definition d σ = ap (λ (o : Option Definition). o >>= λ g. ArgumentsAt xs g.parameters d σ) is

      call_there : (ys : Bindings) → ItIs (ArgumentsAt xs f.parameters) (λ σ. meanings_of globals s σ ys) → (d : ℕ) (σ : Locals) (S : Shows) → Agrees globals facts σ s a
          → FormulaSays w globals (call i xs) env d σ s a b S → FormulaSays w globals f.formula ys d σ s a b S
      call_there ys z zero σ S ag h = elim h.2 [ ]
      call_there ys z (suc d) σ S ag h =
          let u : h.0 ≡ meanings_of globals s σ ys = same_arguments xs f.parameters (suc d) σ h.0 (meanings_of globals s σ ys) (sym (of_definition (suc d) σ) ∙ h.1) (z (suc d) σ ag) in
          let g : h.2.0 ≡ f = (let r = h.2.1 in cc) in
          holds_deeper w d (suc d) (omega arith) f.formula (meanings_of globals s σ ys) s a b S
          (subst (λ (E : Env). Holds w d f.formula E s a b S) u (subst (λ (F : Definition). Holds w d F.formula h.0 s a b S) g h.2.2))

      call_back : (ys : Bindings) (d d' : ℕ) (σ : Locals) (S : Shows) → d < d' → ArgumentsAt xs f.parameters d' σ ≡ Some (meanings_of globals s σ ys)
          → FormulaSays w globals f.formula ys d σ s a b S → FormulaSays w globals (call i xs) env d' σ s a b S
      call_back ys d zero σ S l q h = absurd (omega arith)
      call_back ys d (suc d') σ S l q h = (meanings_of globals s σ ys, of_definition (suc d') σ ∙ q, (f, is, holds_deeper w d d' (omega arith) f.formula (meanings_of globals s σ ys) s a b S h))

    pub call_row : (i : ℕ) (xs : ExprTrees) → ExprsFit w.defs kinds xs (length env) → (p : Place) → FormulaKeeps w state kinds facts nn e deep right (call i xs) env p s a b
    call_row i xs fits p = by_definition (slice_get w.defs i) refl
      where
        by_definition : (o : Option Definition) → slice_get w.defs i ≡ o → Keeps w globals facts nn.local e (called w.defs facts o xs env nn) (FormulaSays w globals (call i xs) env) s a b
        by_definition None q = λ d σ S ag h. let r = ap (λ (o : Option Definition). o >>= λ g. ArgumentsAt xs g.parameters d σ) q in let t = h.1 in absurd (cc)
        by_definition (Some f) q = arguments_row (FormulaSays w globals (call i xs) env) xs f.parameters fits (λ ys. becomes (leaf (nn.item 0) (Do f.formula ys) none) 1)
            (λ z d σ S ag h. let r = sym (of_definition i f q xs d σ) ∙ h.1 in let t = z d σ ag in absurd (cc))
            (λ ys z. becomes_one w globals facts nn.local e (FormulaSays w globals (call i xs) env) s a b (nn.item 0) (Do f.formula ys) 1
            (λ d σ S ag h. call_there i f q xs ys z d σ S ag h)
            (λ d σ S ag h. call_back i f q xs ys d (e + d) σ S (omega (arith, deep)) (z d σ ag) h))
