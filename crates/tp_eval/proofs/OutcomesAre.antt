-- Outcomes are right in each state that agrees with the facts, and what is waited for is undecided.
use Rattle.std.proofs.Common.{◌≡◌, ℕ, zero, suc, ◌+◌, ◌≤◌, pos, Bool, true, List, [], length, Option, Some, None, refl, ap, sym, ◌∙◌, arith}
use Rattle.tp_value.specs.Tree.{Tree, num, truth, list, items_of}
use Rattle.tp_value.specs.Shape.{shape_of, item_at}
use Rattle.tp_value.specs.declared.value.Shape.TheVariants.{Items}
use Rattle.tp_value.specs.declared.path.Path.{Path}
use Rattle.tp_value.specs.declared.path.Fact.{Fact}
use Rattle.tp_kernel.specs.declared.fault.FaultKind.{FaultKind}
use Rattle.tp_meaning.specs.Syntax.{ExprTree, Definition, BindingTree, bound, global, index, size}
use Rattle.tp_meaning.specs.Fits.{ExprFits, DefinitionsFit}
use Rattle.tp_meaning.specs.Course.{Course}
use Rattle.tp_meaning.specs.Bindings.{Locals, meanings_of}
use Rattle.tp_meaning.specs.Value.{◌>>=◌, calls_at, place_by, meant}
use Rattle.tp_meaning.proofs.Deeper.{value_deeper}
use Rattle.tp_store.specs.Facts.{AgreesWithAll, kept_shape, is_excluded}
use Rattle.tp_store.specs.Known.{NoClash}
use Rattle.tp_eval.specs.Reached.{Reached, reaches, stops, waits, faults, passes, with_reached}
use Rattle.tp_eval.specs.Evaluate.{PlaceFound, at_path, inside, element_in, is_place, evaluate, find_place, depth_limit}
use Rattle.tp_eval.specs.Outcome as found
use Rattle.tp_eval.specs.Outcome.{outcome, place_outcome, outcome_reached, place_reached}
use Rattle.tp_eval.specs.Right.{values_at, OutcomesAreRight, OutcomesMean, WaitsAreUndecided, PlaceWaitsAreUndecided, meant_here, value_here}
use Rattle.tp_eval.proofs.Agree.{IsUndecided, Agrees}
use Rattle.tp_eval.proofs.Found.{sized, shape_of_element, size_by_shape}
use Rattle.tp_eval.proofs.PlaceLemmas.{FactsAreRight, meaning_of_place}
use Rattle.tp_eval.proofs.Operands.{place_value}
use Rattle.tp_eval.proofs.Meanings.{evaluate_agrees, find_place_agrees}
use Rattle.tp_eval.proofs.Kept.{facts_are_right, no_state_is_right}

-- an evaluation that goes on
abbrev Goes : {A : Type 0} → Reached A → Type 0
Goes (reaches x c) = Unit {0}
Goes (stops k) = ⊥

goes_first : {A B : Type 0} (r : Reached A) (f : A → ℕ → Reached B) → Goes (with_reached r f) → Goes r
goes_first (reaches x c) f h = tt
goes_first (stops k) f h = h

-- a place alone is found
goes_place : (facts : List Fact) (defs : List Definition) (l : ℕ) (e : ExprTree) (env : List BindingTree) (c : ℕ) → Goes (find_place facts defs l e env c) → is_place e ≡ true
goes_place facts defs zero e env c h = absurd h
goes_place facts defs (suc l) (bound i) env c h = refl
goes_place facts defs (suc l) (global x) env c h = refl
goes_place facts defs (suc l) (index e i) env c h = goes_place facts defs l e env c (goes_first (find_place facts defs l e env c) _ h)
goes_place facts defs (suc l) e env c h = absurd h

path_goes : (facts : List Fact) (r : Reached PlaceFound) (p : Path) → place_reached facts r ≡ found.path p → Goes r
path_goes facts (reaches x c) p h = tt
path_goes facts (stops (waits q)) p h = absurd (cc)
path_goes facts (stops (faults k)) p h = absurd (cc)
path_goes facts (stops (passes k)) p h = absurd (cc)

sized_some : (o : Option Tree) (t : Tree) → (o >>= sized) ≡ Some t → (n : ℕ) × (t ≡ num (pos n)) × ((o >>= λ u. Some (shape_of u)) ≡ Some (Items n))
sized_some None t h = absurd (cc)
sized_some (Some (num n)) t h = absurd (cc)
sized_some (Some (truth b)) t h = absurd (cc)
sized_some (Some (list ts)) t h = let q : num (pos (length (items_of ts))) ≡ t = cc in (length (items_of ts), sym q, refl)

module _ (facts : List Fact) (Agreeing : Type 0) (w : Agreeing) where
  value_found : (r : Reached Tree) (t : Tree) (o : Option Tree) → outcome_reached r ≡ found.value t → Agrees facts Agreeing Some r o → o ≡ Some t
  value_found (reaches x c) t o h k = let q : x ≡ t = cc in k w ∙ ap Some q
  value_found (stops (waits p)) t o h k = absurd (cc)
  value_found (stops (faults j)) t o h k = absurd (cc)
  value_found (stops (passes j)) t o h k = absurd (cc)

  fault_found : (r : Reached Tree) (j : FaultKind) (o : Option Tree) → outcome_reached r ≡ found.fault j → Agrees facts Agreeing Some r o → o ≡ None
  fault_found (reaches x c) j o h k = absurd (cc)
  fault_found (stops (waits p)) j o h k = absurd (cc)
  fault_found (stops (faults i)) j o h k = k w
  fault_found (stops (passes i)) j o h k = absurd (cc)

  path_found : {B : Type 0} (mean : PlaceFound → Option B) (r : Reached PlaceFound) (p : Path) (o : Option B) → place_reached facts r ≡ found.path p → Agrees facts Agreeing mean r o → o ≡ mean (at_path p)
  path_found mean (reaches (at_path q) c) p o h k = let same : q ≡ p = cc in k w ∙ ap (λ x. mean (at_path x)) same
  path_found mean (reaches (inside t at) c) p o h k = absurd (cc)
  path_found mean (stops (waits q)) p o h k = absurd (cc)
  path_found mean (stops (faults j)) p o h k = absurd (cc)
  path_found mean (stops (passes j)) p o h k = absurd (cc)

wait_found : (facts : List Fact) (Agreeing : Type 0) (r : Reached Tree) (p : Path) (o : Option Tree) → outcome_reached r ≡ found.wait p → Agrees facts Agreeing Some r o → IsUndecided facts p
wait_found facts Agreeing (reaches x c) p o h k = absurd (cc)
wait_found facts Agreeing (stops (waits q)) p o h k = let same : q ≡ p = cc in (ap (kept_shape facts) (sym same) ∙ k.0, ap (is_excluded facts) (sym same) ∙ k.1)
wait_found facts Agreeing (stops (faults j)) p o h k = absurd (cc)
wait_found facts Agreeing (stops (passes j)) p o h k = absurd (cc)

module _ (facts : List Fact) (defs : List Definition) (kinds : List Bool) (s : Course) (locals : Locals) (a : ℕ) (e : ExprTree) (env : List BindingTree)
    (apart : NoClash facts) (fit : DefinitionsFit defs kinds) (fits : ExprFits defs kinds e (length env))
    (agrees : AgreesWithAll (values_at (length kinds) s locals a) facts) where
  abbrev State : Type 0
  State = AgreesWithAll (values_at (length kinds) s locals a) facts

  facts_right : FactsAreRight facts State (values_at (length kinds) s locals a)
  facts_right = facts_are_right facts (values_at (length kinds) s locals a) apart

  abbrev mean : ℕ → ExprTree → Option Tree
  mean d x = meant_here facts defs kinds s locals a d x env

  -- what is found at one depth is found at a greater one
  deeper : (d d' : ℕ) (x : ExprTree) (t : Tree) → d ≤ d' → mean d x ≡ Some t → mean d' x ≡ Some t
  deeper d d' x t le h = value_deeper defs d d' le x (meanings_of (length kinds) s locals env) s a t h

  value_at_levels : (l d : ℕ) → l ≤ d → (t : Tree) → outcome_reached (evaluate facts defs l e env 0) ≡ found.value t → mean d e ≡ Some t
  value_at_levels l d le t h = value_found facts State agrees (evaluate facts defs l e env 0) t (mean d e) h
      (evaluate_agrees facts State defs kinds s locals a facts_right (λ w. fit) l d le (length env) e env (λ w. fits) 0)

  no_value : (d : ℕ) (o : Option Tree) → mean d e ≡ o → (d' : ℕ) → d ≤ d' → mean d' e ≡ None → mean d e ≡ None
  no_value d None q d' le h = q
  no_value d (Some t) q d' le h = let x : None ≡ Some t = sym h ∙ deeper d d' e t le q in absurd (cc)

  fault_at_levels : (l : ℕ) (j : FaultKind) → outcome_reached (evaluate facts defs l e env 0) ≡ found.fault j → (d : ℕ) → mean d e ≡ None
  fault_at_levels l j h d = no_value d (mean d e) refl (d + l) (omega arith) (fault_found facts State agrees (evaluate facts defs l e env 0) j (mean (d + l) e) h
      (evaluate_agrees facts State defs kinds s locals a facts_right (λ w. fit) l (d + l) (omega arith) (length env) e env (λ w. fits) 0))

  place_at_levels : (l d : ℕ) → l ≤ d → (p : Path) → place_reached facts (find_place facts defs l e env 0) ≡ found.path p → mean d e ≡ item_at p.at (value_here facts defs kinds s locals a p)
  place_at_levels l d le p h =
      place_value facts State defs kinds s locals a facts_right (λ x. evaluate facts defs l x env) (λ x. find_place facts defs l x env) env (calls_at defs d) (length env)
      (λ x k. evaluate_agrees facts State defs kinds s locals a facts_right (λ w. fit) l d le (length env) x env k)
      (λ x k. find_place_agrees facts State defs kinds s locals a facts_right (λ w. fit) l d le (length env) x env k)
      e (goes_place facts defs l e env 0 (path_goes facts (find_place facts defs l e env 0) p h))
      ∙ ap (λ o. o >>= meant a) (path_found facts State agrees (meaning_of_place facts State kinds s locals a) (find_place facts defs l e env 0) p (place_by defs (calls_at defs d) e (meanings_of (length kinds) s locals env) s a) h
      (find_place_agrees facts State defs kinds s locals a facts_right (λ w. fit) l d le (length env) e env (λ w. fits) 0))

  size_at_levels : (l d : ℕ) → l ≤ d → (p : Path) → place_reached facts (find_place facts defs l e env 0) ≡ found.path p → mean d (size e) ≡ (item_at p.at (value_here facts defs kinds s locals a p) >>= sized)
  size_at_levels l d le p h = ap (λ o. o >>= sized) (place_at_levels l d le p h)

  outcomes_right : OutcomesAreRight facts defs kinds s locals a e env
  unfolding outcome place_outcome
  outcomes_right = record {
    values = λ t h d le. value_at_levels depth_limit d le t h;
    faults = λ k h d. fault_at_levels depth_limit k h d;
    places = λ p h d t k. sym (place_at_levels depth_limit (d + depth_limit) (omega arith) p h) ∙ deeper d (d + depth_limit) e t (omega arith) k;
    elements = λ p h d le t k. place_at_levels depth_limit d le p h ∙ k;
    sizes = λ p h d t k. let found = sized_some _ t (sym (size_at_levels depth_limit (d + depth_limit) (omega arith) p h) ∙ deeper d (d + depth_limit) (size e) t (omega arith) k) in
        (found.0, found.1, shape_of_element p.at (value_here facts defs kinds s locals a p) ∙ found.2);
    lengths = λ p h d le n k. size_at_levels depth_limit d le p h ∙ size_by_shape _ (Items n) (sym (shape_of_element p.at (value_here facts defs kinds s locals a p)) ∙ k);
  }

pub outcomes_mean : OutcomesMean
outcomes_mean facts defs kinds s locals a e env apart fit fits agrees = outcomes_right facts defs kinds s locals a e env apart fit fits agrees

-- no state is needed for what is waited for
abbrev nowhere : Course
nowhere = λ j. record { own = 0; values = λ n. truth true }

pub waits_are_undecided : WaitsAreUndecided
unfolding outcome
waits_are_undecided facts defs e env p apart h =
    wait_found facts ⊥ (evaluate facts defs depth_limit e env 0) p _ h
    (evaluate_agrees facts ⊥ defs [] nowhere (λ n j. truth true) 0 (no_state_is_right facts (values_at 0 nowhere (λ n j. truth true) 0) apart) (λ w. absurd w) depth_limit depth_limit (omega arith) 0 e env (λ w. absurd w) 0)

inside_never_waits : (o : Option Tree) (calls : ℕ) (p : Path) → outcome_reached (element_in o calls) ≡ found.wait p → ⊥
inside_never_waits (Some t) calls p h = cc
inside_never_waits None calls p h = cc

place_wait_found : {B : Type 0} (facts : List Fact) (Agreeing : Type 0) (mean : PlaceFound → Option B) (r : Reached PlaceFound) (p : Path) (o : Option B) → place_reached facts r ≡ found.other (found.wait p) → Agrees facts Agreeing mean r o
    → IsUndecided facts p
place_wait_found facts Agreeing mean (reaches (at_path q) c) p o h k = absurd (cc)
place_wait_found facts Agreeing mean (reaches (inside t at) c) p o h k = absurd (inside_never_waits (item_at at t) c p (cc))
place_wait_found facts Agreeing mean (stops (waits q)) p o h k = let same : q ≡ p = cc in (ap (kept_shape facts) (sym same) ∙ k.0, ap (is_excluded facts) (sym same) ∙ k.1)
place_wait_found facts Agreeing mean (stops (faults j)) p o h k = absurd (cc)
place_wait_found facts Agreeing mean (stops (passes j)) p o h k = absurd (cc)

pub place_waits_are_undecided : PlaceWaitsAreUndecided
unfolding place_outcome
place_waits_are_undecided facts defs e env p apart h =
    place_wait_found facts ⊥ (meaning_of_place facts ⊥ [] nowhere (λ n j. truth true) 0) (find_place facts defs depth_limit e env 0) p _ h
    (find_place_agrees facts ⊥ defs [] nowhere (λ n j. truth true) 0 (no_state_is_right facts (values_at 0 nowhere (λ n j. truth true) 0) apart) (λ w. absurd w) depth_limit depth_limit (omega arith) 0 e env (λ w. absurd w) 0)
