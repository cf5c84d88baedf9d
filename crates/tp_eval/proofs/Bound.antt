-- What a place that a parameter is bound to means is right in each state that agrees with the facts.
use Rattle.std.proofs.Common.{◌≡◌, ℕ, ◌+◌, ◌≤◌, Bool, List, length, Option, Some, None, refl, ap, ◌∙◌, arith}
use Rattle.tp_value.specs.Tree.{Tree}
use Rattle.tp_value.specs.declared.path.Path.{Path}
use Rattle.tp_value.specs.declared.path.Fact.{Fact}
use Rattle.tp_value.specs.Shape.{item_at}
use Rattle.tp_kernel.specs.declared.fault.FaultKind.{FaultKind}
use Rattle.tp_meaning.specs.Syntax.{ExprTree, Definition, BindingTree, place_binding}
use Rattle.tp_meaning.specs.Fits.{ExprFits, DefinitionsFit}
use Rattle.tp_meaning.specs.Course.{Course}
use Rattle.tp_meaning.specs.Bindings.{Locals, meaning_of, meanings_of}
use Rattle.tp_meaning.specs.Value.{◌>>=◌, Meaning, fixed, calls_at}
use Rattle.tp_meaning.proofs.Deeper.{place_keeps, calls_keep}
use Rattle.tp_store.specs.Facts.{AgreesWithAll}
use Rattle.tp_store.specs.Known.{NoClash}
use Rattle.tp_eval.specs.Reached.{Reached, reaches, stops, waits, faults, passes}
use Rattle.tp_eval.specs.Evaluate.{PlaceFound, at_path, inside, element_in, find_place, depth_limit}
use Rattle.tp_eval.specs.Outcome as found
use Rattle.tp_eval.specs.Outcome.{outcome_reached, place_reached, place_outcome}
use Rattle.tp_eval.specs.Right.{values_at}
use Rattle.tp_eval.specs.Bound.{meant_place, PlaceIsRight, PlacesMean}
use Rattle.tp_eval.proofs.PlaceLemmas.{FactsAreRight, meaning_of_place, PlaceGives}
use Rattle.tp_eval.proofs.Meanings.{find_place_agrees}
use Rattle.tp_eval.proofs.Kept.{facts_are_right}

module _ (facts : List Fact) (Agreeing : Type 0) (kinds : List Bool) (s : Course) (locals : Locals) (a : ℕ) where
  abbrev Meant : PlaceFound → Option Meaning
  Meant = meaning_of_place facts Agreeing kinds s locals a

  path_means : (r : Reached PlaceFound) (o : Option Meaning) (p : Path) → PlaceGives facts Agreeing kinds s locals a r o → Agreeing → place_reached facts r ≡ found.path p → o ≡ Some (meaning_of (length kinds) s locals (place_binding p))
  path_means (reaches (at_path q) c) o p h w e = let same : q ≡ p = cc in h w ∙ ap (λ (x : Path). Some (meaning_of (length kinds) s locals (place_binding x))) same
  path_means (reaches (inside t at) c) o p h w e = absurd (cc)
  path_means (stops (waits q)) o p h w e = absurd (cc)
  path_means (stops (faults k)) o p h w e = absurd (cc)
  path_means (stops (passes k)) o p h w e = absurd (cc)

  element_means : (x : Option Tree) (t : Tree) (c : ℕ) → found.other (outcome_reached (element_in x c)) ≡ found.other (found.value t) → (x >>= λ u. Some (fixed u)) ≡ Some (fixed t)
  element_means None t c e = absurd (cc)
  element_means (Some u) t c e = let same : u ≡ t = cc in ap (λ (x : Tree). Some (fixed x)) same

  no_element_means : (x : Option Tree) (k : FaultKind) (c : ℕ) → found.other (outcome_reached (element_in x c)) ≡ found.other (found.fault k) → (x >>= λ u. Some (fixed u)) ≡ None
  no_element_means None k c e = refl
  no_element_means (Some u) k c e = absurd (cc)

  value_means : (r : Reached PlaceFound) (o : Option Meaning) (t : Tree) → PlaceGives facts Agreeing kinds s locals a r o → Agreeing → place_reached facts r ≡ found.other (found.value t) → o ≡ Some (fixed t)
  value_means (reaches (at_path q) c) o t h w e = absurd (cc)
  value_means (reaches (inside u at) c) o t h w e = h w ∙ element_means (item_at at u) t c e
  value_means (stops (waits q)) o t h w e = absurd (cc)
  value_means (stops (faults k)) o t h w e = absurd (cc)
  value_means (stops (passes k)) o t h w e = absurd (cc)

  fault_means : (r : Reached PlaceFound) (o : Option Meaning) (k : FaultKind) → PlaceGives facts Agreeing kinds s locals a r o → Agreeing → place_reached facts r ≡ found.other (found.fault k) → o ≡ None
  fault_means (reaches (at_path q) c) o k h w e = absurd (cc)
  fault_means (reaches (inside u at) c) o k h w e = h w ∙ no_element_means (item_at at u) k c e
  fault_means (stops (waits q)) o k h w e = absurd (cc)
  fault_means (stops (faults j)) o k h w e = h w
  fault_means (stops (passes j)) o k h w e = absurd (cc)

module _ (facts : List Fact) (defs : List Definition) (kinds : List Bool) (s : Course) (locals : Locals) (a : ℕ) (e : ExprTree) (env : List BindingTree)
    (apart : NoClash facts) (fit : DefinitionsFit defs kinds) (fits : ExprFits defs kinds e (length env)) where
  abbrev State : Type 0
  State = AgreesWithAll (values_at (length kinds) s locals a) facts

  facts_right : FactsAreRight facts State (values_at (length kinds) s locals a)
  facts_right = facts_are_right facts (values_at (length kinds) s locals a) apart

  abbrev mean : ℕ → Option Meaning
  mean d = meant_place defs d kinds s locals a e env

  gives_at : (l d : ℕ) → l ≤ d → PlaceGives facts State kinds s locals a (find_place facts defs l e env 0) (mean d)
  gives_at l d le = find_place_agrees facts State defs kinds s locals a facts_right (λ w. fit) l d le (length env) e env (λ w. fits) 0

  -- a meaning at one depth is one at each beyond
  none_below : (d d' : ℕ) → d ≤ d' → (o : Option Meaning) → mean d ≡ o → mean d' ≡ None → o ≡ None
  none_below d d' le None q h = refl
  none_below d d' le (Some m) q h =
      let r : mean d' ≡ Some m = place_keeps defs (calls_at defs d) (calls_at defs d') (calls_keep defs d d' le) e (meanings_of (length kinds) s locals env) s a m q in absurd (cc)

  fault_at_levels : (l : ℕ) (k : FaultKind) → State → place_reached facts (find_place facts defs l e env 0) ≡ found.other (found.fault k) → (d : ℕ) → mean d ≡ None
  fault_at_levels l k w q d = none_below d (d + l) (omega arith) (mean d) refl (fault_means facts State kinds s locals a (find_place facts defs l e env 0) (mean (d + l)) k (gives_at l (d + l) (omega arith)) w q)

  place_is_right : State → PlaceIsRight facts defs kinds s locals a e env
  unfolding place_outcome
  place_is_right w = record {
    paths = λ p q d le. path_means facts State kinds s locals a (find_place facts defs depth_limit e env 0) (mean d) p (gives_at depth_limit d le) w q;
    from_values = λ t q d le. value_means facts State kinds s locals a (find_place facts defs depth_limit e env 0) (mean d) t (gives_at depth_limit d le) w q;
    from_faults = λ k q d. fault_at_levels depth_limit k w q d;
  }

pub places_mean : PlacesMean
places_mean facts defs kinds s locals a e env apart fit fits agrees = place_is_right facts defs kinds s locals a e env apart fit fits agrees
