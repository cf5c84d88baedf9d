-- A path that a place is found to be is of a variable of the store, within the limit.
use Rattle.std.proofs.Common.{ℕ, zero, suc, nat_lt, Bool, List, [], ◌∷◌, length, slice_get, arith}
use Rattle.std.proofs.lemmas.Bool.{cond_both, ltb-true}
use Rattle.std.proofs.lemmas.List.{length-append}
use Rattle.tp_value.specs.Limits.{path_limit}
use Rattle.tp_value.specs.declared.path.Fact.{Fact}
use Rattle.tp_value.specs.declared.path.VarId.{VarId}
use Rattle.tp_meaning.specs.Syntax.{ExprTree, bound, global, index, Definition, BindingTree, place_binding, known_binding}
use Rattle.tp_meaning.specs.Fits.{ExprFits, IsVariable}
use Rattle.tp_meaning.specs.BindingsFit.{BindingFits, BindingsFit}
use Rattle.tp_eval.specs.Reached.{Reached, reaches, stops, waits, faults, passes, Evaluation, with_reached}
use Rattle.tp_eval.specs.Evaluate.{PlaceFound, at_path, inside, bound_place, index_in, farther, evaluate, find_place, depth_limit}
use Rattle.tp_eval.specs.Outcome as found
use Rattle.tp_eval.specs.Outcome.{PlaceOutcome, place_reached, place_outcome}

-- `kinds` are the globals', and `all` those of all variables
module _ (facts : List Fact) (defs : List Definition) (kinds all : List Bool) (among : (x : VarId) → IsVariable kinds x → IsVariable all x) where
  abbrev PlaceFits : PlaceFound → Type 0
  PlaceFits (at_path p) = BindingFits all (place_binding p)
  PlaceFits (inside t at) = Unit {0}

  abbrev IsFit : Reached PlaceFound → Type 0
  IsFit (reaches p calls) = PlaceFits p
  IsFit (stops s) = Unit {0}

  after_place : (r : Reached PlaceFound) (f : PlaceFound → Evaluation PlaceFound) → IsFit r → ((p : PlaceFound) (calls : ℕ) → PlaceFits p → IsFit (f p calls)) → IsFit (with_reached r f)
  after_place (reaches p calls) f h go = go p calls h
  after_place (stops s) f h go = tt

  after : {A : Type 0} (r : Reached A) (f : A → Evaluation PlaceFound) → ((a : A) (calls : ℕ) → IsFit (f a calls)) → IsFit (with_reached r f)
  after (reaches a calls) f go = go a calls
  after (stops s) f go = tt

  bound_fit : (env : List BindingTree) (i calls : ℕ) → BindingsFit all env → IsFit (bound_place (slice_get env i) calls)
  bound_fit [] i calls h = tt
  bound_fit (place_binding p ∷ env) zero calls h = h.0
  bound_fit (known_binding t ∷ env) zero calls h = tt
  bound_fit (b ∷ env) (suc i) calls h = bound_fit env i calls h.1

  farther_fit : (p : PlaceFound) (k calls : ℕ) → PlaceFits p → IsFit (farther p k calls)
  farther_fit (at_path p) k calls h = cond_both (nat_lt (length p.at) path_limit) _ _ (λ (o : Evaluation PlaceFound). IsFit (o calls))
      (λ e. (h.0, (let q = length-append p.at (k ∷ []) in let l = ltb-true (length p.at) path_limit e in omega (arith, q, l))))
      (λ _. tt)
  farther_fit (inside t at) k calls h = tt

  place_fit : (d : ℕ) (e : ExprTree) (env : List BindingTree) (calls : ℕ) → ExprFits defs kinds e (length env) → BindingsFit all env → IsFit (find_place facts defs d e env calls)
  place_fit (suc d) (bound i) env calls h b = bound_fit env i calls b
  place_fit (suc d) (global x) env calls h b = (among x h, omega arith)
  place_fit (suc d) (index e i) env calls h b = after_place (find_place facts defs d e env calls) _ (place_fit d e env calls h.0 b) (λ p c u.
      after (evaluate facts defs d i env c) _ (λ t c'. after (index_in t c') _ (λ k c''. farther_fit p k c'' u)))
  place_fit n e env calls h b = tt

  abbrev pub PathFits : PlaceOutcome → Type 0
  PathFits (found.path p) = BindingFits all (place_binding p)
  PathFits (found.other o) = Unit {0}

  reached_fit : (r : Reached PlaceFound) → IsFit r → PathFits (place_reached facts r)
  reached_fit (reaches (at_path p) calls) h = h
  reached_fit (reaches (inside t at) calls) h = tt
  reached_fit (stops (waits p)) h = tt
  reached_fit (stops (faults k)) h = tt
  reached_fit (stops (passes k)) h = tt

  pub path_fits : (e : ExprTree) (env : List BindingTree) → ExprFits defs kinds e (length env) → BindingsFit all env → PathFits (place_outcome facts defs e env)
  unfolding place_outcome
  path_fits e env h b = reached_fit (find_place facts defs depth_limit e env 0) (place_fit depth_limit e env 0 h b)
