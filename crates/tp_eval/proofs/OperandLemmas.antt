-- A name that is bound to a known value has it, where a level is left.
use Rattle.std.proofs.Common.{◌≡◌, ℕ, zero, suc, ◌<◌, List, [], Option, Some, None, ap, ◌∙◌, arith, slice_get}
use Rattle.std.specs.Option.{option_and_then}
use Rattle.tp_value.specs.Tree.{Tree}
use Rattle.tp_value.specs.declared.path.Path.{Path}
use Rattle.tp_value.specs.declared.path.Fact.{Fact}
use Rattle.tp_store.specs.Known.{full, value}
use Rattle.tp_meaning.specs.Syntax.{ExprTree, bound, global, Definition, BindingTree, place_binding, known_binding}
use Rattle.tp_eval.specs.Reached.{reaches, with_reached}
use Rattle.tp_eval.specs.Evaluate.{inside, bound_place, of_full, value_at, evaluate, find_place}
use Rattle.tp_eval.specs.Operand.{known_value, bound_value, bound_path, named_path, IsNamedValue}

module _ (facts : List Fact) (t : Tree) (c : ℕ) where
  known_read : (o : Option BindingTree) → option_and_then known_value o ≡ Some t → with_reached (bound_place o c) (value_at facts) ≡ reaches t c
  known_read None h = absurd (cc)
  known_read (Some (place_binding p)) h = absurd (cc)
  known_read (Some (known_binding u)) h = let same : u ≡ t = cc in ap (λ v. reaches v c) same

  known_place : (o : Option BindingTree) → option_and_then known_value o ≡ Some t → bound_place o c ≡ reaches (inside t []) c
  known_place None h = absurd (cc)
  known_place (Some (place_binding p)) h = absurd (cc)
  known_place (Some (known_binding u)) h = let same : u ≡ t = cc in ap (λ v. reaches (inside v []) c) same

  kept_read : (o : Option BindingTree) (p : Path) → option_and_then bound_path o ≡ Some p → full facts p ≡ value t → with_reached (bound_place o c) (value_at facts) ≡ reaches t c
  kept_read None p h k = absurd (cc)
  kept_read (Some (place_binding q)) p h k = let same : q ≡ p = cc in ap (λ y. of_full (full facts y) c) same ∙ ap (λ o. of_full o c) k
  kept_read (Some (known_binding u)) p h k = absurd (cc)

  module _ (defs : List Definition) (env : List BindingTree) where
    value_left : (d : ℕ) (e : ExprTree) → bound_value e env ≡ Some t → evaluate facts defs (suc d) e env c ≡ reaches t c
    value_left d (bound i) h = known_read (slice_get env i) h
    value_left d e h = absurd (cc)

    place_left : (d : ℕ) (e : ExprTree) → bound_value e env ≡ Some t → find_place facts defs (suc d) e env c ≡ reaches (inside t []) c
    place_left d (bound i) h = known_place (slice_get env i) h
    place_left d e h = absurd (cc)

    pub value_reached : (n : ℕ) (e : ExprTree) → 0 < n → bound_value e env ≡ Some t → evaluate facts defs n e env c ≡ reaches t c
    value_reached zero e l h = absurd (omega arith)
    value_reached (suc d) e l h = value_left d e h

    pub place_reached_by_value : (n : ℕ) (e : ExprTree) → 0 < n → bound_value e env ≡ Some t → find_place facts defs n e env c ≡ reaches (inside t []) c
    place_reached_by_value zero e l h = absurd (omega arith)
    place_reached_by_value (suc d) e l h = place_left d e h

    kept_left : (d : ℕ) (e : ExprTree) (p : Path) → named_path e env ≡ Some p → full facts p ≡ value t → evaluate facts defs (suc d) e env c ≡ reaches t c
    kept_left d (global x) p h k = let same : record { var = x; at = [] } ≡ p = cc in ap (λ y. of_full (full facts y) c) same ∙ ap (λ o. of_full o c) k
    kept_left d (bound i) p h k = kept_read (slice_get env i) p h k
    kept_left d e p h k = absurd (cc)

    -- and so has a name of a place whose value the facts say
    pub named_value_reached : (n : ℕ) (e : ExprTree) → 0 < n → IsNamedValue facts (named_path e env) t → evaluate facts defs n e env c ≡ reaches t c
    named_value_reached zero e l h = absurd (omega arith)
    named_value_reached (suc d) e l h = kept_left d e h.0 h.1 h.2
