-- The steps of equations and inputs keep what these say.
use Rattle.std.proofs.Common.{◌≡◌, ℕ, ◌+◌, ◌<◌, Bool, true, false, List, length, Option, Some, None, refl, ap, sym, ◌∙◌, subst, inl, inr, ◌⊎◌}
use Rattle.tp_value.specs.Tree.{Tree}
use Rattle.tp_value.specs.declared.path.Path.{Path}
use Rattle.tp_value.specs.declared.path.Fact.{Fact}
use Rattle.tp_meaning.specs.Syntax.{ExprTree, size, equation, input}
use Rattle.tp_meaning.specs.Course.{Course}
use Rattle.tp_meaning.specs.Bindings.{Locals}
use Rattle.tp_meaning.specs.Fits.{ExprFits}
use Rattle.tp_meaning.specs.Inputs.{input_at}
use Rattle.tp_meaning.specs.Holds.{Context}
use Rattle.tp_eval.specs.Evaluate.{depth_limit, is_place}
use Rattle.tp_eval.specs.Outcome as found
use Rattle.tp_eval.specs.Outcome.{PlaceOutcome, place_outcome}
use Rattle.tp_scene.specs.Scene.{Bindings, Place}
use Rattle.tp_scene.specs.Says.{FormulaSays}
use Rattle.tp_scene.specs.Step.{Numbers, Target, value_at, length_at, target_at, target_of, target_if, side_of, side_with, from_port, equate_values}
use Rattle.tp_scene.proofs.Frame.{Keeps}
use Rattle.tp_scene.proofs.RowForms.{Agrees, row_as}
use Rattle.tp_scene.proofs.Values.{AreRight, HasValue, deep_enough, value_found, one_value, no_value}
use Rattle.tp_scene.proofs.Sides.{AddingIsRight, Having, TargetIs, EquationSays, SideMeans, equate_values_row, equate_row}
use Rattle.tp_scene.proofs.SimpleRows.{FormulaKeeps}

module _ (w : Context) (state : ℕ) (kinds : List Bool) (facts : List Fact) (nn : Numbers) (e : ℕ) (deep : depth_limit < e) (right : AreRight w kinds facts) (adding : AddingIsRight facts) where
  -- where an expression can be set, as the value at a path, or as the length of the list at one
  abbrev IsAt : (Path → Target) → ExprTree → Bindings → Target → Type 0
  IsAt target x env t = (p : Path) × (place_outcome facts w.defs x env ≡ found.path p) × (target p ≡ t)

  abbrev Sized : ExprTree → Bindings → Target → Type 0
  Sized x env t = (y : ExprTree) × (x ≡ size y) × IsAt length_at y env t

  at_path : (target : Path → Target) (x : ExprTree) (env : Bindings) (t : Target) (o : PlaceOutcome) → place_outcome facts w.defs x env ≡ o → target_at target o ≡ Some t → IsAt target x env t
  at_path target x env t (found.path p) q h = (p, q, cc)
  at_path target x env t (found.other o) q h = absurd (cc)

  if_place : (c : Bool) (target : Path → Target) (x : ExprTree) (env : Bindings) (t : Target) → target_if w.defs facts c target x env ≡ Some t → IsAt target x env t
  if_place true target x env t h = at_path target x env t (place_outcome facts w.defs x env) refl h
  if_place false target x env t h = absurd (cc)

  target_is : (x : ExprTree) (env : Bindings) (t : Target) → target_of w.defs facts x env ≡ Some t → IsAt value_at x env t ⊎ Sized x env t
  target_is (size y) env t h = inr (y, refl, if_place (is_place y) length_at y env t h)
  target_is x env t h = inl (if_place (is_place x) value_at x env t h)

  abbrev Value : ExprTree → Bindings → Having
  Value = λ x env. HasValue w kinds facts nn.local e deep right x env

  sized_fits : (x y : ExprTree) (env : Bindings) → x ≡ size y → ExprFits w.defs kinds x (length env) → ExprFits w.defs kinds y (length env)
  sized_fits x y env z fit = subst (λ (f : ExprTree). ExprFits w.defs kinds f (length env)) z fit

  module _ (x : ExprTree) (env : Bindings) (fit : ExprFits w.defs kinds x (length env)) (s : Course) (a : ℕ) (t : Target) (d : ℕ) (σ : Locals) (ag : Agrees (length kinds) facts σ s a) (u : Tree) where
    is_there : IsAt value_at x env t ⊎ Sized x env t → Value x env d σ s a u → TargetIs (length kinds) t σ s a u
    is_there (inl (p, q, z)) h = subst (λ (r : Target). TargetIs (length kinds) r σ s a u) z ((right σ s a x env fit ag).places p q d u h)
    is_there (inr (y, sized, (p, q, z))) h = subst (λ (r : Target). TargetIs (length kinds) r σ s a u) z
        ((right σ s a y env (sized_fits x y env sized fit) ag).sizes p q d u (subst (λ (f : ExprTree). Value f env d σ s a u) sized h))

    length_back : (y : ExprTree) → ExprFits w.defs kinds y (length env) → (p : Path) → place_outcome facts w.defs y env ≡ found.path p → TargetIs (length kinds) (length_at p) σ s a u → Value (size y) env (e + d) σ s a u
    length_back y fits p q (k, r, z) = subst (λ (v : Tree). Value (size y) env (e + d) σ s a v) (sym r) ((right σ s a y env fits ag).lengths p q (e + d) (deep_enough w kinds facts nn.local e deep right d) k z)

    is_back : IsAt value_at x env t ⊎ Sized x env t → TargetIs (length kinds) t σ s a u → Value x env (e + d) σ s a u
    is_back (inl (p, q, z)) h = (right σ s a x env fit ag).elements p q (e + d) (deep_enough w kinds facts nn.local e deep right d) u (subst (λ (r : Target). TargetIs (length kinds) r σ s a u) (sym z) h)
    is_back (inr (y, sized, (p, q, z))) h = subst (λ (f : ExprTree). Value f env (e + d) σ s a u) (sym sized)
        (length_back y (sized_fits x y env sized fit) p q (subst (λ (r : Target). TargetIs (length kinds) r σ s a u) (sym z) h))

  side_means : (x : ExprTree) (env : Bindings) → ExprFits w.defs kinds x (length env) → (s : Course) (a : ℕ) → SideMeans (length kinds) facts e (side_of w.defs facts x env) (Value x env) s a
  side_means x env fit s a = record {
    value_there = λ t q d σ ag. value_found w kinds facts nn.local e deep right x env fit t q d σ s a ag;
    value_only = λ t q d σ ag u h. one_value w kinds facts nn.local e deep right x env fit t q d σ s a ag u h;
    no_value = λ k q d σ ag u h. no_value w kinds facts nn.local e deep right x env fit k q d σ s a ag u h;
    target_there = λ t q d σ ag u h. is_there x env fit s a t d σ ag u (target_is x env t q) h;
    target_back = λ t q d σ ag u h. is_back x env fit s a t d σ ag u (target_is x env t q) h;
  }

  pub equation_row : (l r : ExprTree) (env : Bindings) → ExprFits w.defs kinds l (length env) → ExprFits w.defs kinds r (length env) → (p : Place) (s : Course) (a b : ℕ)
      → FormulaKeeps w state kinds facts nn e deep right (equation l r) env p s a b
  equation_row l r env fl fr p s a b =
      let left = side_of w.defs facts l env in
      let right = side_of w.defs facts r env in
      equate_row w (length kinds) facts nn.local e adding s a b nn left.placed left.target left.found right.placed right.target right.found (Value l env) (Value r env) (side_means l env fl s a) (side_means r env fr s a)

  -- the other side of an input has the value that is given
  given_means : (v : Tree) (s : Course) (a : ℕ) → SideMeans (length kinds) facts e (side_with v) (λ d σ s a u. u ≡ v) s a
  given_means v s a = record {
    value_there = λ t q d σ ag. cc;
    value_only = λ t q d σ ag u h. cc;
    no_value = λ k q d σ ag u h. absurd (cc);
    target_there = λ t q d σ ag u h. absurd (cc);
    target_back = λ t q d σ ag u h. absurd (cc);
  }

  pub input_row : (x : ExprTree) (port : List ℕ) (env : Bindings) → ExprFits w.defs kinds x (length env) → (p : Place) (s : Course) (a b : ℕ) → (s a).own ≡ state
      → FormulaKeeps w state kinds facts nn e deep right (input x port) env p s a b
  input_row x port env fit p s a b own = by_port (input_at w.inputs state port) refl
    where
      by_port : (o : Option Tree) → input_at w.inputs state port ≡ o
          → Keeps w (length kinds) facts nn.local e (from_port facts o port (side_of w.defs facts x env)) (FormulaSays w (length kinds) (input x port) env) s a b
      by_port None q = λ d σ S ag h. let r : input_at w.inputs (s a).own port ≡ None = ap (λ k. input_at w.inputs k port) own ∙ q in let z = h.1 in absurd (cc)
      by_port (Some v) q =
          let side = side_of w.defs facts x env in
          let given : input_at w.inputs (s a).own port ≡ Some v = ap (λ k. input_at w.inputs k port) own ∙ q in
          row_as w (length kinds) facts nn.local e (equate_values facts side (side_with v)) (EquationSays (Value x env) (λ d σ s a u. u ≡ v)) (FormulaSays w (length kinds) (input x port) env) s a b
          (λ d σ S ag h. let z = h.1 in (h.0, h.2, cc, h.3))
          (λ d σ S ag h. (v, given, subst (λ (u : Tree). Value x env d σ s a u) h.2 h.1, h.3))
          (equate_values_row w (length kinds) facts nn.local e adding s a b side.placed side.target side.found false None (found.value v) (Value x env) (λ d σ s a u. u ≡ v) (side_means x env fit s a) (given_means v s a))
