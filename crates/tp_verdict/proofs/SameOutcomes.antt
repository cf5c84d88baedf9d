-- The outcome of an expression depends on the shapes that are kept.
use Rattle.std.proofs.Common.{◌≡◌, ℕ, zero, suc, Bool, true, false, List, slice_get, Option, Some, None, refl, ap, ap₂, ◌∙◌, if◌then◌else◌}
use Rattle.tp_value.specs.Tree.{Tree}
use Rattle.tp_value.specs.declared.path.Fact.{Fact}
use Rattle.tp_kernel.specs.declared.fault.FaultKind.TheVariants.{NoElement}
use Rattle.tp_meaning.specs.Syntax.{ExprTree, ExprTrees, bound, global, size, index, invoke, Definition, BindingTree}
use Rattle.tp_store.specs.Known.{NoClash}
use Rattle.tp_store.specs.Changes.{HaveSameShapes}
use Rattle.tp_store.specs.Laws.{KnowTheSame}
use Rattle.tp_store.proofs.States.{same_shapes_same_store}
use Rattle.tp_eval.specs.Reached.{Evaluation, ◌>>=◌, fault}
use Rattle.tp_eval.specs.Evaluate.{PlaceFound, at_path, inside, is_place, of_full, length_in, value_at, size_at, count_call, evaluated_place, arguments, indexed_value, size_of, body_of, call, part_value, evaluate, find_place, depth_limit}
use Rattle.tp_eval.specs.Outcome.{outcome, outcome_reached}

module _ (fs gs : List Fact) (values : value_at fs ≡ value_at gs) (sizes : size_at fs ≡ size_at gs) where
  module _ (operand : ExprTree → Evaluation Tree) (place : ExprTree → Evaluation PlaceFound) (env : List BindingTree) where
    index_same : (z : Bool) (e i : ExprTree) → indexed_value operand place fs env z e i ≡ indexed_value operand place gs env z e i
    index_same true e i = ap (λ f. evaluated_place operand place env (index e i) >>= f) values
    index_same false e i = refl

    size_same : (z : Bool) (e : ExprTree) → size_of operand place fs env z e ≡ size_of operand place gs env z e
    size_same true e = ap (λ f. place e >>= f) sizes
    size_same false e = refl

    module _ (defs : List Definition) (body : ExprTree → List BindingTree → Evaluation Tree) where
      body_same : (o : Option ExprTree) (args : List BindingTree) → body_of operand place fs env defs body o args ≡ body_of operand place gs env defs body o args
      body_same (Some e) args = refl
      body_same None args = refl

      call_same : (o : Option Definition) (es : ExprTrees) → call operand place fs env defs body o es ≡ call operand place gs env defs body o es
      call_same (Some f) es = λ i. count_call >>= λ n. arguments operand place es f.parameters >>= λ args. body_same f.expr args i
      call_same None es = refl

      part_same : (e : ExprTree) → part_value operand place fs env defs body e ≡ part_value operand place gs env defs body e
      part_same (bound n) = ap (λ f. evaluated_place operand place env (bound n) >>= f) values
      part_same (global x) = ap (λ f. evaluated_place operand place env (global x) >>= f) values
      part_same (size e) = size_same (is_place e) e
      part_same (index e i) = index_same (is_place e) e i
      part_same (invoke p es) = call_same (slice_get defs p) es
      part_same e = refl

  module _ (defs : List Definition) where
    levels_same : (d : ℕ) → ((e : ExprTree) (env : List BindingTree) → evaluate fs defs d e env ≡ evaluate gs defs d e env) × ((e : ExprTree) (env : List BindingTree) → find_place fs defs d e env ≡ find_place gs defs d e env)
    levels_same zero = (λ e env. refl, λ e env. refl)
    levels_same (suc d) = let h = levels_same d in (
      (λ e env. (λ i. part_value (λ x. h.0 x env i) (λ x. h.1 x env i) fs env defs (λ x args. h.0 x args i) e)
          ∙ part_same (λ x. evaluate gs defs d x env) (λ x. find_place gs defs d x env) env defs (λ x args. evaluate gs defs d x args) e),
      (λ e env. (λ i. evaluated_place (λ x. h.0 x env i) (λ x. h.1 x env i) env e)),
    )

    outcome_same : (e : ExprTree) (env : List BindingTree) → outcome fs defs e env ≡ outcome gs defs e env
    unfolding outcome
    outcome_same e env = let h = levels_same depth_limit in ap (λ r. outcome_reached (r 0)) (h.0 e env)

module _ (fs gs : List Fact) (n : NoClash fs) (m : NoClash gs) (same : HaveSameShapes fs gs) where
  know : KnowTheSame fs gs
  know = same_shapes_same_store fs gs n m same

  value_same : (p : PlaceFound) → value_at fs p ≡ value_at gs p
  value_same (at_path p) = ap of_full (know.wholes p)
  value_same (inside t at) = refl

  length_same : (p : PlaceFound) → size_at fs p ≡ size_at gs p
  length_same (at_path p) = ap₂ (λ b o. if b then fault NoElement else length_in p o) (know.excluded p) (same p)
  length_same (inside t at) = refl

  pub outcomes_by_shapes : (defs : List Definition) (e : ExprTree) (env : List BindingTree) → outcome fs defs e env ≡ outcome gs defs e env
  outcomes_by_shapes defs e env = outcome_same fs gs (λ i p. value_same p i) (λ i p. length_same p i) defs e env
