-- Outcomes of expressions where more is known.
use Rattle.std.proofs.Common.{◌≡◌, ℕ, zero, suc, Bool, true, false, List, [], ◌∷◌, slice_get, Option, Some, None, refl, ap, ap₂, sym, subst, if◌then◌else◌}
use Rattle.tp_value.specs.Tree.{Tree}
use Rattle.tp_value.specs.declared.value.Shape.{Shape}
use Rattle.tp_value.specs.declared.path.Fact.{Fact}
use Rattle.tp_value.specs.Shape.{item_at}
use Rattle.tp_kernel.specs.declared.fault.FaultKind.TheVariants.{NoElement}
use Rattle.tp_meaning.specs.Syntax.{Operator, ExprTree, ExprTrees, boolean, bound, global, listing, size, index, minus, negation, both, either, binary, choice, invoke, no_expr, expr_then, Definition, BindingTree}
use Rattle.tp_meaning.specs.Value.{is_upper}
use Rattle.tp_store.specs.Facts.{kept_shape, is_excluded}
use Rattle.tp_store.specs.Known.{Full, undecided, full}
use Rattle.tp_eval.specs.Reached.{Stop, Reached, reaches, stops, waits, faults, passes, Evaluation, with_reached, fault}
use Rattle.tp_eval.specs.Evaluate as ev
use Rattle.tp_eval.specs.Evaluate.{PlaceFound, at_path, inside, is_place, element_in, of_full, length_in, length_of, bind_place, count_call, truth_in, evaluate, find_place, depth_limit}
use Rattle.tp_eval.specs.Outcome as found
use Rattle.tp_eval.specs.Outcome.{outcome, place_outcome, outcome_reached, place_reached, PlaceOutcome}
use Rattle.tp_step_laws.specs.Outcomes.{KnowsMore, StaysKnown, GrownFull, GrownOutcome, GrownPlace, OutcomesGrow}
use Rattle.tp_step_laws.proofs.FactsGrow.{facts_grow}

abbrev pub IfNot : Bool → Type 0 → Type 0
IfNot true X = Unit {0}
IfNot false X = X

-- which stops may become anything: those that wait, or those that pass a limit
abbrev pub is_wait : Stop → Bool
is_wait (waits p) = true
is_wait (faults k) = false
is_wait (passes k) = false

abbrev pub is_limit : Stop → Bool
is_limit (waits p) = false
is_limit (faults k) = false
is_limit (passes k) = true

module _ (free : Stop → Bool) where
  -- what is reached is reached again, and a stop stays unless it is free
  abbrev pub More : {A : Type 0} → Reached A → Reached A → Type 0
  More (reaches x c) o = o ≡ reaches x c
  More (stops s) o = IfNot (free s) (o ≡ stops s)

  free_same : {A : Type 0} (b : Bool) (r : Reached A) → IfNot b (r ≡ r)
  free_same true r = tt
  free_same false r = refl

  pub same_more : {A : Type 0} (r : Reached A) → More r r
  same_more (reaches x c) = refl
  same_more (stops s) = free_same (free s) (stops s)

  free_then : {A B : Type 0} (b : Bool) (s : Stop) (r' : Reached A) (f' : A → Evaluation B) → IfNot b (r' ≡ stops s) → IfNot b (with_reached r' f' ≡ stops s)
  free_then true s r' f' h = tt
  free_then false s r' f' h = ap (λ o. with_reached o f') h

  pub then_more : {A B : Type 0} (r r' : Reached A) (f f' : A → Evaluation B) → More r r' → ((x : A) (c : ℕ) → More (f x c) (f' x c)) → More (with_reached r f) (with_reached r' f')
  then_more (reaches x c) r' f f' h k = subst (λ o. More (f x c) (with_reached o f')) (sym h) (k x c)
  then_more (stops s) r' f f' h k = free_then (free s) s r' f' h

  if_more : {A : Type 0} (b : Bool) (x x' y y' : Evaluation A) (c : ℕ) → More (x c) (x' c) → More (y c) (y' c) → More ((if b then x else y) c) ((if b then x' else y') c)
  if_more true x x' y y' c h k = h
  if_more false x x' y y' c h k = k

  module _ (fs gs : List Fact) (value_at_more : (p : PlaceFound) (c : ℕ) → More (ev.value_at fs p c) (ev.value_at gs p c)) (size_at_more : (p : PlaceFound) (c : ℕ) → More (ev.size_at fs p c) (ev.size_at gs p c)) where
    -- one level, where each operand and each place is so one level deeper
    module _ (op op' : ExprTree → Evaluation Tree) (up : (e : ExprTree) (c : ℕ) → More (op e c) (op' e c)) where
      each_more : (es : ExprTrees) (c : ℕ) → More (ev.each op es c) (ev.each op' es c)
      each_more no_expr c = refl
      each_more (expr_then e es) c = then_more _ _ _ _ (up e c) (λ t c. then_more _ _ _ _ (each_more es c) (λ ts c. refl))

      all_more : (es : ExprTrees) (c : ℕ) → More (ev.all_true op es c) (ev.all_true op' es c)
      all_more no_expr c = refl
      all_more (expr_then e es) c = then_more _ _ _ _ (up e c) (λ t c. then_more _ _ _ _ (same_more (truth_in t c)) (λ b c. if_more b _ _ _ _ c (all_more es c) refl))

      one_more : (a b : ExprTree) (c : ℕ) → More (ev.one_true op a b c) (ev.one_true op' a b c)
      one_more a b c = then_more _ _ _ _ (up a c) (λ t c. then_more _ _ _ _ (same_more (truth_in t c)) (λ x c. if_more x _ _ _ _ c refl
          (then_more _ _ _ _ (then_more _ _ _ _ (up b c) (λ u c. same_more (truth_in u c))) (λ y c. refl))))

      operated_more : (o : Operator) (a b : ExprTree) (c : ℕ) → More (ev.operation_outcome op o a b c) (ev.operation_outcome op' o a b c)
      operated_more o a b c = then_more _ _ _ _ (up a c) (λ t c. then_more _ _ _ _ (up b c) (λ u c. same_more (ev.operate_outcome o t u c)))

      chosen_more : (b x y : ExprTree) (c : ℕ) → More (ev.chosen op b x y c) (ev.chosen op' b x y c)
      chosen_more b x y c = then_more _ _ _ _ (up b c) (λ t c. then_more _ _ _ _ (same_more (truth_in t c)) (λ v c. if_more v _ _ _ _ c (up x c) (up y c)))

      element_more : (e i : ExprTree) (c : ℕ) → More (ev.element_of op e i c) (ev.element_of op' e i c)
      element_more e i c = then_more _ _ _ _ (up e c) (λ t c. then_more _ _ _ _ (up i c) (λ u c. same_more (ev.item_between t u c)))

      module _ (pl pl' : ExprTree → Evaluation PlaceFound) (down : (e : ExprTree) (c : ℕ) → More (pl e c) (pl' e c)) where
        pub place_more : (env : List BindingTree) (e : ExprTree) (c : ℕ) → More (ev.evaluated_place op pl env e c) (ev.evaluated_place op' pl' env e c)
        place_more env (bound i) c = same_more _
        place_more env (global x) c = refl
        place_more env (index e i) c = then_more _ _ _ _ (down e c) (λ p c. then_more _ _ _ _ (up i c) (λ t c. then_more _ _ _ _ (same_more (ev.index_in t c)) (λ k c. same_more (ev.farther p k c))))
        place_more env e c = same_more {A = PlaceFound} (stops (faults NoElement))

        argument_more : (u : Bool) (e : ExprTree) (c : ℕ) → More (ev.argument op pl u e c) (ev.argument op' pl' u e c)
        argument_more true e c = then_more _ _ _ _ (down e c) (λ p c. same_more (bind_place p c))
        argument_more false e c = then_more _ _ _ _ (up e c) (λ t c. refl)

        arguments_more : (es : ExprTrees) (xs : List (List ℕ)) (c : ℕ) → More (ev.arguments op pl es xs c) (ev.arguments op' pl' es xs c)
        arguments_more no_expr [] c = refl
        arguments_more (expr_then e es) (x ∷ xs) c = then_more _ _ _ _ (argument_more (is_upper x) e c) (λ b c. then_more _ _ _ _ (arguments_more es xs c) (λ bs c. refl))
        arguments_more x y c = same_more {A = List BindingTree} (stops (faults NoElement))

        module _ (env : List BindingTree) where
          index_more : (b : Bool) (e i : ExprTree) (c : ℕ) → More (ev.indexed_value op pl fs env b e i c) (ev.indexed_value op' pl' gs env b e i c)
          index_more true e i c = then_more _ _ _ _ (place_more env (index e i) c) value_at_more
          index_more false e i c = element_more e i c

          size_more : (b : Bool) (e : ExprTree) (c : ℕ) → More (ev.size_of op pl fs env b e c) (ev.size_of op' pl' gs env b e c)
          size_more true e c = then_more _ _ _ _ (down e c) size_at_more
          size_more false e c = then_more _ _ _ _ (up e c) (λ t c. same_more (length_of t c))

          module _ (defs : List Definition) (body body' : ExprTree → List BindingTree → Evaluation Tree) (in_body : (e : ExprTree) (args : List BindingTree) (c : ℕ) → More (body e args c) (body' e args c)) where
            body_more : (o : Option ExprTree) (args : List BindingTree) (c : ℕ) → More (ev.body_of op pl fs env defs body o args c) (ev.body_of op' pl' gs env defs body' o args c)
            body_more (Some e) args c = in_body e args c
            body_more None args c = same_more {A = Tree} (stops (faults NoElement))

            call_more : (d : Option Definition) (es : ExprTrees) (c : ℕ) → More (ev.call op pl fs env defs body d es c) (ev.call op' pl' gs env defs body' d es c)
            call_more (Some f) es c = then_more _ _ _ _ (same_more (count_call c)) (λ n c. then_more _ _ _ _ (arguments_more es f.parameters c) (λ args c. body_more f.expr args c))
            call_more None es c = same_more {A = Tree} (stops (faults NoElement))

            pub row_more : (e : ExprTree) (c : ℕ) → More (ev.part_value op pl fs env defs body e c) (ev.part_value op' pl' gs env defs body' e c)
            row_more (boolean b) c = refl
            row_more (bound i) c = then_more _ _ _ _ (place_more env (bound i) c) value_at_more
            row_more (global x) c = value_at_more (at_path (record { var = x; at = [] })) c
            row_more (listing es) c = then_more _ _ _ _ (each_more es c) (λ ts c. same_more _)
            row_more (size e) c = size_more (is_place e) e c
            row_more (index e i) c = index_more (is_place e) e i c
            row_more (minus e) c = then_more _ _ _ _ (up e c) (λ t c. same_more (ev.negative_in t c))
            row_more (negation e) c = then_more _ _ _ _ (up e c) (λ t c. same_more (ev.negated_in t c))
            row_more (both es) c = all_more es c
            row_more (either a b) c = one_more a b c
            row_more (binary o a b) c = operated_more o a b c
            row_more (choice b x y) c = chosen_more b x y c
            row_more (invoke p es) c = call_more (slice_get defs p) es c
            row_more e c = same_more _

module _ (fs gs : List Fact) (more : KnowsMore fs gs) (stays : StaysKnown fs gs) where
  full_more : (a b : Full) (c : ℕ) → GrownFull a b → More is_wait (of_full a c) (of_full b c)
  full_more (undecided p) b c h = tt
  full_more x b c h = ap (λ o. of_full o c) h

  value_up : (p : PlaceFound) (c : ℕ) → More is_wait (ev.value_at fs p c) (ev.value_at gs p c)
  value_up (at_path p) c = full_more (full fs p) (full gs p) c (stays.wholes p)
  value_up (inside t at) c = same_more is_wait _

  pub size_up : (p : PlaceFound) (c : ℕ) → More is_wait (ev.size_at fs p c) (ev.size_at gs p c)
  size_up (inside t at) c = same_more is_wait _
  size_up (at_path p) c = go (is_excluded fs p) (kept_shape fs p) refl refl
    where
      go : (b : Bool) (o : Option Shape) → is_excluded fs p ≡ b → kept_shape fs p ≡ o → More is_wait ((if b then fault NoElement else length_in p o) c) (ev.size_at gs (at_path p) c)
      go true o e h = ap (λ b. (if b then fault NoElement else length_in p (kept_shape gs p)) c) (stays.excluded p e)
      go false None e h = tt
      go false (Some sh) e h = subst (λ (r : Reached Tree). More is_wait (length_in p (Some sh) c) r)
          (ap₂ (λ b o. (if b then fault NoElement else length_in p o) c) (sym (stays.allowed p sh h)) (sym (more p sh h))) (same_more is_wait _)

  module _ (defs : List Definition) where
    pub evaluate_more : (d : ℕ) → ((e : ExprTree) (env : List BindingTree) (c : ℕ) → More is_wait (evaluate fs defs d e env c) (evaluate gs defs d e env c)) × ((e : ExprTree) (env : List BindingTree) (c : ℕ) → More is_wait (find_place fs defs d e env c) (find_place gs defs d e env c))
    evaluate_more zero = (λ e env c. refl, λ e env c. refl)
    evaluate_more (suc d) = let ih = evaluate_more d in (
      (λ e env c. row_more is_wait fs gs value_up size_up _ _ (λ x c. ih.0 x env c) _ _ (λ x c. ih.1 x env c) env defs _ _ (λ x args c. ih.0 x args c) e c),
      (λ e env c. place_more is_wait fs gs value_up size_up _ _ (λ x c. ih.0 x env c) _ _ (λ x c. ih.1 x env c) env e c),
    )

-- and so of the same facts one level deeper, but for limits
module _ (fs : List Fact) (defs : List Definition) where
  pub evaluate_deeper : (d : ℕ) → ((e : ExprTree) (env : List BindingTree) (c : ℕ) → More is_limit (evaluate fs defs d e env c) (evaluate fs defs (suc d) e env c)) × ((e : ExprTree) (env : List BindingTree) (c : ℕ) → More is_limit (find_place fs defs d e env c) (find_place fs defs (suc d) e env c))
  evaluate_deeper zero = (λ e env c. tt, λ e env c. tt)
  evaluate_deeper (suc d) = let ih = evaluate_deeper d in (
    (λ e env c. row_more is_limit fs fs (λ p c. same_more is_limit _) (λ p c. same_more is_limit _) _ _ (λ x c. ih.0 x env c) _ _ (λ x c. ih.1 x env c) env defs _ _ (λ x args c. ih.0 x args c) e c),
    (λ e env c. place_more is_limit fs fs (λ p c. same_more is_limit _) (λ p c. same_more is_limit _) _ _ (λ x c. ih.0 x env c) _ _ (λ x c. ih.1 x env c) env e c),
  )

outcome_more : (r r' : Reached Tree) → More is_wait r r' → GrownOutcome (outcome_reached r) (outcome_reached r')
outcome_more (stops (waits p)) r' h = tt
outcome_more r r' h = ap outcome_reached h

element_found : (fs gs : List Fact) (o : Option Tree) (r : PlaceOutcome) (c : ℕ) → r ≡ found.other (outcome_reached (element_in o c)) → GrownPlace (found.other (outcome_reached (element_in o c))) r
element_found fs gs (Some t) r c h = h
element_found fs gs None r c h = h

place_found_more : (fs gs : List Fact) (r r' : Reached PlaceFound) → More is_wait r r' → GrownPlace (place_reached fs r) (place_reached gs r')
place_found_more fs gs (reaches (inside t at) c) r' h = element_found fs gs (item_at at t) (place_reached gs r') c (ap (place_reached gs) h)
place_found_more fs gs (stops (waits p)) r' h = tt
place_found_more fs gs r r' h = ap (place_reached gs) h

pub outcomes_grow : OutcomesGrow
unfolding outcome place_outcome
outcomes_grow fs gs fc gc more defs e env =
    let ih = evaluate_more fs gs more (facts_grow fs gs fc gc more) defs depth_limit in
    (outcome_more _ _ (ih.0 e env 0), place_found_more fs gs _ _ (ih.1 e env 0))
