-- Outcomes of expressions under a renaming of variables.
use Rattle.std.proofs.Common.{◌≡◌, ℤ, pos, negsuc, ◌+ℤ◌, ◌-ℤ◌, ◌*ℤ◌, neg_ℤ, nat_le, nat_lt, ℕ, zero, suc, Bool, true, false, List, [], ◌∷◌, ◌++◌, length, slice_get, Option, Some, None, refl, ap, ap₂, sym, ◌∙◌, if◌then◌else◌}
use Rattle.std.specs.Option.{option_map}
use Rattle.std.proofs.lemmas.Option.{slice_get-map}
use Rattle.tp_value.specs.Tree.{Tree, num, truth, list, items_of, of_items}
use Rattle.tp_value.specs.declared.value.Shape.{Shape}
use Rattle.tp_value.specs.declared.value.Shape.TheVariants.{Num, Truth, Items}
use Rattle.tp_value.specs.declared.path.Path.{Path}
use Rattle.tp_value.specs.declared.path.Fact.{Fact}
use Rattle.tp_value.specs.Number.{is_within_limit, floor_div, floor_mod}
use Rattle.tp_value.specs.Limits.{path_limit, index_limit, is_within_list_limit}
use Rattle.tp_value.specs.Shape.{item_at}
use Rattle.tp_kernel.specs.declared.fault.LimitKind.TheVariants as limit
use Rattle.tp_kernel.specs.declared.fault.FaultKind.TheVariants.{NoElement}
use Rattle.tp_meaning.specs.Syntax.{Operator, Equal, Differs, Plus, Minus, Times, Div, Mod, ExprTree, ExprTrees, numeral, boolean, known, bound, global, listing, size, index, minus, negation, both, either, binary, choice, invoke, no_expr, expr_then, Definition, BindingTree, place_binding}
use Rattle.tp_meaning.specs.Value.{is_upper}
use Rattle.tp_meaning.specs.Fits.{ExprFits, ExprsFit, DefinitionsFit}
use Rattle.tp_scene.proofs.Below.{variable_below}
use Rattle.tp_store.specs.Facts.{kept_shape, is_excluded, item_path}
use Rattle.tp_store.specs.Known.{NoClash, Full, absent, full}
use Rattle.tp_eval.specs.Reached.{Stop, Reached, reaches, stops, waits, faults, passes, Evaluation, with_reached, gives, stop, fault, within_numbers, within_lists}
use Rattle.tp_eval.specs.Evaluate as ev
use Rattle.tp_eval.specs.Evaluate.{PlaceFound, at_path, inside, is_place, element_in, of_full, length_in, length_of, bind_place, count_call, call_limit, truth_in, evaluate, find_place, depth_limit}
use Rattle.tp_eval.specs.Outcome as found
use Rattle.tp_eval.specs.Outcome.{outcome, place_outcome, outcome_reached, place_reached, PlaceOutcome}
use Rattle.tp_step_laws.specs.Renaming.{renamed_binding, renamed_bindings, renamed_found, renamed_place_found, FactsAlike, OutcomesRename}
use Rattle.tp_step_laws.specs.Maps.{Renaming, FixesBelow, renamed_path}
use Rattle.tp_step_laws.proofs.RenameFacts.{full_to, fulls_alike, excluded_alike}

module _ (ρ : Renaming) where
  abbrev stop_to : Stop → Stop
  stop_to (waits p) = waits (renamed_path ρ p)
  stop_to (faults k) = faults k
  stop_to (passes k) = passes k

  abbrev place_to : PlaceFound → PlaceFound
  place_to (at_path p) = at_path (renamed_path ρ p)
  place_to (inside t at) = inside t at

  abbrev to : {A : Type 0} → (A → A) → Reached A → Reached A
  to f (reaches x c) = reaches (f x) c
  to f (stops s) = stops (stop_to s)

  abbrev itself : {A : Type 0} → A → A
  itself x = x

  -- what has no path stays
  then_to : {A B : Type 0} (f : A → A) (g : B → B) (r r' : Reached A) (k k' : A → Evaluation B) → r' ≡ to f r → ((x : A) (c : ℕ) → k' (f x) c ≡ to g (k x c)) → with_reached r' k' ≡ to g (with_reached r k)
  then_to f g (reaches x c) r' k k' h m = ap (λ o. with_reached o k') h ∙ m x c
  then_to f g (stops s) r' k k' h m = ap (λ o. with_reached o k') h

  if_to : {A : Type 0} (g : A → A) (b : Bool) (x x' y y' : Evaluation A) (c : ℕ) → x' c ≡ to g (x c) → y' c ≡ to g (y c) → (if b then x' else y') c ≡ to g ((if b then x else y) c)
  if_to g true x x' y y' c h k = h
  if_to g false x x' y y' c h k = k

  -- an evaluation in which no path stands
  abbrev Free : {A : Type 0} → Reached A → Type 0
  Free r = r ≡ to itself r

  limited_free : {A : Type 0} (b : Bool) (x : A) (s : Stop) (c : ℕ) → s ≡ stop_to s → Free ((if b then gives x else stop s) c)
  limited_free true x s c h = refl
  limited_free false x s c h = ap stops h

  truth_free : (t : Tree) (c : ℕ) → Free (truth_in t c)
  truth_free (num n) c = refl
  truth_free t c = refl

  number_free : (t : Tree) (c : ℕ) → Free (ev.number_in t c)
  number_free (num n) c = refl
  number_free t c = refl

  items_free : (t : Tree) (c : ℕ) → Free (ev.list_items t c)
  items_free (num n) c = refl
  items_free t c = refl

  element_free : (o : Option Tree) (c : ℕ) → Free (element_in o c)
  element_free None c = refl
  element_free (Some t) c = refl

  item_free : (ts : List Tree) (n : ℤ) (c : ℕ) → Free (ev.item_in ts n c)
  item_free ts (pos k) c = element_free (slice_get ts k) c
  item_free ts (negsuc k) c = refl

  then_free : {A B : Type 0} (r : Reached A) (k : A → Evaluation B) → Free r → ((x : A) (c : ℕ) → Free (k x c)) → Free (with_reached r k)
  then_free r k h m = then_to itself itself r r k k h m

  between_free : (t u : Tree) (c : ℕ) → Free (ev.item_between t u c)
  between_free t u c = then_free _ _ (items_free t c) (λ ts c. then_free _ _ (number_free u c) (λ n c. item_free ts n c))

  num_free : (n : ℤ) (c : ℕ) → Free (ev.number_in (num n) c)
  num_free n c = refl

  value_free : (n : ℤ) (c : ℕ) → Free (within_numbers n c)
  value_free n c = limited_free (is_within_limit n) (num n) _ c refl

  list_free : (t : Tree) (c : ℕ) → Free (within_lists t c)
  list_free t c = limited_free (is_within_list_limit t) t _ c refl

  divisor_free : (f : ℤ → ℤ → ℤ) (a b : ℤ) (c : ℕ) → Free (ev.on_divisor_outcome f a b c)
  divisor_free f a (pos zero) c = refl
  divisor_free f a x c = value_free (f a x) c

  numbers_free : (f : ℤ → ℤ → Evaluation Tree) (s t : Tree) (c : ℕ) → ((a b : ℤ) (c : ℕ) → Free (f a b c)) → Free (ev.on_numbers_outcome f s t c)
  numbers_free f s t c h = then_free _ _ (number_free s c) (λ a c. then_free _ _ (number_free t c) (λ b c. h a b c))

  sum_free : (s t : Tree) (c : ℕ) → Free (ev.sum_in s t c)
  sum_free (num a) t c = then_free _ _ (number_free t c) (λ b c. value_free (a +ℤ b) c)
  sum_free (list s) t c = then_free _ _ (items_free t c) (λ us c. list_free (list (of_items (items_of s ++ us))) c)
  sum_free (truth b) t c = refl

  operate_free : (o : Operator) (s t : Tree) (c : ℕ) → Free (ev.operate_outcome o s t c)
  operate_free Equal s t c = refl
  operate_free Differs s t c = refl
  operate_free Plus s t c = sum_free s t c
  operate_free Minus s t c = numbers_free _ s t c (λ a b c. value_free (a -ℤ b) c)
  operate_free Times s t c = numbers_free _ s t c (λ a b c. value_free (a *ℤ b) c)
  operate_free Div s t c = numbers_free _ s t c (divisor_free floor_div)
  operate_free Mod s t c = numbers_free _ s t c (divisor_free floor_mod)
  operate_free x s t c = numbers_free _ s t c (λ a b c. refl)

  negated_free : (t : Tree) (c : ℕ) → Free (ev.negated_in t c)
  negated_free t c = then_free _ _ (truth_free t c) (λ b c. refl)

  negative_free : (t : Tree) (c : ℕ) → Free (ev.negative_in t c)
  negative_free t c = then_free _ _ (number_free t c) (λ n c. value_free (neg_ℤ n) c)

  index_free : (t : Tree) (c : ℕ) → Free (ev.index_in t c)
  index_free (num (pos k)) c = limited_free (nat_le k index_limit) k _ c refl
  index_free t c = refl

  length_free : (t : Tree) (c : ℕ) → Free (length_of t c)
  length_free t c = then_free _ _ (items_free t c) (λ ts c. refl)

  count_free : (c : ℕ) → Free (count_call c)
  count_free c = go (nat_lt c call_limit)
    where
      go : (b : Bool) → Free (if b then reaches c (suc c) else stops (passes limit.Calls))
      go true = refl
      go false = refl

  farther_to : (p : PlaceFound) (k c : ℕ) → ev.farther (place_to p) k c ≡ to place_to (ev.farther p k c)
  farther_to (inside t at) k c = refl
  farther_to (at_path p) k c = go (nat_lt (length p.at) path_limit)
    where
      go : (b : Bool) → (if b then gives (at_path (item_path (renamed_path ρ p) k)) else stop (passes limit.List)) c ≡ to place_to ((if b then gives (at_path (item_path p k)) else stop (passes limit.List)) c)
      go true = refl
      go false = refl

  bind_to : (p : PlaceFound) (c : ℕ) → bind_place (place_to p) c ≡ to (renamed_binding ρ) (bind_place p c)
  bind_to (at_path p) c = refl
  bind_to (inside t at) c = then_to itself (renamed_binding ρ) (element_in (item_at at t) c) (element_in (item_at at t) c) _ _ (element_free (item_at at t) c) (λ u c. refl)

  bound_to : (o : Option BindingTree) (c : ℕ) → ev.bound_place (option_map (renamed_binding ρ) o) c ≡ to place_to (ev.bound_place o c)
  bound_to (Some (place_binding p)) c = refl
  bound_to m c = refl

  full_found : (o : Full) (c : ℕ) → of_full (full_to ρ o) c ≡ to itself (of_full o c)
  full_found absent c = refl
  full_found x c = refl

  length_to : (p : Path) (o : Option Shape) (c : ℕ) → length_in (renamed_path ρ p) o c ≡ to itself (length_in p o c)
  length_to p None c = refl
  length_to p (Some (Num n)) c = refl
  length_to p (Some (Truth b)) c = refl
  length_to p (Some (Items n)) c = refl

  module _ (fs gs : List Fact) (fc : NoClash fs) (gc : NoClash gs) (alike : FactsAlike ρ fs gs) where
    value_at_to : (p : PlaceFound) (c : ℕ) → ev.value_at gs (place_to p) c ≡ to itself (ev.value_at fs p c)
    value_at_to (at_path p) c = ap (λ o. of_full o c) (fulls_alike ρ fs gs fc gc alike p) ∙ full_found (full fs p) c
    value_at_to (inside t at) c = element_free (item_at at t) c

    size_at_to : (p : PlaceFound) (c : ℕ) → ev.size_at gs (place_to p) c ≡ to itself (ev.size_at fs p c)
    size_at_to (inside t at) c = then_free _ _ (element_free (item_at at t) c) (λ u c. length_free u c)
    size_at_to (at_path p) c = ap₂ (λ b o. (if b then fault NoElement else length_in (renamed_path ρ p) o) c) (excluded_alike ρ fs gs fc gc alike p) (alike p) ∙ go (is_excluded fs p)
      where
        go : (b : Bool) → (if b then fault NoElement else length_in (renamed_path ρ p) (kept_shape fs p)) c ≡ to itself ((if b then fault NoElement else length_in p (kept_shape fs p)) c)
        go true = refl
        go false = length_to p (kept_shape fs p) c

    module _ (defs : List Definition) (kinds : List Bool) (fit : DefinitionsFit defs kinds) (fixed : FixesBelow (length kinds) ρ.local) where
      module _ (n : ℕ) (op op' : ExprTree → Evaluation Tree) (up : (e : ExprTree) → ExprFits defs kinds e n → (c : ℕ) → op' e c ≡ to itself (op e c)) where
        each_to : (es : ExprTrees) → ExprsFit defs kinds es n → (c : ℕ) → ev.each op' es c ≡ to itself (ev.each op es c)
        each_to no_expr h c = refl
        each_to (expr_then e es) h c = then_to itself itself _ _ _ _ (up e h.0 c) (λ t c. then_to itself itself _ _ _ _ (each_to es h.1 c) (λ ts c. refl))

        all_to : (es : ExprTrees) → ExprsFit defs kinds es n → (c : ℕ) → ev.all_true op' es c ≡ to itself (ev.all_true op es c)
        all_to no_expr h c = refl
        all_to (expr_then e es) h c = then_to itself itself _ _ _ _ (up e h.0 c) (λ t c. then_to itself itself _ _ _ _ (truth_free t c) (λ b c. if_to itself b _ _ _ _ c (all_to es h.1 c) refl))

        one_to : (a b : ExprTree) → ExprFits defs kinds a n → ExprFits defs kinds b n → (c : ℕ) → ev.one_true op' a b c ≡ to itself (ev.one_true op a b c)
        one_to a b h k c = then_to itself itself _ _ _ _ (up a h c) (λ t c. then_to itself itself _ _ _ _ (truth_free t c) (λ x c. if_to itself x _ _ _ _ c refl
            (then_to itself itself _ _ _ _ (then_to itself itself _ _ _ _ (up b k c) (λ u c. truth_free u c)) (λ y c. refl))))

        operated_to : (o : Operator) (a b : ExprTree) → ExprFits defs kinds a n → ExprFits defs kinds b n → (c : ℕ) → ev.operation_outcome op' o a b c ≡ to itself (ev.operation_outcome op o a b c)
        operated_to o a b h k c = then_to itself itself _ _ _ _ (up a h c) (λ t c. then_to itself itself _ _ _ _ (up b k c) (λ u c. operate_free o t u c))

        chosen_to : (b x y : ExprTree) → ExprFits defs kinds b n → ExprFits defs kinds x n → ExprFits defs kinds y n → (c : ℕ) → ev.chosen op' b x y c ≡ to itself (ev.chosen op b x y c)
        chosen_to b x y h k m c = then_to itself itself _ _ _ _ (up b h c) (λ t c. then_to itself itself _ _ _ _ (truth_free t c) (λ v c. if_to itself v _ _ _ _ c (up x k c) (up y m c)))

        element_to : (e i : ExprTree) → ExprFits defs kinds e n → ExprFits defs kinds i n → (c : ℕ) → ev.element_of op' e i c ≡ to itself (ev.element_of op e i c)
        element_to e i h k c = then_to itself itself _ _ _ _ (up e h c) (λ t c. then_to itself itself _ _ _ _ (up i k c) (λ u c. between_free t u c))

        module _ (pl pl' : ExprTree → Evaluation PlaceFound) (down : (e : ExprTree) → ExprFits defs kinds e n → (c : ℕ) → pl' e c ≡ to place_to (pl e c)) where
          place_is : (env : List BindingTree) (e : ExprTree) → ExprFits defs kinds e n → (c : ℕ) → ev.evaluated_place op' pl' (renamed_bindings ρ env) e c ≡ to place_to (ev.evaluated_place op pl env e c)
          place_is env (bound i) h c = ap (λ o. ev.bound_place o c) (slice_get-map (renamed_binding ρ) env i) ∙ bound_to (slice_get env i) c
          place_is env (global x) h c = λ i. reaches (at_path (record { var = record { number = sym (fixed x.number (variable_below kinds x.number x.lasting h)) i; lasting = x.lasting }; at = [] })) c
          place_is env (index e i) h c = then_to place_to place_to _ _ _ _ (down e h.0 c) (λ p c. then_to itself place_to _ _ _ _ (up i h.1 c) (λ t c. then_to itself place_to _ _ _ _ (index_free t c) (λ k c. farther_to p k c)))
          place_is env e h c = refl

          argument_to : (u : Bool) (e : ExprTree) → ExprFits defs kinds e n → (c : ℕ) → ev.argument op' pl' u e c ≡ to (renamed_binding ρ) (ev.argument op pl u e c)
          argument_to true e h c = then_to place_to (renamed_binding ρ) _ _ _ _ (down e h c) (λ p c. bind_to p c)
          argument_to false e h c = then_to itself (renamed_binding ρ) _ _ _ _ (up e h c) (λ t c. refl)

          arguments_to : (es : ExprTrees) (xs : List (List ℕ)) → ExprsFit defs kinds es n → (c : ℕ) → ev.arguments op' pl' es xs c ≡ to (renamed_bindings ρ) (ev.arguments op pl es xs c)
          arguments_to no_expr [] h c = refl
          arguments_to (expr_then e es) (x ∷ xs) h c = then_to (renamed_binding ρ) (renamed_bindings ρ) _ _ _ _ (argument_to (is_upper x) e h.0 c) (λ b c. then_to (renamed_bindings ρ) (renamed_bindings ρ) _ _ _ _ (arguments_to es xs h.1 c) (λ bs c. refl))
          arguments_to no_expr (x ∷ xs) h c = refl
          arguments_to (expr_then e es) [] h c = refl

          module _ (env : List BindingTree) where
            index_to : (b : Bool) (e i : ExprTree) → ExprFits defs kinds (index e i) n → (c : ℕ) → ev.indexed_value op' pl' gs (renamed_bindings ρ env) b e i c ≡ to itself (ev.indexed_value op pl fs env b e i c)
            index_to true e i h c = then_to place_to itself _ _ _ _ (place_is env (index e i) h c) value_at_to
            index_to false e i h c = element_to e i h.0 h.1 c

            size_to : (b : Bool) (e : ExprTree) → ExprFits defs kinds e n → (c : ℕ) → ev.size_of op' pl' gs (renamed_bindings ρ env) b e c ≡ to itself (ev.size_of op pl fs env b e c)
            size_to true e h c = then_to place_to itself _ _ _ _ (down e h c) size_at_to
            size_to false e h c = then_to itself itself _ _ _ _ (up e h c) (λ t c. length_free t c)

            module _ (body body' : ExprTree → List BindingTree → Evaluation Tree)
                (in_body : (e : ExprTree) (m : ℕ) → ExprFits defs kinds e m → (args : List BindingTree) (c : ℕ) → body' e (renamed_bindings ρ args) c ≡ to itself (body e args c)) where
              body_to : (f : Definition) (p : ℕ) → slice_get defs p ≡ Some f → (o : Option ExprTree) → f.expr ≡ o → (args : List BindingTree) (c : ℕ)
                  → ev.body_of op' pl' gs (renamed_bindings ρ env) defs body' o (renamed_bindings ρ args) c ≡ to itself (ev.body_of op pl fs env defs body o args c)
              body_to f p q (Some e) h args c = in_body e (length f.parameters) (fit.expr p f q e h) args c
              body_to f p q None h args c = refl

              call_to : (p : ℕ) (d : Option Definition) → slice_get defs p ≡ d → (es : ExprTrees) → ExprsFit defs kinds es n → (c : ℕ)
                  → ev.call op' pl' gs (renamed_bindings ρ env) defs body' d es c ≡ to itself (ev.call op pl fs env defs body d es c)
              call_to p (Some f) q es h c = then_to itself itself _ _ _ _ (count_free c) (λ m c. then_to (renamed_bindings ρ) itself _ _ _ _ (arguments_to es f.parameters h c) (λ args c. body_to f p q f.expr refl args c))
              call_to p None q es h c = refl

              row_to : (e : ExprTree) → ExprFits defs kinds e n → (c : ℕ) → ev.part_value op' pl' gs (renamed_bindings ρ env) defs body' e c ≡ to itself (ev.part_value op pl fs env defs body e c)
              row_to (numeral m) h c = value_free m c
              row_to (boolean b) h c = refl
              row_to (known t) h c = list_free t c
              row_to (bound i) h c = then_to place_to itself _ _ _ _ (place_is env (bound i) h c) value_at_to
              row_to (global x) h c = then_to place_to itself (ev.evaluated_place op pl env (global x) c) (ev.evaluated_place op' pl' (renamed_bindings ρ env) (global x) c) (ev.value_at fs) (ev.value_at gs) (place_is env (global x) h c) value_at_to
              row_to (listing es) h c = then_to itself itself _ _ _ _ (each_to es h c) (λ ts c. list_free (list (of_items ts)) c)
              row_to (size e) h c = size_to (is_place e) e h c
              row_to (index e i) h c = index_to (is_place e) e i h c
              row_to (minus e) h c = then_to itself itself _ _ _ _ (up e h c) (λ t c. negative_free t c)
              row_to (negation e) h c = then_to itself itself _ _ _ _ (up e h c) (λ t c. negated_free t c)
              row_to (both es) h c = all_to es h c
              row_to (either a b) h c = one_to a b h.0 h.1 c
              row_to (binary o a b) h c = operated_to o a b h.0 h.1 c
              row_to (choice b x y) h c = chosen_to b x y h.0 h.1 h.2 c
              row_to (invoke p es) h c = call_to p (slice_get defs p) refl es h.5 c

      pub evaluate_to : (d : ℕ) → ((e : ExprTree) (n : ℕ) → ExprFits defs kinds e n → (env : List BindingTree) (c : ℕ) → evaluate gs defs d e (renamed_bindings ρ env) c ≡ to itself (evaluate fs defs d e env c))
          × ((e : ExprTree) (n : ℕ) → ExprFits defs kinds e n → (env : List BindingTree) (c : ℕ) → find_place gs defs d e (renamed_bindings ρ env) c ≡ to place_to (find_place fs defs d e env c))
      evaluate_to zero = (λ e n h env c. refl, λ e n h env c. refl)
      evaluate_to (suc d) = let ih = evaluate_to d in (
        (λ e n h env c. row_to n _ _ (λ x k c. ih.0 x n k env c) _ _ (λ x k c. ih.1 x n k env c) env _ _ (λ x m k args c. ih.0 x m k args c) e h c),
        (λ e n h env c. place_is n _ _ (λ x k c. ih.0 x n k env c) _ _ (λ x k c. ih.1 x n k env c) env e h c),
      )

  found_to : (r r' : Reached Tree) → r' ≡ to itself r → outcome_reached r' ≡ renamed_found ρ (outcome_reached r)
  found_to (reaches x c) r' h = ap outcome_reached h
  found_to (stops (waits p)) r' h = ap outcome_reached h
  found_to (stops (faults k)) r' h = ap outcome_reached h
  found_to (stops (passes k)) r' h = ap outcome_reached h

  element_is : (o : Option Tree) (c : ℕ) → outcome_reached (element_in o c) ≡ renamed_found ρ (outcome_reached (element_in o c))
  element_is None c = refl
  element_is (Some t) c = refl

  place_found_to : (fs gs : List Fact) (r r' : Reached PlaceFound) → r' ≡ to place_to r → place_reached gs r' ≡ renamed_place_found ρ (place_reached fs r)
  place_found_to fs gs (reaches (at_path p) c) r' h = ap (place_reached gs) h
  place_found_to fs gs (reaches (inside t at) c) r' h = ap (place_reached gs) h ∙ ap found.other (element_is (item_at at t) c)
  place_found_to fs gs (stops (waits p)) r' h = ap (place_reached gs) h
  place_found_to fs gs (stops (faults k)) r' h = ap (place_reached gs) h
  place_found_to fs gs (stops (passes k)) r' h = ap (place_reached gs) h

pub outcomes_rename : OutcomesRename
unfolding outcome place_outcome
outcomes_rename ρ defs kinds fit fixed fs gs fc gc alike e env h =
    let ih = evaluate_to ρ fs gs fc gc alike defs kinds fit fixed depth_limit in
    (found_to ρ _ _ (ih.0 e (length env) h env 0), place_found_to ρ fs gs _ _ (ih.1 e (length env) h env 0))
