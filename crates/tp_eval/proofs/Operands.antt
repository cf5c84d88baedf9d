-- Each kind of expression reaches what it means, where its operands do.
use Rattle.std.proofs.Common.{◌≡◌, pos, negsuc, ℕ, suc, Bool, true, false, not, List, [], ◌∷◌, length, Option, Some, None, refl, ap, sym, ◌∙◌, slice_get, if◌then◌else◌}
use Rattle.std.specs.Prelude.{neg_ℤ, nat_lt}
use Rattle.tp_value.specs.Tree.{Tree, num, truth, list, of_items}
use Rattle.tp_value.specs.declared.path.Fact.{Fact}
use Rattle.tp_value.specs.Shape.{item_at}
use Rattle.tp_kernel.specs.declared.fault.LimitKind.TheVariants as limit
use Rattle.tp_meaning.specs.Syntax.{Operator, ExprTree, ExprTrees, numeral, boolean, known, bound, global, listing, size, index, minus, negation, both, either, binary, choice, invoke, no_expr, expr_then, Definition, BindingTree, known_binding}
use Rattle.tp_meaning.specs.Fits.{ExprFits, ExprsFit}
use Rattle.tp_meaning.specs.Course.{Course}
use Rattle.tp_meaning.specs.Bindings.{Locals, meaning_of}
use Rattle.tp_meaning.specs.Value as meaning
use Rattle.tp_meaning.specs.Value.{◌>>=◌, list_item, list_of, truth_of, number_of, Meaning, fixed, varying, meant, element, Env, Calls, value_by, values_by, all_by, place_by, arguments_by, is_upper}
use Rattle.tp_eval.specs.Reached.{Reached, reaches, stops, passes, Evaluation, with_reached, gives}
use Rattle.tp_eval.specs.Evaluate.{PlaceFound, is_place, call_limit, operate_outcome, truth_in, number_in, length_of, value_at, size_at, each, all_true, one_true, negated, negative, operation_outcome, chosen, evaluated_place, element_of, indexed_value, size_of, bind_place, argument, arguments, body_of, call, part_value}
use Rattle.tp_eval.proofs.Agree.{none_after, Agrees, same_meaning, then_agrees, beside_agrees, either_agrees}
use Rattle.tp_eval.proofs.Found.{sized, number_agrees, limited_agrees, truth_agrees, number_in_agrees, length_agrees, item_agrees, operate_agrees}
use Rattle.tp_eval.proofs.PlaceLemmas.{FactsAreRight, value_here, meanings_here, meaning_of_place, PlaceGives, some_again, regrouped, bound_agrees, global_agrees, index_agrees, bind_place_agrees, value_at_agrees, size_at_agrees}

module _ (facts : List Fact) (Agreeing : Type 0) (defs : List Definition) (kinds : List Bool) (s : Course) (locals : Locals) (a : ℕ)
    (right : FactsAreRight facts Agreeing (value_here facts Agreeing kinds s locals a)) where
  abbrev Gives : {A : Type 0} → Reached A → Option A → Type 0
  Gives = Agrees facts Agreeing Some

  abbrev PlaceMeans : Reached PlaceFound → Option Meaning → Type 0
  PlaceMeans = PlaceGives facts Agreeing kinds s locals a

  abbrev pub meant_binding : BindingTree → Option Meaning
  meant_binding b = Some (meaning_of (length kinds) s locals b)

  abbrev pub meant_env : List BindingTree → Env
  meant_env env = meanings_here facts Agreeing kinds s locals a env

  module _ (operand : ExprTree → Evaluation Tree) (place : ExprTree → Evaluation PlaceFound) (env : List BindingTree) (calls : Calls) (n : ℕ)
      (operands : (e : ExprTree) → (Agreeing → ExprFits defs kinds e n) → (c : ℕ) → Gives (operand e c) (value_by defs calls e (meant_env env) s a))
      (places : (e : ExprTree) → (Agreeing → ExprFits defs kinds e n) → (c : ℕ) → PlaceMeans (place e c) (place_by defs calls e (meant_env env) s a)) where
    abbrev value_here_by : ExprTree → Option Tree
    value_here_by e = value_by defs calls e (meant_env env) s a

    abbrev place_here_by : ExprTree → Option Meaning
    place_here_by e = place_by defs calls e (meant_env env) s a

    after : {B D : Type 0} (e : ExprTree) → (Agreeing → ExprFits defs kinds e n) → (c : ℕ) (f : Tree → Evaluation B) (g : Tree → Option D) (meant' : B → Option D)
        → ((t : Tree) (c' : ℕ) → Agrees facts Agreeing meant' (f t c') (g t)) → Agrees facts Agreeing meant' (with_reached (operand e c) f) (value_here_by e >>= g)
    after e h c f g meant' k = then_agrees facts Agreeing Some meant' (operand e c) (value_here_by e) f g (operands e h c) k

    each_agrees : (es : ExprTrees) → (Agreeing → ExprsFit defs kinds es n) → (c : ℕ) → Gives (each operand es c) (values_by defs calls es (meant_env env) s a)
    each_agrees no_expr h c = λ w. refl
    each_agrees (expr_then e es) h c = after e (λ w. (h w).0) c _ (λ t. values_by defs calls es (meant_env env) s a >>= λ ts. Some (t ∷ ts)) Some
        (λ t c'. then_agrees facts Agreeing Some Some (each operand es c') (values_by defs calls es (meant_env env) s a) (λ ts. gives (t ∷ ts)) (λ ts. Some (t ∷ ts)) (each_agrees es (λ w. (h w).1) c') (λ ts c'' w. refl))

    -- a truth value is needed
    on_truth : {B D : Type 0} (t : Tree) (c : ℕ) (f : Bool → Evaluation B) (g : Bool → Option D) (meant' : B → Option D)
        → ((b : Bool) (c' : ℕ) → Agrees facts Agreeing meant' (f b c') (g b)) → Agrees facts Agreeing meant' (with_reached (truth_in t c) f) (truth_of t >>= g)
    on_truth t c f g meant' k = then_agrees facts Agreeing Some meant' (truth_in t c) (truth_of t) f g (truth_agrees facts Agreeing t c) k

    all_agrees : (es : ExprTrees) → (Agreeing → ExprsFit defs kinds es n) → (c : ℕ) → Gives (all_true operand es c) (all_by defs calls es (meant_env env) s a)
    all_agrees no_expr h c = λ w. refl
    all_agrees (expr_then e es) h c = after e (λ w. (h w).0) c _ (λ t. truth_of t >>= λ b. if b then all_by defs calls es (meant_env env) s a else Some (truth false)) Some
        (λ t c'. on_truth t c' (λ b. if b then all_true operand es else gives (truth false)) (λ b. if b then all_by defs calls es (meant_env env) s a else Some (truth false)) Some
        (λ b c''. either_agrees facts Agreeing Some b (all_true operand es) (gives (truth false)) (all_by defs calls es (meant_env env) s a) (Some (truth false)) c'' (all_agrees es (λ w. (h w).1) c'') (λ w. refl)))

    one_agrees : (x y : ExprTree) → (Agreeing → ExprFits defs kinds x n) → (Agreeing → ExprFits defs kinds y n) → (c : ℕ) → Gives (one_true operand x y c) (value_here_by (either x y))
    one_agrees x y h k c = after x h c _ (λ t. truth_of t >>= λ b. if b then Some (truth true) else (value_here_by y >>= truth_of >>= λ q. Some (truth q))) Some
        (λ t c'. on_truth t c' _ (λ b. if b then Some (truth true) else (value_here_by y >>= truth_of >>= λ q. Some (truth q))) Some
        (λ b c''. either_agrees facts Agreeing Some b (gives (truth true)) _ (Some (truth true)) (value_here_by y >>= truth_of >>= λ q. Some (truth q)) c'' (λ w. refl)
        (then_agrees facts Agreeing Some Some (with_reached (operand y c'') truth_in) (value_here_by y >>= truth_of) (λ q. gives (truth q)) (λ q. Some (truth q))
        (after y k c'' truth_in truth_of Some (λ u c0. truth_agrees facts Agreeing u c0)) (λ q c0 w. refl))))

    negated_agrees : (e : ExprTree) → (Agreeing → ExprFits defs kinds e n) → (c : ℕ) → Gives (negated operand e c) (value_here_by (negation e))
    negated_agrees e h c = after e h c _ (λ t. truth_of t >>= λ b. Some (truth (not b))) Some (λ t c'. on_truth t c' (λ b. gives (truth (not b))) (λ b. Some (truth (not b))) Some (λ b c'' w. refl))

    negative_agrees : (e : ExprTree) → (Agreeing → ExprFits defs kinds e n) → (c : ℕ) → Gives (negative operand e c) (value_here_by (minus e))
    negative_agrees e h c = after e h c _ (λ t. number_of t >>= λ k. Some (num (neg_ℤ k))) Some
        (λ t c'. then_agrees facts Agreeing Some Some (number_in t c') (number_of t) _ (λ k. Some (num (neg_ℤ k))) (number_in_agrees facts Agreeing t c') (λ k c''. number_agrees facts Agreeing (neg_ℤ k) c''))

    operated_agrees : (o : Operator) (x y : ExprTree) → (Agreeing → ExprFits defs kinds x n) → (Agreeing → ExprFits defs kinds y n) → (c : ℕ) → Gives (operation_outcome operand o x y c) (value_here_by (binary o x y))
    operated_agrees o x y h k c = after x h c _ (λ t. value_here_by y >>= λ u. meaning.operate o t u) Some
        (λ t c'. after y k c' (operate_outcome o t) (meaning.operate o t) Some (λ u c''. operate_agrees facts Agreeing o t u c''))

    chosen_agrees : (b x y : ExprTree) → (Agreeing → ExprFits defs kinds b n) → (Agreeing → ExprFits defs kinds x n) → (Agreeing → ExprFits defs kinds y n) → (c : ℕ) → Gives (chosen operand b x y c) (value_here_by (choice b x y))
    chosen_agrees b x y h k l c = after b h c _ (λ t. truth_of t >>= λ q. if q then value_here_by x else value_here_by y) Some
        (λ t c'. on_truth t c' (λ q. if q then operand x else operand y) (λ q. if q then value_here_by x else value_here_by y) Some
        (λ q c''. either_agrees facts Agreeing Some q (operand x) (operand y) (value_here_by x) (value_here_by y) c'' (operands x k c'') (operands y l c'')))

    element_of_agrees : (x i : ExprTree) → (Agreeing → ExprFits defs kinds x n) → (Agreeing → ExprFits defs kinds i n) → (c : ℕ) → Gives (element_of operand x i c) (value_here_by (index x i))
    element_of_agrees x i h k c = after x h c _ (λ t. value_here_by i >>= list_item t) Some
        (λ t c'. after i k c' _ (list_item t) Some (λ u c''. item_agrees facts Agreeing t u c''))

    pub place_agrees : (e : ExprTree) → (Agreeing → ExprFits defs kinds e n) → (c : ℕ) → PlaceMeans (evaluated_place operand place env e c) (place_here_by e)
    place_agrees (bound i) h c = bound_agrees facts Agreeing kinds s locals a env i c
    place_agrees (global x) h c = global_agrees facts Agreeing kinds s locals a x c h
    place_agrees (index e i) h c = then_agrees facts Agreeing (meaning_of_place facts Agreeing kinds s locals a) (meaning_of_place facts Agreeing kinds s locals a) (place e c) (place_here_by e) _
        (λ m. value_here_by i >>= element m) (places e (λ w. (h w).0) c)
        (λ p c'. beside_agrees facts Agreeing Some (meaning_of_place facts Agreeing kinds s locals a) (operand i c') (value_here_by i) _ (meaning_of_place facts Agreeing kinds s locals a p) element (operands i (λ w. (h w).1) c')
        (λ u c''. index_agrees facts Agreeing kinds s locals a p u c''))
    place_agrees e h c = λ w. refl

    -- the value of a place is what it means at the position
    fixed_item : (o : Option Tree) → o ≡ ((o >>= λ u. Some (fixed u)) >>= meant a)
    fixed_item None = refl
    fixed_item (Some u) = refl

    varying_item : (f : ℕ → Option Tree) (u : Tree) → (f a >>= λ t. list_item t u) ≡ (element (varying f) u >>= meant a)
    varying_item f (num (pos k)) = one_index (f a)
      where
        one_index : (o : Option Tree) → (o >>= λ t. list_item t (num (pos k))) ≡ (o >>= item_at (k ∷ []))
        one_index None = refl
        one_index (Some t) = some_again (list_item t (num (pos k)))
    varying_item f (num (negsuc k)) = none_after facts Agreeing (λ t. list_item t (num (negsuc k))) (λ t. refl) (f a)
    varying_item f (truth b) = none_after facts Agreeing (λ t. list_item t (truth b)) (λ t. refl) (f a)
    varying_item f (list ts) = none_after facts Agreeing (λ t. list_item t (list ts)) (λ t. refl) (f a)

    element_value : (m : Meaning) (u : Tree) → (meant a m >>= λ t. list_item t u) ≡ (element m u >>= meant a)
    element_value (fixed t) u = fixed_item (list_item t u)
    element_value (varying f) u = varying_item f u

    index_value : (o : Option Meaning) (k : Option Tree) → ((o >>= meant a) >>= λ t. k >>= list_item t) ≡ ((o >>= λ m. k >>= element m) >>= meant a)
    index_value None k = refl
    index_value (Some m) None = none_after facts Agreeing (λ t. None >>= list_item t) (λ t. refl) (meant a m)
    index_value (Some m) (Some u) = element_value m u

    pub place_value : (e : ExprTree) → is_place e ≡ true → value_here_by e ≡ (place_here_by e >>= meant a)
    place_value (bound i) h = refl
    place_value (global x) h = refl
    place_value (index e i) h = ap (λ o. o >>= λ t. value_here_by i >>= list_item t) (place_value e h) ∙ index_value (place_here_by e) (value_here_by i)
    place_value e h = absurd (cc)

    size_agrees : (b : Bool) (e : ExprTree) → is_place e ≡ b → (Agreeing → ExprFits defs kinds e n) → (c : ℕ) → Gives (size_of operand place facts env b e c) (value_here_by (size e))
    size_agrees false e q h c = after e h c length_of sized Some (λ t c'. length_agrees facts Agreeing t c')
    size_agrees true e q h c = same_meaning facts Agreeing Some _ _ (place_here_by e >>= λ m. meant a m >>= sized)
        (λ w. ap (λ o. o >>= sized) (place_value e q) ∙ regrouped (place_here_by e) (meant a) sized)
        (then_agrees facts Agreeing (meaning_of_place facts Agreeing kinds s locals a) Some (place e c) (place_here_by e) (size_at facts) (λ m. meant a m >>= sized) (places e h c)
        (λ p c'. same_meaning facts Agreeing Some (size_at facts p c') _ _ (λ w. sym (regrouped (meaning_of_place facts Agreeing kinds s locals a p) (meant a) sized)) (size_at_agrees facts Agreeing kinds s locals a right p c')))

    -- a place that is read
    read_agrees : (e : ExprTree) → is_place e ≡ true → (Agreeing → ExprFits defs kinds e n) → (c : ℕ) → Gives (with_reached (evaluated_place operand place env e c) (value_at facts)) (value_here_by e)
    read_agrees e q h c = same_meaning facts Agreeing Some _ _ (place_here_by e >>= meant a) (λ w. place_value e q)
        (then_agrees facts Agreeing (meaning_of_place facts Agreeing kinds s locals a) Some (evaluated_place operand place env e c) (place_here_by e) (value_at facts) (meant a) (place_agrees e h c)
        (λ p c'. value_at_agrees facts Agreeing kinds s locals a right p c'))

    index_of_agrees : (b : Bool) (e i : ExprTree) → is_place e ≡ b → (Agreeing → ExprFits defs kinds (index e i) n) → (c : ℕ) → Gives (indexed_value operand place facts env b e i c) (value_here_by (index e i))
    index_of_agrees true e i q h c = read_agrees (index e i) q h c
    index_of_agrees false e i q h c = element_of_agrees e i (λ w. (h w).0) (λ w. (h w).1) c

    argument_agrees : (b : Bool) (e : ExprTree) → (Agreeing → ExprFits defs kinds e n) → (c : ℕ) → Agrees facts Agreeing meant_binding (argument operand place b e c) (if b then place_here_by e else (value_here_by e >>= λ t. Some (fixed t)))
    argument_agrees false e h c = after e h c (λ t. gives (known_binding t)) (λ t. Some (fixed t)) meant_binding (λ t c' w. refl)
    argument_agrees true e h c = same_meaning facts Agreeing meant_binding _ _ (place_here_by e >>= Some) (λ w. some_again (place_here_by e))
        (then_agrees facts Agreeing (meaning_of_place facts Agreeing kinds s locals a) meant_binding (place e c) (place_here_by e) bind_place Some (places e h c)
        (λ p c'. bind_place_agrees facts Agreeing kinds s locals a p c'))

    arguments_agree : (es : ExprTrees) (xs : List (List ℕ)) → (Agreeing → ExprsFit defs kinds es n) → (c : ℕ)
        → Agrees facts Agreeing (λ bs. Some (meant_env bs)) (arguments operand place es xs c) (arguments_by defs calls es xs (meant_env env) s a)
    arguments_agree no_expr [] h c = λ w. refl
    arguments_agree no_expr (x ∷ xs) h c = λ w. refl
    arguments_agree (expr_then e es) [] h c = λ w. refl
    arguments_agree (expr_then e es) (x ∷ xs) h c = then_agrees facts Agreeing meant_binding (λ bs. Some (meant_env bs)) (argument operand place (is_upper x) e c) _ _
        (λ m. arguments_by defs calls es xs (meant_env env) s a >>= λ ms. Some (m ∷ ms)) (argument_agrees (is_upper x) e (λ w. (h w).0) c)
        (λ b c'. then_agrees facts Agreeing (λ bs. Some (meant_env bs)) (λ bs. Some (meant_env bs)) (arguments operand place es xs c') (arguments_by defs calls es xs (meant_env env) s a)
        (λ bs. gives (b ∷ bs)) (λ ms. Some (meaning_of (length kinds) s locals b ∷ ms)) (arguments_agree es xs (λ w. (h w).1) c') (λ bs c'' w. refl))

    module _ (body : ExprTree → List BindingTree → Evaluation Tree)
        (bodies : (p : ℕ) (f : Definition) (e : ExprTree) → slice_get defs p ≡ Some f → f.expr ≡ Some e → (args : List BindingTree) (c : ℕ) → Gives (body e args c) (calls p (meant_env args) s a)) where
      body_agrees : (p : ℕ) (f : Definition) (o : Option ExprTree) → f.expr ≡ o → (Agreeing → (e : ExprTree) × (f.expr ≡ Some e)) → slice_get defs p ≡ Some f → (args : List BindingTree) (c : ℕ)
          → Gives (body_of operand place facts env defs body o args c) (calls p (meant_env args) s a)
      body_agrees p f None q h g args c = λ w. let is : None ≡ Some (h w).0 = sym q ∙ (h w).1 in absurd (cc)
      body_agrees p f (Some x) q h g args c = bodies p f x g q args c

      counted_agrees : (p : ℕ) (f : Definition) → slice_get defs p ≡ Some f → (Agreeing → (e : ExprTree) × (f.expr ≡ Some e)) → (es : ExprTrees) → (Agreeing → ExprsFit defs kinds es n) → (b : Bool) (c : ℕ)
          → Gives (with_reached ((λ (d : ℕ). if b then reaches d (suc d) else stops (passes limit.Calls)) c) (λ (k : ℕ) (c' : ℕ). with_reached (arguments operand place es f.parameters c') (body_of operand place facts env defs body f.expr)))
          (arguments_by defs calls es f.parameters (meant_env env) s a >>= λ args. calls p args s a)
      counted_agrees p f g q es h false c = tt
      counted_agrees p f g q es h true c = then_agrees facts Agreeing (λ bs. Some (meant_env bs)) Some (arguments operand place es f.parameters (suc c)) _ _ (λ args. calls p args s a)
          (arguments_agree es f.parameters h (suc c)) (λ bs c'. body_agrees p f f.expr refl q g bs c')

      call_agrees : (p : ℕ) (o : Option Definition) → slice_get defs p ≡ o → (Agreeing → (f : Definition) × (e : ExprTree) × (slice_get defs p ≡ Some f) × (f.expr ≡ Some e)) → (es : ExprTrees) → (Agreeing → ExprsFit defs kinds es n) → (c : ℕ)
          → Gives (call operand place facts env defs body o es c) (o >>= λ g. arguments_by defs calls es g.parameters (meant_env env) s a >>= λ args. calls p args s a)
      call_agrees p None k g es h c = λ w. refl
      call_agrees p (Some x) k g es h c =
          let has : Agreeing → (e : ExprTree) × (x.expr ≡ Some e) = λ w. let q : Some x ≡ Some (g w).0 = sym k ∙ (g w).2 in let same : x ≡ (g w).0 = cc in ((g w).1, ap (λ (y : Definition). y.expr) same ∙ (g w).3) in
          counted_agrees p x k has es h (nat_lt c call_limit) c

      pub value_agrees : (e : ExprTree) → (Agreeing → ExprFits defs kinds e n) → (c : ℕ) → Gives (part_value operand place facts env defs body e c) (value_here_by e)
      value_agrees (numeral k) h c = number_agrees facts Agreeing k c
      value_agrees (boolean b) h c = λ w. refl
      value_agrees (known t) h c = limited_agrees facts Agreeing t c
      value_agrees (bound i) h c = read_agrees (bound i) refl h c
      value_agrees (global x) h c = read_agrees (global x) refl h c
      value_agrees (listing es) h c = then_agrees facts Agreeing Some Some (each operand es c) _ _ (λ ts. Some (list (of_items ts))) (each_agrees es h c) (λ ts c'. limited_agrees facts Agreeing (list (of_items ts)) c')
      value_agrees (size e) h c = size_agrees (is_place e) e refl h c
      value_agrees (index e i) h c = index_of_agrees (is_place e) e i refl h c
      value_agrees (minus e) h c = negative_agrees e h c
      value_agrees (negation e) h c = negated_agrees e h c
      value_agrees (both es) h c = all_agrees es h c
      value_agrees (either x y) h c = one_agrees x y (λ w. (h w).0) (λ w. (h w).1) c
      value_agrees (binary o x y) h c = operated_agrees o x y (λ w. (h w).0) (λ w. (h w).1) c
      value_agrees (choice b x y) h c = chosen_agrees b x y (λ w. (h w).0) (λ w. (h w).1) (λ w. (h w).2) c
      value_agrees (invoke p es) h c = call_agrees p (slice_get defs p) refl (λ w. ((h w).0, (h w).1, (h w).2, (h w).3)) es (λ w. (h w).5) c
