-- A formula that fits reads the states' own numbers and its variables alone.
use Rattle.std.proofs.Common.{◌≡◌, pos, ℕ, zero, suc, Bool, true, false, not, List, [], ◌∷◌, length, Option, Some, None, refl, ap, sym, ◌∙◌, arith, inl, inr, slice_get, if◌then◌else◌, cond, eqb, ◌-◌}
use Rattle.std.specs.Prelude.{neg_ℤ}
use Rattle.std.proofs.lemmas.Option.{slice_get_within}
use Rattle.std.proofs.lemmas.Bool.{cond_both, cond-true, eqb-true, eq-eqb}
use Rattle.tp_value.specs.Tree.{Tree, num, truth, list, of_items}
use Rattle.tp_value.specs.declared.path.VarId.{VarId}
use Rattle.tp_meaning.specs.Syntax.{ExprTree, ExprTrees, numeral, boolean, known, bound, global, listing, size, index, minus, negation, both, either, binary, choice, invoke, no_expr, expr_then, Definition, FormulaTree, trivial, test, equation, next_equation, empty, more, next, weak_next, if_more, if_empty, always, conjunction, branch, len, assign, chop, while, for_from, forall_from, project, exists, call, input, display, FormulaTrees, no_formula, formula_then}
use Rattle.tp_meaning.specs.Course.{State, Course, Shows}
use Rattle.tp_meaning.specs.Inputs.{input_at}
use Rattle.tp_meaning.specs.Value.{◌>>=◌, fixed, varying, Env, Calls, element, list_item, number_of, list_of, truth_of, operate, is_upper, value_by, values_by, all_by, place_by, arguments_by, calls_at}
use Rattle.tp_meaning.specs.Holds.{Context, CallMeanings, Has, HoldsBy, AllHoldBy, CallHolds, Holds}
use Rattle.tp_meaning.specs.Fits.{IsVariable, ExprFits, ExprsFit, FormulaFits, FormulasFit, DefinitionsFit}
use Rattle.tp_meaning.specs.Reading.{ReadTheSame, MeaningsReadVariables}
use Rattle.tp_meaning.proofs.DeeperHolds.{pieces_map, together_map}
use Rattle.tp_meaning.proofs.MovePart.{meanings_read_their_part}
use Rattle.tp_meaning.proofs.ByCuts.{env_self}

module _ (n : ℕ) where
  abbrev pub Same : Course → Course → Type 0
  Same s t = (j : ℕ) → ReadTheSame n (s j) (t j)

module _ (defs : List Definition) (kinds : List Bool) (calls : Calls)
    (same_calls : (s t : Course) → Same (length kinds) s t → (p : ℕ) (args : Env) (j : ℕ) → calls p args s j ≡ calls p args t j)
    (s t : Course) (same : Same (length kinds) s t) (n : ℕ) where
  variable_same : (x : VarId) → IsVariable kinds x → (j : ℕ) → (s j).values x.number ≡ (t j).values x.number
  variable_same x h j = (same j).values x.number (slice_get_within kinds x.number x.lasting h)

  mutual
    pub value_same : (e : ExprTree) → ExprFits defs kinds e n → (x : Env) (j : ℕ) → value_by defs calls e x s j ≡ value_by defs calls e x t j
    value_same (numeral z) h x j = refl
    value_same (boolean q) h x j = refl
    value_same (known r) h x j = refl
    value_same (bound k) h x j = refl
    value_same (global v) h x j = λ i. Some (variable_same v h j i)
    value_same (listing es) h x j = λ i. values_same es h x j i >>= λ ts. Some (list (of_items ts))
    value_same (size e) h x j = λ i. value_same e h x j i >>= λ r. list_of r >>= λ ts. Some (num (pos (length ts)))
    value_same (index e k) h x j = λ i. value_same e h.0 x j i >>= λ r. value_same k h.1 x j i >>= λ z. list_item r z
    value_same (minus e) h x j = λ i. value_same e h x j i >>= λ r. number_of r >>= λ z. Some (num (neg_ℤ z))
    value_same (negation e) h x j = λ i. value_same e h x j i >>= λ r. truth_of r >>= λ q. Some (truth (not q))
    value_same (both es) h x j = all_same es h x j
    value_same (either e k) h x j = λ i. value_same e h.0 x j i >>= λ r. truth_of r >>= λ q. if q then Some (truth true) else (value_same k h.1 x j i >>= truth_of >>= λ z. Some (truth z))
    value_same (binary o e k) h x j = λ i. value_same e h.0 x j i >>= λ r. value_same k h.1 x j i >>= λ z. operate o r z
    value_same (choice e k l) h x j = λ i. value_same e h.0 x j i >>= λ r. truth_of r >>= λ q. if q then value_same k h.1 x j i else value_same l h.2 x j i
    value_same (invoke p es) h x j = λ i. slice_get defs p >>= λ g. arguments_same es h.5 g.parameters x j i >>= λ args. same_calls s t same p args j i

    pub values_same : (es : ExprTrees) → ExprsFit defs kinds es n → (x : Env) (j : ℕ) → values_by defs calls es x s j ≡ values_by defs calls es x t j
    values_same no_expr h x j = refl
    values_same (expr_then e es) h x j = λ i. value_same e h.0 x j i >>= λ r. values_same es h.1 x j i >>= λ rs. Some (r ∷ rs)

    all_same : (es : ExprTrees) → ExprsFit defs kinds es n → (x : Env) (j : ℕ) → all_by defs calls es x s j ≡ all_by defs calls es x t j
    all_same no_expr h x j = refl
    all_same (expr_then e es) h x j = λ i. value_same e h.0 x j i >>= λ r. truth_of r >>= λ q. if q then all_same es h.1 x j i else Some (truth false)

    place_same : (e : ExprTree) → ExprFits defs kinds e n → (x : Env) (j : ℕ) → place_by defs calls e x s j ≡ place_by defs calls e x t j
    place_same (bound k) h x j = refl
    place_same (global v) h x j = λ i. Some (varying (λ k. Some (variable_same v h k i)))
    place_same (index e k) h x j = λ i. place_same e h.0 x j i >>= λ m. value_same k h.1 x j i >>= λ z. element m z
    place_same (numeral z) h x j = refl
    place_same (boolean q) h x j = refl
    place_same (known r) h x j = refl
    place_same (listing es) h x j = refl
    place_same (size e) h x j = refl
    place_same (minus e) h x j = refl
    place_same (negation e) h x j = refl
    place_same (both es) h x j = refl
    place_same (either e k) h x j = refl
    place_same (binary o e k) h x j = refl
    place_same (choice e k l) h x j = refl
    place_same (invoke p es) h x j = refl

    pub arguments_same : (es : ExprTrees) → ExprsFit defs kinds es n → (names : List (List ℕ)) (x : Env) (j : ℕ) → arguments_by defs calls es names x s j ≡ arguments_by defs calls es names x t j
    arguments_same no_expr h [] x j = refl
    arguments_same no_expr h (v ∷ vs) x j = refl
    arguments_same (expr_then e es) h [] x j = refl
    arguments_same (expr_then e es) h (v ∷ vs) x j = λ i.
        (if is_upper v then place_same e h.0 x j i else (value_same e h.0 x j i >>= λ r. Some (fixed r))) >>= λ m. arguments_same es h.1 vs x j i >>= λ ms. Some (m ∷ ms)

module _ (defs : List Definition) (kinds : List Bool) (fit : DefinitionsFit defs kinds) (calls : Calls)
    (same_calls : (s t : Course) → Same (length kinds) s t → (p : ℕ) (args : Env) (j : ℕ) → calls p args s j ≡ calls p args t j)
    (s t : Course) (same : Same (length kinds) s t) (p : ℕ) (args : Env) (j : ℕ) where
  told_same : (f : Definition) → slice_get defs p ≡ Some f → (o : Option ExprTree) → f.expr ≡ o →
      (o >>= λ e. value_by defs calls e args s j) ≡ (o >>= λ e. value_by defs calls e args t j)
  told_same f is None h = refl
  told_same f is (Some e) h = value_same defs kinds calls same_calls s t same (length f.parameters) e (fit.expr p f is e h) args j

  found_same : (o : Option Definition) → slice_get defs p ≡ o →
      (o >>= λ f. f.expr >>= λ e. value_by defs calls e args s j) ≡ (o >>= λ f. f.expr >>= λ e. value_by defs calls e args t j)
  found_same None is = refl
  found_same (Some f) is = told_same f is f.expr refl

calls_same : (defs : List Definition) (kinds : List Bool) → DefinitionsFit defs kinds → (d : ℕ) (s t : Course) → Same (length kinds) s t → (p : ℕ) (args : Env) (j : ℕ) → calls_at defs d p args s j ≡ calls_at defs d p args t j
calls_same defs kinds fit zero s t same p args j = refl
calls_same defs kinds fit (suc d) s t same p args j = found_same defs kinds fit (calls_at defs d) (calls_same defs kinds fit d) s t same p args j (slice_get defs p) refl

module _ (w : Context) (kinds : List Bool) (calls : Calls) (meanings : CallMeanings)
    (same_calls : (s t : Course) → Same (length kinds) s t → (p : ℕ) (args : Env) (j : ℕ) → calls p args s j ≡ calls p args t j)
    (same_meanings : (s t : Course) → Same (length kinds) s t → (p : ℕ) (args : Env) (a b : ℕ) (S : Shows) → meanings p args s a b S → meanings p args t a b S) where
  has_same : (e : ExprTree) (n : ℕ) → ExprFits w.defs kinds e n → (x : Env) (s t : Course) → Same (length kinds) s t → (j : ℕ) (v : Tree) → Has w calls meanings e x s j v → Has w calls meanings e x t j v
  has_same e n h x s t same j v q = sym (value_same w.defs kinds calls same_calls s t same n e h x j) ∙ q

  bound_same : (p : ℕ) (es : ExprTrees) (n : ℕ) → ExprsFit w.defs kinds es n → (x : Env) (s t : Course) → Same (length kinds) s t → (j : ℕ)
      → (slice_get w.defs p >>= λ g. arguments_by w.defs calls es g.parameters x s j) ≡ (slice_get w.defs p >>= λ g. arguments_by w.defs calls es g.parameters x t j)
  bound_same p es n h x s t same j = λ i. slice_get w.defs p >>= λ g. arguments_same w.defs kinds calls same_calls s t same n es h g.parameters x j i

  mutual
    formula_same : (g : FormulaTree) (n : ℕ) → FormulaFits w.defs kinds g n → (x : Env) (s t : Course) → Same (length kinds) s t → (a b : ℕ) (S : Shows) → HoldsBy w calls meanings g x s a b S → HoldsBy w calls meanings g x t a b S
    formula_same trivial n h x s t same a b S z = z
    formula_same (test e) n h x s t same a b S z = (has_same e n h x s t same a _ z.0, z.1)
    formula_same (equation l r) n h x s t same a b S z = (z.0, has_same l n h.0 x s t same a _ z.1, has_same r n h.1 x s t same a _ z.2, z.3)
    formula_same (next_equation k l r) n h x s t same a b S z = (z.0, z.1, has_same l n h.0 x s t same _ _ z.2, has_same r n h.1 x s t same a _ z.3, z.4)
    formula_same empty n h x s t same a b S z = z
    formula_same more n h x s t same a b S z = z
    formula_same (next g) n h x s t same a b S z = (z.0, formula_same g n h x s t same _ b S z.1)
    formula_same (weak_next g) n h x s t same a b S z = elim z [ inl q ↦ inl q | inr q ↦ inr (q.0, formula_same g n h x s t same _ b S q.1) ]
    formula_same (if_more g) n h x s t same a b S z = elim z [ inl q ↦ inl q | inr q ↦ inr (q.0, formula_same g n h x s t same a b S q.1) ]
    formula_same (if_empty g) n h x s t same a b S z = elim z [ inl q ↦ inl q | inr q ↦ inr (q.0, formula_same g n h x s t same a b S q.1) ]
    formula_same (always g) n h x s t same a b S z = (z.0, z.1, z.2, (λ i u v. formula_same g n h x s t same i b _ (z.3 i u v)), z.4)
    formula_same (conjunction gs) n h x s t same a b S z = formulas_same gs n h x s t same a b S z
    formula_same (branch e g k) n h x s t same a b S z = elim z [
      | inl q ↦ inl (has_same e n h.0 x s t same a _ q.0, formula_same g n h.1 x s t same a b S q.1)
      | inr q ↦ inr (has_same e n h.0 x s t same a _ q.0, formula_same k n h.2 x s t same a b S q.1)
    ]
    formula_same (len e) n h x s t same a b S z = (z.0, has_same e n h x s t same a _ z.1, z.2, z.3)
    formula_same (assign l r) n h x s t same a b S z = (z.0, has_same l n h.0 x s t same b _ z.1, has_same r n h.1 x s t same a _ z.2, z.3)
    formula_same (chop g k) n h x s t same a b S z = (z.0, z.1, z.2, z.3, z.4, formula_same g n h.0 x s t same _ _ _ z.5, formula_same k n h.1 x s t same _ _ _ z.6, z.7)
    formula_same (while e g) n h x s t same a b S z = (z.0, pieces_map _ _ (λ k i j T q. (q.0, has_same e n h.0 x s t same i _ q.1, formula_same g n h.1 x s t same i j T q.2)) z.0 _ a b S z.1, has_same e n h.0 x s t same b _ z.2)
    formula_same (for_from name k e g) n h x s t same a b S z = (z.0, has_same e n h.0 x s t same a _ z.1, pieces_map _ _ (λ v i j T q. formula_same g (suc n) h.1 _ s t same i j T q) _ k a b S z.2)
    formula_same (forall_from name k e g) n h x s t same a b S z = (z.0, has_same e n h.0 x s t same a _ z.1, together_map _ _ (λ v i j T q. formula_same g (suc n) h.1 _ s t same i j T q) _ k a b S z.2)
    formula_same (project g k) n h x s t same a b S z =
        (z.0, z.1, z.2, z.3, z.4, z.5, z.6, (λ j v. formula_same g n h.0 x s t same _ _ _ (z.7 j v)), formula_same k n h.1 _ (λ j. s (z.0 j)) (λ j. t (z.0 j)) (λ j. same (z.0 j)) _ _ z.2 z.8, z.9)
    formula_same (exists name lasting g) n h x s t same a b S z = (z.0, z.1, formula_same g (suc n) h _ s t same a b S z.2)
    formula_same (call p es) n h x s t same a b S z =
        (z.0, sym (bound_same p es n h.3 x s t same a) ∙ z.1, same_meanings s t same p z.0 a b S z.2)
    formula_same (input e port) n h x s t same a b S z = (z.0, ap (λ o. input_at w.inputs o port) (sym (same a).own) ∙ z.1, has_same e n h x s t same a _ z.2, z.3)
    formula_same (display es) n h x s t same a b S z = (z.0, sym (values_same w.defs kinds calls same_calls s t same n es h x a) ∙ z.1, z.2)

    formulas_same : (gs : FormulaTrees) (n : ℕ) → FormulasFit w.defs kinds gs n → (x : Env) (s t : Course) → Same (length kinds) s t → (a b : ℕ) (S : Shows) → AllHoldBy w calls meanings gs x s a b S → AllHoldBy w calls meanings gs x t a b S
    formulas_same no_formula n h x s t same a b S z = z
    formulas_same (formula_then g gs) n h x s t same a b S z = (z.0, z.1, formula_same g n h.0 x s t same a b z.0 z.2, formulas_same gs n h.1 x s t same a b z.1 z.3, z.4)

module _ (w : Context) (kinds : List Bool) (fit : DefinitionsFit w.defs kinds) where
  meanings_same : (d : ℕ) (s t : Course) → Same (length kinds) s t → (p : ℕ) (args : Env) (a b : ℕ) (S : Shows) → CallHolds w d p args s a b S → CallHolds w d p args t a b S
  meanings_same zero s t same p args a b S z = elim z [ ]
  meanings_same (suc d) s t same p args a b S z =
      (z.0, z.1, formula_same w kinds (calls_at w.defs d) (CallHolds w d) (calls_same w.defs kinds fit d) (meanings_same d) z.0.formula (length z.0.parameters) (fit.formula p z.0 z.1) args s t same a b S z.2)

  holds_same : (d : ℕ) (g : FormulaTree) (n : ℕ) → FormulaFits w.defs kinds g n → (x : Env) (s t : Course) → Same (length kinds) s t → (a b : ℕ) (S : Shows) → Holds w d g x s a b S → Holds w d g x t a b S
  holds_same d g n h x s t same a b S z = formula_same w kinds (calls_at w.defs d) (CallHolds w d) (calls_same w.defs kinds fit d) (meanings_same d) g n h x s t same a b S z

-- the number and the first n variables as in one state, and the others as in another
abbrev mixed : ℕ → State → State → State
mixed n x y = record { own = x.own; values = λ v. cond (eqb (suc v - n) 0) (x.values v) (y.values v) }

state_is : (x y : State) → x.own ≡ y.own → ((v : ℕ) → x.values v ≡ y.values v) → x ≡ y
state_is x y p q = λ i. record { own = p i; values = λ v. q v i }

mixed_is : (n : ℕ) (x y : State) → ReadTheSame n y x → mixed n x y ≡ y
mixed_is n x y r = state_is (mixed n x y) y (sym r.own)
    (λ v. cond_both (eqb (suc v - n) 0) (x.values v) (y.values v) (λ u. u ≡ y.values v) (λ e. let q = eqb-true (suc v - n) 0 e in sym (r.values v (omega arith))) (λ _. refl))

mixed_reads : (n : ℕ) (x y : State) → ReadTheSame n (mixed n x y) x
mixed_reads n x y = record {
  own = refl;
  values = λ v l. cond-true (eqb (suc v - n) 0) (x.values v) (y.values v) (let z : suc v - n ≡ 0 = omega arith in eq-eqb (suc v - n) 0 z);
}

pub meanings_read_variables : MeaningsReadVariables
meanings_read_variables w kinds fit d f n fits env s t a b S le same h =
    let between : Course = λ j. mixed (length kinds) (t j) (s j) in
    holds_same w kinds fit d f n fits env between t (λ j. mixed_reads (length kinds) (t j) (s j)) a b S
    (meanings_read_their_part w d f env env s between a b S le (env_self a b env) (λ j u v. mixed_is (length kinds) (t j) (s j) (same j u v)) h)
