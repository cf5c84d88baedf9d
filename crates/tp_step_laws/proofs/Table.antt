-- The table of formulas, each row before and after more is known, for any relation of outcomes that respects growth.
use Rattle.std.proofs.Common.{◌≡◌, ℤ, pos, negsuc, int_le, ℕ, zero, suc, nat_lt, Bool, true, false, List, [], ◌∷◌, slice_get, Option, Some, None, refl, sym, subst, if◌then◌else◌}
use Rattle.tp_value.specs.Tree.{Tree, num, truth}
use Rattle.tp_value.specs.declared.path.Fact.{Fact}
use Rattle.tp_meaning.specs.Syntax.{ExprTree, ExprTrees, no_expr, expr_then, FormulaTree, test, equation, next_equation, empty, more, next, weak_next, if_more, if_empty, branch, len, assign, chop, for_from, forall_from, project, call, input, display, Definition, BindingTree, place_binding, known_binding}
use Rattle.tp_meaning.specs.Value.{is_upper}
use Rattle.tp_meaning.specs.Inputs.{input_at}
use Rattle.tp_store.specs.Known.{NoClash}
use Rattle.tp_eval.specs.Outcome as found
use Rattle.tp_eval.specs.Outcome.{outcome, place_outcome, PlaceOutcome}
use Rattle.tp_scene.specs.declared.answer.Cell.{Cell}
use Rattle.tp_scene.specs.Scene.{Bindings, Side, other_side, Ending, Going, Entries, Place}
use Rattle.tp_scene.specs.Step.{Reduction, PickOutcome, reduces, waits, Numbers, region_limit, marking, with_region, by_status, with_value, with_truth, with_number, side_of, with_values, with_place, with_argument, with_arguments, called, length_left, from_port, formula_step}
use Rattle.tp_scene.specs.Pick.{Setting}
use Rattle.tp_scene.specs.Fits.{IsCalm}
use Rattle.tp_step_laws.specs.Rows.{Grows, IsFailure}
use Rattle.tp_step_laws.specs.Outcomes.{KnowsMore, GrownOutcome, GrownPlace}
use Rattle.tp_step_laws.proofs.OutcomesGrow.{outcomes_grow}

-- by whether a region goes or ends, where each stays so and never both are
pub status_case : (P : PickOutcome → PickOutcome → Type 0) (a b a' b' w w' : PickOutcome) → P a a' → P b b' → ((u : PickOutcome) → P w u) → (pg pe qg qe : Bool) → (pg ≡ true → qg ≡ true) → (pe ≡ true → qe ≡ true) → (qe ≡ true → qg ≡ true → ⊥)
    → P (if pg then a else (if pe then b else w)) (if qg then a' else (if qe then b' else w'))
status_case P a b a' b' w w' x y z true pe qg qe g e calm = subst (λ (c : Bool). P a (if c then a' else (if qe then b' else w'))) (sym (g refl)) x
status_case P a b a' b' w w' x y z false true true qe g e calm = absurd (calm (e refl) refl)
status_case P a b a' b' w w' x y z false true false qe g e calm = subst (λ (c : Bool). P b (if c then b' else w')) (sym (e refl)) y
status_case P a b a' b' w w' x y z false false qg qe g e calm = z _

-- what such a relation has: of an outcome before, at p, and one after, at q
pub record Respects (P : PickOutcome → PickOutcome → Type 0) (p q : Place) : Type 0 where
  pub waiting : (first : Cell) (other : Option Cell) (u : PickOutcome) → P (waits first other) u
  pub failing : (o u : PickOutcome) → IsFailure o → IsFailure u → P o u
  pub same : (r : Reduction) → r.facts ≡ [] → P (reduces r) (reduces r)
  pub marks : (z : Side) (news : Entries) (i : ℕ) → P (marking z (p.is (other_side z)) p.depth news i) (marking z (q.is (other_side z)) q.depth news i)

module _ (w : Setting) (fs gs : List Fact) (fc : NoClash fs) (gc : NoClash gs) (knows : KnowsMore fs gs) (p q : Place) (n : Numbers) (up : Grows p q) (calm : IsCalm q) (P : PickOutcome → PickOutcome → Type 0) (respects : Respects P p q) where
  fails : (o : PickOutcome) → IsFailure o → P o o
  fails o h = respects.failing o o h h

  if_row : (b : Bool) (x x' y y' : PickOutcome) → P x x' → P y y' → P (if b then x else y) (if b then x' else y')
  if_row true x x' y y' h k = h
  if_row false x x' y y' h k = k

  value_row : (a b : found.Outcome) (f g : Tree → PickOutcome) → GrownOutcome a b → ((v : Tree) → P (f v) (g v)) → P (with_value a f) (with_value b g)
  value_row (found.value t) b f g h k = subst (λ (o : found.Outcome). P (f t) (with_value o g)) (sym h) (k t)
  value_row (found.wait x) b f g h k = respects.waiting _ _ _
  value_row x b f g h k = respects.failing _ _ tt (subst (λ (o : found.Outcome). IsFailure (with_value o g)) (sym h) tt)

  truth_row : (a b : found.Outcome) (f g : Bool → PickOutcome) → GrownOutcome a b → ((v : Bool) → P (f v) (g v)) → P (with_truth a f) (with_truth b g)
  truth_row (found.value (truth t)) b f g h k = subst (λ (o : found.Outcome). P (f t) (with_truth o g)) (sym h) (k t)
  truth_row (found.wait x) b f g h k = respects.waiting _ _ _
  truth_row x b f g h k = respects.failing _ _ tt (subst (λ (o : found.Outcome). IsFailure (with_truth o g)) (sym h) tt)

  number_row : (a b : found.Outcome) (f g : ℤ → PickOutcome) → GrownOutcome a b → ((v : ℤ) → P (f v) (g v)) → P (with_number a f) (with_number b g)
  number_row (found.value (num m)) b f g h k = subst (λ (o : found.Outcome). P (f m) (with_number o g)) (sym h) (k m)
  number_row (found.wait x) b f g h k = respects.waiting _ _ _
  number_row x b f g h k = respects.failing _ _ tt (subst (λ (o : found.Outcome). IsFailure (with_number o g)) (sym h) tt)

  region_row : (news : Entries) (i : ℕ) → P (with_region p.depth news i) (with_region q.depth news i)
  region_row news i = subst (λ (d : ℕ). P (with_region p.depth news i) (with_region d news i)) (sym up.depth) (if_row (nat_lt p.depth region_limit) _ _ _ _ (respects.same _ refl) (fails _ tt))

  status_row : (a b : PickOutcome) → P a a → P b b → P (by_status p a b) (by_status q a b)
  status_row a b h k = status_case P a b a b _ _ h k (λ u. respects.waiting _ _ u) (p.is Going) (p.is Ending) (q.is Going) (q.is Ending) (up.sides Going) (up.sides Ending) calm

  module _ (env : Bindings)
      (equations : (l r : ExprTree) → P (formula_step w.defs w.inputs w.state fs (equation l r) env p n) (formula_step w.defs w.inputs w.state gs (equation l r) env q n))
      (ports : (v : Tree) (port : List ℕ) (x : ExprTree) → input_at w.inputs w.state port ≡ Some v
      → P (from_port fs (Some v) port (side_of w.defs fs x env)) (from_port gs (Some v) port (side_of w.defs gs x env))) where
    grown : (e : ExprTree) → GrownOutcome (outcome fs w.defs e env) (outcome gs w.defs e env)
    grown e = (outcomes_grow fs gs fc gc knows w.defs e env).0

    place_row : (a b : PlaceOutcome) (f g : BindingTree → PickOutcome) → GrownPlace a b → ((v : BindingTree) → P (f v) (g v)) → P (with_place a f) (with_place b g)
    place_row (found.path x) b f g h k = subst (λ (o : PlaceOutcome). P (f (place_binding x)) (with_place o g)) (sym h) (k (place_binding x))
    place_row (found.other (found.value t)) b f g h k = subst (λ (o : PlaceOutcome). P (f (known_binding t)) (with_place o g)) (sym h) (k (known_binding t))
    place_row (found.other (found.wait x)) b f g h k = respects.waiting _ _ _
    place_row x b f g h k = respects.failing _ _ tt (subst (λ (o : PlaceOutcome). IsFailure (with_place o g)) (sym h) tt)

    argument_row : (x : List ℕ) (e : ExprTree) (f g : BindingTree → PickOutcome) → ((v : BindingTree) → P (f v) (g v)) → P (with_argument w.defs fs x e env f) (with_argument w.defs gs x e env g)
    argument_row x e f g k = if_row (is_upper x) _ _ _ _ (place_row _ _ f g (outcomes_grow fs gs fc gc knows w.defs e env).1 k) (value_row _ _ _ _ (grown e) (λ v. k (known_binding v)))

    arguments_row : (es : ExprTrees) (xs : List (List ℕ)) (f g : Bindings → PickOutcome) → ((vs : Bindings) → P (f vs) (g vs)) → P (with_arguments w.defs fs es xs env f) (with_arguments w.defs gs es xs env g)
    arguments_row no_expr [] f g k = k []
    arguments_row (expr_then e es) (x ∷ xs) f g k = argument_row x e _ _ (λ b. arguments_row es xs _ _ (λ bs. k (b ∷ bs)))
    arguments_row x y f g k = fails _ tt

    values_row : (es : ExprTrees) (f g : List Tree → PickOutcome) → ((vs : List Tree) → P (f vs) (g vs)) → P (with_values w.defs fs es env f) (with_values w.defs gs es env g)
    values_row no_expr f g k = k []
    values_row (expr_then e es) f g k = value_row _ _ _ _ (grown e) (λ v. values_row es _ _ (λ vs. k (v ∷ vs)))

    call_row : (d : Option Definition) (es : ExprTrees) → P (called w.defs fs d es env n) (called w.defs gs d es env n)
    call_row (Some d) es = arguments_row es d.parameters _ _ (λ bs. respects.same _ refl)
    call_row None es = fails _ tt

    length_row : (k : ℤ) → P (length_left k env n) (length_left k env n)
    length_row (pos zero) = respects.same _ refl
    length_row (pos (suc k)) = respects.same _ refl
    length_row (negsuc k) = fails _ tt

    port_row : (v : Option Tree) (port : List ℕ) (x : ExprTree) → input_at w.inputs w.state port ≡ v
        → P (from_port fs v port (side_of w.defs fs x env)) (from_port gs v port (side_of w.defs gs x env))
    port_row None port x h = fails _ tt
    port_row (Some v) port x h = ports v port x h

    pub formula_row : (f : FormulaTree) → P (formula_step w.defs w.inputs w.state fs f env p n) (formula_step w.defs w.inputs w.state gs f env q n)
    formula_row (test e) = truth_row _ _ _ _ (grown e) (λ b. if_row b _ _ _ _ (respects.same _ refl) (fails _ tt))
    formula_row (equation l r) = equations l r
    formula_row (next_equation k t e) = value_row _ _ _ _ (grown e) (λ v. respects.marks Going _ 1)
    formula_row empty = respects.marks Ending _ 0
    formula_row more = respects.marks Going _ 0
    formula_row (next f) = respects.marks Going _ 1
    formula_row (weak_next f) = status_row _ _ (respects.same _ refl) (respects.same _ refl)
    formula_row (if_more f) = status_row _ _ (respects.same _ refl) (respects.same _ refl)
    formula_row (if_empty f) = status_row _ _ (respects.same _ refl) (respects.same _ refl)
    formula_row (branch e f g) = truth_row _ _ _ _ (grown e) (λ b. respects.same _ refl)
    formula_row (len e) = number_row _ _ _ _ (grown e) length_row
    formula_row (assign t e) = value_row _ _ _ _ (grown e) (λ v. respects.same _ refl)
    formula_row (chop f g) = region_row _ 2
    formula_row (for_from name k e f) = number_row _ _ _ _ (grown e) (λ m. if_row (int_le m k) _ _ _ _ (respects.same _ refl) (region_row _ 2))
    formula_row (forall_from name k e f) = number_row _ _ _ _ (grown e) (λ m. if_row (int_le m k) _ _ _ _ (respects.same _ refl) (respects.same _ refl))
    formula_row (project f g) = region_row _ 2
    formula_row (call i es) = call_row (slice_get w.defs i) es
    formula_row (input x port) = port_row (input_at w.inputs w.state port) port x refl
    formula_row (display es) = values_row es _ _ (λ vs. respects.same _ refl)
    formula_row f = respects.same _ refl
