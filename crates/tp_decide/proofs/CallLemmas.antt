-- What the parameters of a definition are bound to, one at a time.
use Rattle.std.proofs.Common.{◌≡◌, ℕ, Bool, true, false, Some, if◌then◌else◌, List, [], ◌∷◌, ◌++◌, map, length, IsTrue, ◌⊎◌, inl, inr, refl, ap, sym, ◌∙◌, arith}
use Rattle.std.proofs.lemmas.List.{append_assoc, append-nil}
use Rattle.tp_value.specs.Tree.{Tree}
use Rattle.tp_value.specs.declared.path.Fact.{Fact}
use Rattle.tp_kernel.specs.declared.formula.Expr.{Expr}
use Rattle.tp_kernel.specs.declared.fault.FaultKind.TheVariants.{NoElement}
use Rattle.tp_kernel.specs.Read.{expr_tree}
use Rattle.tp_meaning.specs.Syntax.{Definition, BindingTree, known_binding, ExprTree, ExprTrees, bound, global, index, no_expr, expr_then, exprs_of}
use Rattle.tp_meaning.specs.Fits.{IsPlace, AreArguments}
use Rattle.tp_meaning.specs.Value.{is_upper}
use Rattle.tp_eval.specs.Evaluate.{is_place, depth_limit}
use Rattle.tp_eval.specs.Operand.{bound_value, named_path, IsNamedValue}
use Rattle.tp_eval.specs.Outcome as found
use Rattle.tp_eval.specs.Outcome.{outcome, outcome_reached, place_outcome, place_reached}
use Rattle.tp_eval.proofs.Answered.{eval_is, place_is as place_outcome_is}
use Rattle.tp_eval.proofs.OperandLemmas.{value_reached, place_reached_by_value, named_value_reached}
use Rattle.tp_scene.specs.declared.answer.Clash.TheVariants.{NoValue}
use Rattle.tp_scene.specs.Scene.{Bindings}
use Rattle.tp_scene.specs.Step as row
use Rattle.tp_scene.specs.Step.{PickOutcome, clashes}
use Rattle.tp_decide.specs.Fits.{ArePlaces}

place_is : (e : ExprTree) → IsPlace e → IsTrue (is_place e)
place_is (bound i) h = refl
place_is (global x) h = refl
place_is (index e i) h = place_is e h
place_is _ h = absurd h

pub arguments_are_places : (es : ExprTrees) (xs : List (List ℕ)) → AreArguments es xs → ArePlaces es xs
arguments_are_places no_expr [] h = tt
arguments_are_places no_expr (x ∷ xs) h = tt
arguments_are_places (expr_then e es) [] h = tt
arguments_are_places (expr_then e es) (x ∷ xs) h = ((λ u. place_is e (h.0 u)), arguments_are_places es xs h.1)

module _ (facts : List Fact) (defs : List Definition) (env : Bindings) where
  abbrev pub arguments_then : ExprTrees → List (List ℕ) → (Bindings → PickOutcome) → PickOutcome
  arguments_then es xs f = row.with_arguments defs facts es xs env f

  -- with what was bound before
  abbrev pub arguments_after : (done : Bindings) → ExprTrees → List (List ℕ) → (Bindings → PickOutcome) → PickOutcome
  arguments_after done es xs f = arguments_then es xs (λ bs. f (done ++ bs))

  pub argument_next : (done : Bindings) (b : BindingTree) (x : List ℕ) (xs : List (List ℕ)) (e : ExprTree) (es : ExprTrees) →
      ((g : BindingTree → PickOutcome) → row.with_argument defs facts x e env g ≡ g b) → (f : Bindings → PickOutcome) →
      arguments_after (done ++ b ∷ []) es xs f ≡ arguments_after done (expr_then e es) (x ∷ xs) f
  argument_next done b x xs e es h f = sym
      (h (λ v. arguments_then es xs (λ vs. f (done ++ v ∷ vs)))
      ∙ ap (λ (g : Bindings → Bindings). arguments_then es xs (λ vs. f (g vs))) (λ j vs. sym (append_assoc done (b ∷ []) vs) j))

  -- a known value that an argument is bound to is what the parameter is bound to
  shared_value : (e : ExprTree) (t : Tree) → bound_value e env ≡ Some t → outcome facts defs e env ≡ found.value t
  shared_value e t h = sym (eval_is facts defs e env (found.value t) (ap outcome_reached (sym (value_reached facts t 0 defs env depth_limit e (omega arith) h))))

  shared_place : (e : ExprTree) (t : Tree) → bound_value e env ≡ Some t → place_outcome facts defs e env ≡ found.other (found.value t)
  shared_place e t h = sym (place_outcome_is facts defs e env (found.other (found.value t)) (ap (place_reached facts) (sym (place_reached_by_value facts t 0 defs env depth_limit e (omega arith) h))))

  pub argument_shared : (x : List ℕ) (e : ExprTree) (t : Tree) → bound_value e env ≡ Some t → (f : BindingTree → PickOutcome) → row.with_argument defs facts x e env f ≡ f (known_binding t)
  argument_shared x e t h f = by_letter (is_upper x)
    where
      by_letter : (b : Bool) → (if b then row.with_place (place_outcome facts defs e env) f else row.with_value (outcome facts defs e env) (λ v. f (known_binding v))) ≡ f (known_binding t)
      by_letter true = ap (λ o. row.with_place o f) (shared_place e t h)
      by_letter false = ap (λ o. row.with_value o (λ v. f (known_binding v))) (shared_value e t h)

  pub kept_outcome : (e : ExprTree) (t : Tree) → IsNamedValue facts (named_path e env) t → outcome facts defs e env ≡ found.value t
  kept_outcome e t h = sym (eval_is facts defs e env (found.value t) (ap outcome_reached (sym (named_value_reached facts t 0 defs env depth_limit e (omega arith) h))))

  -- and so is the list that the store keeps, where the parameter stands for a value
  pub argument_kept : (x : List ℕ) (e : ExprTree) (t : Tree) → is_upper x ≡ false → IsNamedValue facts (named_path e env) t → (f : BindingTree → PickOutcome) →
      row.with_argument defs facts x e env f ≡ f (known_binding t)
  argument_kept x e t l h f =
      ap (λ (b : Bool). if b then row.with_place (place_outcome facts defs e env) f else row.with_value (outcome facts defs e env) (λ v. f (known_binding v))) l
      ∙ ap (λ o. row.with_value o (λ v. f (known_binding v))) (kept_outcome e t h)

  -- where one list has come to its end, and where the other hasn't
  pub all_bound : (done : Bindings) (es : List Expr) (xs : List (List ℕ)) → (es ≡ []) ⊎ (xs ≡ []) → length es ≡ length xs → (f : Bindings → PickOutcome) →
      arguments_after done (exprs_of (map expr_tree es)) xs f ≡ f done
  all_bound done [] [] h l f = ap f (append-nil done)
  all_bound done [] (x ∷ xs) h l f = absurd (omega arith)
  all_bound done (e ∷ es) [] h l f = absurd (omega arith)
  all_bound done (e ∷ es) (x ∷ xs) h l f = elim h [ inl q ↦ absurd (cc) | inr q ↦ absurd (cc) ]

  pub one_too_few : (done : Bindings) (es : List Expr) (xs : List (List ℕ)) → (es ≡ []) ⊎ (xs ≡ []) → (length es ≡ length xs → ⊥) → (f : Bindings → PickOutcome) →
      clashes (NoValue NoElement) ≡ arguments_after done (exprs_of (map expr_tree es)) xs f
  one_too_few done [] [] h l f = absurd (l refl)
  one_too_few done [] (x ∷ xs) h l f = refl
  one_too_few done (e ∷ es) [] h l f = refl
  one_too_few done (e ∷ es) (x ∷ xs) h l f = elim h [ inl q ↦ absurd (cc) | inr q ↦ absurd (cc) ]
