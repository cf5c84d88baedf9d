-- The values of expressions from left to right, one at a time.
use Rattle.std.proofs.Common.{◌≡◌, ℕ, ◌+◌, ◌<◌, ◌≤◌, List, [], ◌∷◌, ◌++◌, length, map, get_or, ap, sym, ◌∙◌}
use Rattle.std.proofs.lemmas.List.{append_assoc, append-nil, map-append}
use Rattle.tp_value.specs.Tree.{Tree}
use Rattle.tp_value.specs.Read.{tree}
use Rattle.tp_value.specs.declared.value.Value.{Value}
use Rattle.tp_value.specs.declared.path.Fact.{Fact}
use Rattle.tp_meaning.specs.Syntax.{Definition, ExprTrees}
use Rattle.tp_kernel.specs.declared.formula.Expr.{Expr}
use Rattle.tp_kernel.specs.Read.{expr_tree}
use Rattle.tp_eval.specs.Outcome as found
use Rattle.tp_eval.proofs.Levels.{rest, rest_next, rest_end}
use Rattle.tp_scene.specs.Scene.{Bindings}
use Rattle.tp_scene.specs.Step as row
use Rattle.tp_scene.specs.Step.{PickOutcome}

module _ (facts : List Fact) (defs : List Definition) (env : Bindings) where
  abbrev pub values_then : ExprTrees → (List Tree → PickOutcome) → PickOutcome
  values_then es f = row.with_values defs facts es env f

  -- with the values that were found before
  abbrev pub values_after : (done : List Tree) → ExprTrees → (List Tree → PickOutcome) → PickOutcome
  values_after done es f = values_then es (λ vs. f (done ++ vs))

  abbrev value_found : Expr → found.Outcome
  value_found e = row.value_of defs facts (expr_tree e) env

  pub value_first : (es : List Expr) (i : ℕ) (e : Expr) (done : List Tree) → i < length es → e ≡ get_or es i e → (f : List Tree → PickOutcome) →
      values_after done (rest es i) f ≡ row.with_value (value_found e) (λ v. values_then (rest es (i + 1)) (λ vs. f (done ++ v ∷ vs)))
  value_first es i e done l q f = ap (λ xs. values_after done xs f) (rest_next es i e l q)

  value_next : (es : List Expr) (i : ℕ) (e : Expr) (t : Tree) (done : List Tree) → i < length es → e ≡ get_or es i e → value_found e ≡ found.value t → (f : List Tree → PickOutcome) →
      values_after (done ++ t ∷ []) (rest es (i + 1)) f ≡ values_after done (rest es i) f
  value_next es i e t done l q h f = sym
      (value_first es i e done l q f ∙ ap (λ o. row.with_value o (λ v. values_then (rest es (i + 1)) (λ vs. f (done ++ v ∷ vs)))) h
      ∙ ap (λ (g : List Tree → List Tree). values_then (rest es (i + 1)) (λ vs. f (g vs))) (λ j vs. sym (append_assoc done (t ∷ []) vs) j))

  -- the same of values as they are held
  pub value_pushed : (es : List Expr) (i : ℕ) (e : Expr) (v : Value) (items pushed : List Value) → i < length es → e ≡ get_or es i e → value_found e ≡ found.value (tree v) → pushed ≡ items ++ v ∷ [] → (f : List Tree → PickOutcome) →
      values_after (map tree pushed) (rest es (i + 1)) f ≡ values_after (map tree items) (rest es i) f
  value_pushed es i e v items pushed l q h p f =
      ap (λ (ts : List Tree). values_after ts (rest es (i + 1)) f) (ap (map tree) p ∙ map-append tree items (v ∷ [])) ∙ value_next es i e (tree v) (map tree items) l q h f

  pub value_last : (es : List Expr) (i : ℕ) (done : List Tree) → length es ≤ i → (f : List Tree → PickOutcome) → values_after done (rest es i) f ≡ f done
  value_last es i done l f = ap (λ xs. values_after done xs f) (rest_end es i l) ∙ ap f (append-nil done)
