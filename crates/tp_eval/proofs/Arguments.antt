-- What the parameters of a definition are bound to, one by one.
use Rattle.std.proofs.Common.{◌≡◌, ◌≢◌, ℕ, zero, suc, List, [], ◌∷◌, ◌++◌, length, drop, min, refl, ap, sym, ◌∙◌, arith, append_assoc}
use Rattle.std.proofs.lemmas.List.{append-nil}
use Rattle.tp_value.specs.Tree.{Tree}
use Rattle.tp_kernel.specs.declared.formula.Expr.{Expr}
use Rattle.tp_kernel.specs.declared.fault.FaultKind.TheVariants.{NoElement}
use Rattle.tp_meaning.specs.Syntax.{ExprTree, ExprTrees, expr_then, BindingTree}
use Rattle.tp_meaning.specs.Value.{is_upper}
use Rattle.tp_eval.specs.Reached.{reaches, stops, faults, Evaluation, with_reached, ◌>>=◌, gives}
use Rattle.tp_eval.specs.declared.halt.EvalHalt.{EvalHalt}
use Rattle.tp_eval.specs.Evaluate.{PlaceFound, argument, arguments}
use Rattle.tp_eval.specs.Answers.{Stops}
use Rattle.tp_eval.proofs.Steps.{reaches_then, stops_then}
use Rattle.tp_eval.proofs.Levels.{rest, then_all, then_itself}

module _ (operand : ExprTree → Evaluation Tree) (place : ExprTree → Evaluation PlaceFound) where
  -- the bindings so far, with those of the rest after them
  abbrev pub bindings_with : List BindingTree → ExprTrees → List (List ℕ) → Evaluation (List BindingTree)
  bindings_with done es xs = arguments operand place es xs >>= λ bs. gives (done ++ bs)

  pub arguments_begin : (es : ExprTrees) (xs : List (List ℕ)) (c : ℕ) → arguments operand place es xs c ≡ bindings_with [] es xs c
  arguments_begin es xs c = sym (then_itself (arguments operand place es xs c))

  pub argument_next : (done : List BindingTree) (e : ExprTree) (b : BindingTree) (es : ExprTrees) (x : List ℕ) (xs : List (List ℕ)) (c c' : ℕ) → argument operand place (is_upper x) e c ≡ reaches b c'
      → bindings_with done (expr_then e es) (x ∷ xs) c ≡ bindings_with (done ++ b ∷ []) es xs c'
  argument_next done e b es x xs c c' h =
      ap (λ r. with_reached r (λ us. gives (done ++ us))) (reaches_then (argument operand place (is_upper x) e c) b c' (λ y. arguments operand place es xs >>= λ bs. gives (y ∷ bs)) h)
      ∙ then_all (arguments operand place es xs c') (λ bs. gives (b ∷ bs)) (λ us. gives (done ++ us))
      ∙ ap (λ (f : List BindingTree → List BindingTree). with_reached (arguments operand place es xs c') (λ bs. gives (f bs))) (λ i bs. sym (append_assoc done (b ∷ []) bs) i)

  pub argument_halts : (done : List BindingTree) (e : ExprTree) (es : ExprTrees) (x : List ℕ) (xs : List (List ℕ)) (c : ℕ) (h : EvalHalt) → Stops (argument operand place (is_upper x) e c) h
      → Stops (bindings_with done (expr_then e es) (x ∷ xs) c) h
  argument_halts done e es x xs c h k = stops_then _ h _ (stops_then (argument operand place (is_upper x) e c) h _ k)

  -- as many arguments as parameters, and not as many
  pub arguments_end : (es : List Expr) (xs : List (List ℕ)) (n c : ℕ) (done : List BindingTree) → n ≡ min (length es) (length xs) → length es ≡ length xs → bindings_with done (rest es n) (drop n xs) c ≡ reaches done c
  arguments_end [] [] zero c done m h = ap (λ bs. reaches bs c) (append-nil done)
  arguments_end [] [] (suc n) c done m h = absurd (omega (arith, m))
  arguments_end [] (x ∷ xs) n c done m h = absurd (omega (arith, h))
  arguments_end (e ∷ es) [] n c done m h = absurd (omega (arith, h))
  arguments_end (e ∷ es) (x ∷ xs) zero c done m h = absurd (omega (arith, m, h))
  arguments_end (e ∷ es) (x ∷ xs) (suc n) c done m h = arguments_end es xs n c done (omega (arith, m)) (omega (arith, h))

  pub arguments_uneven : (es : List Expr) (xs : List (List ℕ)) (n c : ℕ) (done : List BindingTree) → n ≡ min (length es) (length xs) → length es ≢ length xs → bindings_with done (rest es n) (drop n xs) c ≡ stops (faults NoElement)
  arguments_uneven [] [] n c done m h = absurd (h refl)
  arguments_uneven [] (x ∷ xs) zero c done m h = refl
  arguments_uneven [] (x ∷ xs) (suc n) c done m h = absurd (omega (arith, m))
  arguments_uneven (e ∷ es) [] zero c done m h = refl
  arguments_uneven (e ∷ es) [] (suc n) c done m h = absurd (omega (arith, m))
  arguments_uneven (e ∷ es) (x ∷ xs) zero c done m h = absurd (omega (arith, m))
  arguments_uneven (e ∷ es) (x ∷ xs) (suc n) c done m h = arguments_uneven es xs n c done (omega (arith, m)) (λ q. h (ap (λ k. suc k) q))
