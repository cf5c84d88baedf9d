-- What was found, and what was decided in its place.
use Rattle.std.proofs.Common.{◌≡◌, ℤ, Bool, Result, Ok, Err, ap, sym, subst}
use Rattle.tp_value.specs.Tree.{Tree, num, truth}
use Rattle.tp_value.specs.Read.{tree}
use Rattle.tp_value.specs.declared.value.Value.{Value}
use Rattle.tp_eval.specs.Outcome as found
use Rattle.tp_scene.specs.Step as row
use Rattle.tp_scene.specs.Step.{PickOutcome}
use Rattle.tp_decide.specs.declared.decision.Decision.{Decision}
use Rattle.tp_decide.specs.Decided.{Decides}
use Rattle.tp_decide.specs.Found.{ValueIn, TruthIn, NumberIn}

module _ (o : found.Outcome) where
  pub truth_without : (r : Result Bool Decision) (d : Decision) → TruthIn o r → r ≡ Err d → (f : Bool → PickOutcome) → Decides d (λ n. row.with_truth o f)
  truth_without r d h e = subst (λ (s : Result Bool Decision). TruthIn o s) e h

  pub truth_found : (r : Result Bool Decision) (b : Bool) → TruthIn o r → r ≡ Ok b → (f : Bool → PickOutcome) → f b ≡ row.with_truth o f
  truth_found r b h e f = let g : o ≡ found.value (truth b) = subst (λ (s : Result Bool Decision). TruthIn o s) e h in sym (ap (λ p. row.with_truth p f) g)

  pub number_without : (r : Result ℤ Decision) (d : Decision) → NumberIn o r → r ≡ Err d → (f : ℤ → PickOutcome) → Decides d (λ n. row.with_number o f)
  number_without r d h e = subst (λ (s : Result ℤ Decision). NumberIn o s) e h

  pub number_found : (r : Result ℤ Decision) (k : ℤ) → NumberIn o r → r ≡ Ok k → (f : ℤ → PickOutcome) → f k ≡ row.with_number o f
  number_found r k h e f = let g : o ≡ found.value (num k) = subst (λ (s : Result ℤ Decision). NumberIn o s) e h in sym (ap (λ p. row.with_number p f) g)

  pub value_without : (r : Result Value Decision) (d : Decision) → ValueIn o r → r ≡ Err d → (f : Tree → PickOutcome) → Decides d (λ n. row.with_value o f)
  value_without r d h e = subst (λ (s : Result Value Decision). ValueIn o s) e h

  pub value_found : (r : Result Value Decision) (v : Value) → ValueIn o r → r ≡ Ok v → (f : Tree → PickOutcome) → f (tree v) ≡ row.with_value o f
  value_found r v h e f = let g : o ≡ found.value (tree v) = subst (λ (s : Result Value Decision). ValueIn o s) e h in sym (ap (λ p. row.with_value p f) g)
