-- What a call answers is the outcome.
use Rattle.std.proofs.Common.{◌≡◌, ℕ, List, Option, None, Some, Result, Ok, Err, refl, ap, sym, ◌∙◌}
use Rattle.tp_value.specs.Read.{tree}
use Rattle.tp_value.specs.Tree.{Tree}
use Rattle.tp_value.specs.declared.value.Value.{Value}
use Rattle.tp_value.specs.declared.path.Fact.{Fact}
use Rattle.tp_value.specs.Shape.{item_at}
use Rattle.tp_meaning.specs.Syntax.{ExprTree, Definition, BindingTree}
use Rattle.tp_eval.specs.Reached.{Reached, reaches}
use Rattle.tp_eval.specs.Evaluate.{PlaceFound, at_path, inside, element_in, evaluate, find_place, depth_limit}
use Rattle.tp_eval.specs.Outcome as found
use Rattle.tp_eval.specs.Outcome.{outcome, place_outcome, outcome_reached, place_reached}
use Rattle.tp_eval.specs.declared.halt.EvalHalt.{EvalHalt}
use Rattle.tp_eval.specs.declared.halt.EvalHalt.TheVariants.{Waits, Faults, Passes, NoMemory}
use Rattle.tp_eval.specs.Answers.{Stops, AnswersReached, IsHalt, IsAnswer}

halt_is : (r : Reached Tree) (h : EvalHalt) (x : found.Outcome) → Stops r h → IsHalt h x → x ≡ outcome_reached r
halt_is r (Waits p) x k i = i ∙ ap outcome_reached (sym k)
halt_is r (Faults p) x k i = i ∙ ap outcome_reached (sym k)
halt_is r (Passes p) x k i = i ∙ ap outcome_reached (sym k)
halt_is r NoMemory x k i = absurd i

pub answer_is : (r : Reached Tree) (answer : Result Value EvalHalt) (calls : ℕ) (x : found.Outcome) → AnswersReached tree answer calls r → IsAnswer answer x → x ≡ outcome_reached r
answer_is r (Ok v) calls x k i = i ∙ ap outcome_reached (sym k)
answer_is r (Err h) calls x k i = halt_is r h x k i

pub place_halt_is : (facts : List Fact) (r : Reached PlaceFound) (h : EvalHalt) (x : found.Outcome) → Stops r h → IsHalt h x → found.other x ≡ place_reached facts r
place_halt_is facts r (Waits p) x k i = ap found.other i ∙ ap (place_reached facts) (sym k)
place_halt_is facts r (Faults p) x k i = ap found.other i ∙ ap (place_reached facts) (sym k)
place_halt_is facts r (Passes p) x k i = ap found.other i ∙ ap (place_reached facts) (sym k)
place_halt_is facts r NoMemory x k i = absurd i

pub eval_is : (facts : List Fact) (defs : List Definition) (e : ExprTree) (env : List BindingTree) (x : found.Outcome) → x ≡ outcome_reached (evaluate facts defs depth_limit e env 0) → x ≡ outcome facts defs e env
unfolding outcome
eval_is facts defs e env x h = h

pub place_is : (facts : List Fact) (defs : List Definition) (e : ExprTree) (env : List BindingTree) (x : found.PlaceOutcome) → x ≡ place_reached facts (find_place facts defs depth_limit e env 0) → x ≡ place_outcome facts defs e env
unfolding place_outcome
place_is facts defs e env x h = h

-- what a place comes to doesn't depend on how many calls there were
pub any_count : (facts : List Fact) (p : PlaceFound) (c c' : ℕ) → place_reached facts (reaches p c) ≡ place_reached facts (reaches p c')
any_count facts (at_path p) c c' = refl
any_count facts (inside t at) c c' = by_element (item_at at t)
  where
    by_element : (o : Option Tree) → found.other (outcome_reached (element_in o c)) ≡ found.other (outcome_reached (element_in o c'))
    by_element None = refl
    by_element (Some u) = refl
