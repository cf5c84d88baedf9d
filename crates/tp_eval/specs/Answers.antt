-- What the calls of the crate answer, as evaluations and outcomes.
use Rattle.std.specs.Prelude.{◌≡◌, ℤ, ℕ, Option, Some, None, Result, MatchResult}
use Rattle.tp_value.specs.Tree.{Tree, num}
use Rattle.tp_value.specs.Read.{tree}
use Rattle.tp_value.specs.declared.value.Value.{Value}
use Rattle.tp_kernel.specs.declared.fault.LimitKind.TheVariants as limit
use Rattle.tp_kernel.specs.Read.{bindings_of, definitions_of}
use Rattle.tp_meaning.specs.Syntax.{ExprTree, ExprTrees, Definition}
use Rattle.tp_eval.specs.Evaluate.{PlaceFound, evaluate, find_place, call}
use Rattle.tp_eval.specs.Reached.{Reached, reaches, stops, Evaluation, gives, stop, waits, faults, passes}
use Rattle.tp_eval.specs.declared.lookup.Lookup.{Lookup}
use Rattle.tp_eval.specs.declared.halt.EvalHalt.{EvalHalt}
use Rattle.tp_eval.specs.declared.halt.EvalHalt.TheVariants.{Waits, Faults, Passes, NoMemory}
use Rattle.tp_eval.specs.declared.outcome.Outcome.{Outcome}
use Rattle.tp_eval.specs.declared.outcome.Outcome.TheVariants as outcome
use Rattle.tp_eval.specs.declared.outcome.PlaceOutcome.{PlaceOutcome}
use Rattle.tp_eval.specs.declared.outcome.PlaceOutcome.TheVariants as place
use Rattle.tp_eval.specs.Outcome as found

-- The evaluation stops as this says; nothing is said for want of memory.
abbrev pub Halts : {A : Type 0} → Evaluation A → EvalHalt → Type 0
Halts o (Waits p) = o ≡ stop (waits p)
Halts o (Faults k) = o ≡ stop (faults k)
Halts o (Passes k) = o ≡ stop (passes k)
Halts o NoMemory = Unit {0}

-- The evaluation gives what `read` makes of the answer, or stops as the answer says. It makes no
-- call.
abbrev pub AnswersEvaluation : {A B : Type 0} → (read : A → B) → Result A EvalHalt → Evaluation B
    → Type 0
AnswersEvaluation read answer o = MatchResult answer (λ x. o ≡ gives (read x)) (Halts o)

-- What was reached is a stop as this says; nothing is said for want of memory.
abbrev pub Stops : {A : Type 0} → Reached A → EvalHalt → Type 0
Stops r (Waits p) = r ≡ stops (waits p)
Stops r (Faults k) = r ≡ stops (faults k)
Stops r (Passes k) = r ≡ stops (passes k)
Stops r NoMemory = Unit {0}

-- What was reached is what `read` makes of the answer, after so many calls, or a stop as the answer
-- says.
abbrev pub AnswersReached : {A B : Type 0} → (read : A → B) → Result A EvalHalt → (calls : ℕ)
    → Reached B → Type 0
AnswersReached read answer calls r = MatchResult answer (λ x. r ≡ reaches (read x) calls) (Stops r)

abbrev pub as_it_is : {A : Type 0} → A → A
as_it_is x = x

-- the number, where there is one within the limit
abbrev pub number_within : Option ℤ → Evaluation Tree
number_within (Some n) = gives (num n)
number_within None = stop (passes limit.Number)

-- an outcome with its value's tree
abbrev pub outcome_tree : Outcome → found.Outcome
outcome_tree (outcome.Value v) = found.value (tree v)
outcome_tree (outcome.Wait p) = found.wait p
outcome_tree (outcome.Fault k) = found.fault k
outcome_tree (outcome.Over k) = found.over k

abbrev pub place_outcome_of : PlaceOutcome → found.PlaceOutcome
place_outcome_of (place.Place p) = found.path p
place_outcome_of (place.Other o) = found.other (outcome_tree o)

-- The evaluation of an expression, of a place, and of a definition's call, where so many levels are
-- left.
abbrev pub operand_in : Lookup → (levels : ℕ) → ExprTree → Evaluation Tree
operand_in l levels e =
    evaluate l.store.now.facts (definitions_of l.defs.now) levels e (bindings_of l.env.now)

abbrev pub place_at : Lookup → (levels : ℕ) → ExprTree → Evaluation PlaceFound
place_at l levels e =
    find_place l.store.now.facts (definitions_of l.defs.now) levels e (bindings_of l.env.now)

abbrev pub call_in : Lookup → (levels : ℕ) → Option Definition → ExprTrees → Evaluation Tree
call_in l levels =
    call (operand_in l levels) (place_at l levels) l.store.now.facts (bindings_of l.env.now)
    (definitions_of l.defs.now)
    (λ e args. evaluate l.store.now.facts (definitions_of l.defs.now) levels e args)

-- The outcome is that of an evaluation which stops as this says; want of memory has none.
abbrev pub IsHalt : EvalHalt → found.Outcome → Type 0
IsHalt (Waits p) o = o ≡ found.wait p
IsHalt (Faults k) o = o ≡ found.fault k
IsHalt (Passes k) o = o ≡ found.over k
IsHalt NoMemory o = ⊥

-- the outcome is that of an evaluation with this answer
abbrev pub IsAnswer : Result Value EvalHalt → found.Outcome → Type 0
IsAnswer answer o = MatchResult answer (λ v. o ≡ found.value (tree v)) (λ h. IsHalt h o)
