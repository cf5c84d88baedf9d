-- What follows from the answer of a part of an evaluation.
use Rattle.std.proofs.Common.{◌≡◌, ◌≢◌, ◌↔◌, IsTrue, ℤ, pos, negsuc, ℕ, zero, suc, Some, None, Bool, true, false, Result, Ok, Err, refl, ap, sym, subst, if◌then◌else◌}
use Rattle.tp_value.specs.Tree.{Tree, num, same_tree}
use Rattle.tp_value.proofs.Trees.{same_tree_is_equality}
use Rattle.tp_kernel.specs.Read.{operator_of}
use Rattle.tp_kernel.specs.declared.formula.Op2.{Op2}
use Rattle.tp_kernel.specs.declared.formula.Op2.TheVariants as op
use Rattle.tp_eval.specs.Evaluate.{on_divisor_outcome, operate_outcome, number_in}
use Rattle.tp_value.specs.Number.{is_within_limit, within_limit}
use Rattle.tp_kernel.specs.declared.fault.LimitKind.TheVariants as limit
use Rattle.tp_eval.specs.Reached.{Reached, reaches, Evaluation, with_reached, ◌>>=◌, gives, stop, passes, within_numbers}
use Rattle.tp_eval.specs.declared.halt.EvalHalt.{EvalHalt}
use Rattle.tp_eval.specs.declared.halt.EvalHalt.TheVariants.{Waits, Faults, Passes, NoMemory}
use Rattle.tp_eval.specs.Answers.{Halts, AnswersEvaluation, Stops, AnswersReached, number_within}

pub then_gives : {A B : Type 0} (o : Evaluation A) (x : A) (f : A → Evaluation B) → o ≡ gives x → (o >>= f) ≡ f x
then_gives o x f h = ap (λ p. p >>= f) h

pub halts_then : {A B : Type 0} (o : Evaluation A) (h : EvalHalt) (f : A → Evaluation B) → Halts o h → Halts (o >>= f) h
halts_then o (Waits p) f e = ap (λ p. p >>= f) e
halts_then o (Faults k) f e = ap (λ p. p >>= f) e
halts_then o (Passes k) f e = ap (λ p. p >>= f) e
halts_then o NoMemory f e = tt

pub answers_same : {A B : Type 0} (read : A → B) (r : Result A EvalHalt) (o o' : Evaluation B) → o ≡ o' → AnswersEvaluation read r o' → AnswersEvaluation read r o
answers_same read r o o' e h = subst (λ (p : Evaluation _). AnswersEvaluation read r p) (sym e) h

pub halts_same : {A : Type 0} (o o' : Evaluation A) (h : EvalHalt) → o ≡ o' → Halts o' h → Halts o h
halts_same o o' h e k = subst (λ (p : Evaluation _). Halts p h) (sym e) k

-- what is reached is used
pub reaches_then : {A B : Type 0} (r : Reached A) (x : A) (calls : ℕ) (f : A → Evaluation B) → r ≡ reaches x calls → with_reached r f ≡ f x calls
reaches_then r x calls f h = ap (λ p. with_reached p f) h

pub stops_then : {A B : Type 0} (r : Reached A) (h : EvalHalt) (f : A → Evaluation B) → Stops r h → Stops (with_reached r f) h
stops_then r (Waits p) f e = ap (λ q. with_reached q f) e
stops_then r (Faults k) f e = ap (λ q. with_reached q f) e
stops_then r (Passes k) f e = ap (λ q. with_reached q f) e
stops_then r NoMemory f e = tt

pub reached_same : {A B : Type 0} (read : A → B) (answer : Result A EvalHalt) (calls : ℕ) (r r' : Reached B) → r ≡ r' → AnswersReached read answer calls r' → AnswersReached read answer calls r
reached_same read answer calls r r' e h = subst (λ (p : Reached _). AnswersReached read answer calls p) (sym e) h

pub stops_same : {A : Type 0} (r r' : Reached A) (h : EvalHalt) → r ≡ r' → Stops r' h → Stops r h
stops_same r r' h e k = subst (λ (p : Reached _). Stops p h) (sym e) k

-- what makes no call leaves their count
pub halts_at : {A : Type 0} (o : Evaluation A) (h : EvalHalt) (calls : ℕ) → Halts o h → Stops (o calls) h
halts_at o (Waits p) calls e = ap (λ (q : Evaluation _). q calls) e
halts_at o (Faults k) calls e = ap (λ (q : Evaluation _). q calls) e
halts_at o (Passes k) calls e = ap (λ (q : Evaluation _). q calls) e
halts_at o NoMemory calls e = tt

makes_no_call : {A B : Type 0} (read : A → B) (answer : Result A EvalHalt) (calls : ℕ) (o : Evaluation B) → AnswersEvaluation read answer o → AnswersReached read answer calls (o calls)
makes_no_call read (Ok x) calls o h = ap (λ (q : Evaluation _). q calls) h
makes_no_call read (Err h) calls o k = halts_at o h calls k

pub reached_leaf : {A B : Type 0} (read : A → B) (answer : Result A EvalHalt) (calls : ℕ) (r : Reached B) (o : Evaluation B) → r ≡ o calls → AnswersEvaluation read answer o → AnswersReached read answer calls r
reached_leaf read answer calls r o e h = reached_same read answer calls r (o calls) e (makes_no_call read answer calls o h)

-- a number within the limit
pub number_is : (n : ℤ) → within_numbers n ≡ number_within (within_limit n)
number_is n = by_limit (is_within_limit n)
  where
    by_limit : (b : Bool) → (if b then gives (num n) else stop (passes limit.Number)) ≡ number_within (if b then Some n else None)
    by_limit true = refl
    by_limit false = refl

pub within_is : (n : ℤ) → is_within_limit n ≡ true → within_numbers n ≡ gives (num n)
within_is n h = ap (λ (b : Bool). if b then gives (num n) else stop (passes limit.Number)) h

-- a divisor that isn't 0
pub by_divisor : (f : ℤ → ℤ → ℤ) (a b : ℤ) → b ≢ pos 0 → on_divisor_outcome f a b ≡ number_within (within_limit (f a b))
by_divisor f a (pos zero) h = absurd (h refl)
by_divisor f a (pos (suc b)) h = number_is (f a (pos (suc b)))
by_divisor f a (negsuc b) h = number_is (f a (negsuc b))

pub same_is : (s t : Tree) (b : Bool) → IsTrue b ↔ s ≡ t → same_tree s t ≡ b
same_is s t true h = (same_tree_is_equality s t).1 (h.0 refl)
same_is s t false h = if_true (same_tree s t) (same_tree_is_equality s t).0
  where
    if_true : (x : Bool) → (x ≡ true → s ≡ t) → x ≡ false
    if_true true k = let no : false ≡ true = h.1 (k refl) in absurd (cc)
    if_true false k = refl

-- an operator that wants numbers
pub numeric : (o : Op2) → (o ≡ op.Equal → ⊥) → (o ≡ op.Differs → ⊥) → (o ≡ op.Plus → ⊥) → (s t : Tree)
    → operate_outcome (operator_of o) s t ≡ (number_in s >>= λ a. number_in t >>= λ b. operate_outcome (operator_of o) (num a) (num b))
numeric op.Equal e d p s t = absurd (e refl)
numeric op.Differs e d p s t = absurd (d refl)
numeric op.Plus e d p s t = absurd (p refl)
numeric op.Less e d p s t = refl
numeric op.LessEqual e d p s t = refl
numeric op.Greater e d p s t = refl
numeric op.GreaterEqual e d p s t = refl
numeric op.Minus e d p s t = refl
numeric op.Times e d p s t = refl
numeric op.Div e d p s t = refl
numeric op.Mod e d p s t = refl
