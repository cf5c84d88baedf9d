-- What is made of a phrase, or why it is refused.
use Rattle.std.specs.Prelude.{ℕ, Result, Ok, Err}
use Rattle.tp_check.specs.declared.refusal.CheckRefusal.{CheckRefusal}
use Rattle.tp_check.specs.declared.refusal.CheckRefusal.TheVariants.{NotExecutable, NotExpression}

abbrev pub CheckOutcome : Type 0 → Type 0
CheckOutcome A = Result A CheckRefusal

-- the phrase at this place isn't run
abbrev pub not_run : {A : Type 0} → (at : ℕ) → CheckOutcome A
not_run at = Err (NotExecutable at)

-- it is no expression
abbrev pub not_expression : {A : Type 0} → (at : ℕ) → CheckOutcome A
not_expression at = Err (NotExpression at)

abbrev pub mapped : {A B : Type 0} → (A → B) → CheckOutcome A → CheckOutcome B
mapped f (Ok a) = Ok (f a)
mapped f (Err e) = Err e

-- what is made of two phrases; of two refusals the first
abbrev pub both : {A B C : Type 0} → (A → B → C) → CheckOutcome A → CheckOutcome B → CheckOutcome C
both f (Ok a) b = mapped (f a) b
both f (Err e) b = Err e

-- and of three
abbrev pub three : {A B C D : Type 0} → (A → B → C → D) → CheckOutcome A → CheckOutcome B
    → CheckOutcome C → CheckOutcome D
three f (Ok a) b c = both (f a) b c
three f (Err e) b c = Err e
