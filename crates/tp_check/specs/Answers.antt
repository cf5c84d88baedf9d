-- What the functions of the checker answer.
use Rattle.std.specs.Prelude.{◌≡◌, ◌≢◌, Result, Ok, Err}
use Rattle.tp_check.specs.declared.refusal.CheckRefusal.{CheckRefusal}
use Rattle.tp_check.specs.declared.refusal.CheckRefusal.TheVariants.{NoMemory}
use Rattle.tp_check.specs.Outcome.{CheckOutcome}

-- What a function answered, seen by view, is the outcome, unless memory ran out.
abbrev pub AnswersCheck : {X T : Type 0} → (X → T) → CheckOutcome T → Result X CheckRefusal → Type 0
AnswersCheck view outcome (Ok x) = outcome ≡ Ok (view x)
AnswersCheck view outcome (Err e) = e ≢ NoMemory → outcome ≡ Err e
