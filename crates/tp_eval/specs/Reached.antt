-- What an expression is as far as a state is known: a value, or what stops its evaluation.
use Rattle.std.specs.Prelude.{ℤ, ℕ, if◌then◌else◌}
use Rattle.tp_value.specs.Tree.{Tree, num}
use Rattle.tp_value.specs.Number.{is_within_limit}
use Rattle.tp_value.specs.Limits.{is_within_list_limit}
use Rattle.tp_value.specs.declared.path.Path.{Path}
use Rattle.tp_kernel.specs.declared.fault.FaultKind.{FaultKind}
use Rattle.tp_kernel.specs.declared.fault.LimitKind.{LimitKind}
use Rattle.tp_kernel.specs.declared.fault.LimitKind.TheVariants as limit

-- why an evaluation stops: the shape at a path isn't known yet, the expression has no value, or a
-- limit is passed
pub data Stop : Type 0 where
  waits : Path → Stop
  faults : FaultKind → Stop
  passes : LimitKind → Stop

-- It goes on with what was reached, and with the number of calls made so far; or it stops.
pub data Reached (A : Type 0) : Type 0 where
  reaches : A → (calls : ℕ) → Reached A
  stops : Stop → Reached A

-- an evaluation, from the number of calls made before it
abbrev pub Evaluation : Type 0 → Type 0
Evaluation A = ℕ → Reached A

abbrev pub with_reached : {A B : Type 0} → Reached A → (A → Evaluation B) → Reached B
with_reached (reaches a calls) f = f a calls
with_reached (stops s) f = stops s

-- `x ← o` goes on with what o reaches; the first that stops stops all
infixl 10 ◌>>=◌
abbrev pub ◌>>=◌ : {A B : Type 0} → Evaluation A → (A → Evaluation B) → Evaluation B
o >>= f = λ calls. with_reached (o calls) f

abbrev pub gives : {A : Type 0} → A → Evaluation A
gives a = λ calls. reaches a calls

abbrev pub stop : {A : Type 0} → Stop → Evaluation A
stop s = λ calls. stops s

abbrev pub fault : {A : Type 0} → FaultKind → Evaluation A
fault k = stop (faults k)

-- a number, where it is within the limit of numbers
abbrev pub within_numbers : ℤ → Evaluation Tree
within_numbers n = if is_within_limit n then gives (num n) else stop (passes limit.Number)

-- a value, where it is within the limit on lists
abbrev pub within_lists : Tree → Evaluation Tree
within_lists t = if is_within_list_limit t then gives t else stop (passes limit.List)
