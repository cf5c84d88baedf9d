-- Readers of tokens, and the steps that they are made of.
use Rattle.std.specs.Prelude.{◌≡◌, ◌≢◌, ℕ, zero, suc, Bool, if◌then◌else◌, List, [], ◌∷◌, length, drop, Result, Ok, Err, ◌||◌, ◌++◌}
use Rattle.tp_lex.specs.declared.token.Symbol.TheVariants as symbol
use Rattle.tp_parse.specs.declared.mark.TokenMark.{TokenMark}
use Rattle.tp_parse.specs.declared.mark.TokenMark.TheVariants as m
use Rattle.tp_parse.specs.declared.stop.Refusal.{Refusal}
use Rattle.tp_parse.specs.declared.stop.Refusal.TheVariants.{Unexpected, Unfinished, TooDeep, NoMemory}
use Rattle.tp_parse.specs.Marks.{same, second_half, Tokens, mark, first_name, mark_due, past}

abbrev pub ReadOutcome : Type 0 → Type 0
ReadOutcome A = Result (A × Tokens) Refusal

abbrev pub TokenReader : Type 0 → Type 0
TokenReader A = Tokens → ReadOutcome A

abbrev pub and_then : {A B : Type 0} → ReadOutcome A → (A → TokenReader B) → ReadOutcome B
and_then (Ok p) f = f p.0 p.1
and_then (Err e) f = Err e

infixl 10 ◌>>=◌
abbrev pub ◌>>=◌ : {A B : Type 0} → TokenReader A → (A → TokenReader B) → TokenReader B
p >>= f = λ ts. and_then (p ts) f

abbrev pub pure : {A : Type 0} → A → TokenReader A
pure a = λ ts. Ok (a, ts)

-- ---- the next token

unfoldable pub refusal : Tokens → Refusal
refusal [] = Unfinished
refusal (t ∷ ts) = Unexpected (length (t ∷ ts))

abbrev pub refuse : {A : Type 0} → TokenReader A
refuse = λ ts. Err (refusal ts)

abbrev pub too_deep : {A : Type 0} → TokenReader A
too_deep = λ ts. Err (TooDeep (length ts))

abbrev pub sees : TokenMark → Tokens → Bool
sees x ts = same (mark ts) x

abbrev pub take : TokenReader (Unit {0})
take = λ ts. Ok (tt, drop 1 ts)

-- the mark of a token without its first half
abbrev pub mark_without_half : TokenMark → TokenMark
mark_without_half (m.Symbol x) = m.Symbol (second_half x)
mark_without_half x = x

unfoldable pub expect : TokenMark → TokenReader (Unit {0})
expect x = λ ts. if same (mark_due ts) x then Ok (tt, past ts) else refuse ts

-- ---- names

abbrev pub taken_name : TokenReader (List ℕ)
taken_name = λ ts. Ok (first_name ts, drop 1 ts)

unfoldable pub lower : TokenReader (List ℕ)
lower = λ ts. if sees m.Lower ts then taken_name ts else refuse ts

unfoldable pub any_name : TokenReader (List ℕ)
any_name = λ ts. if sees m.Upper ts || sees m.Lower ts then taken_name ts else refuse ts

-- after the names that were read
unfoldable pub names_from : ℕ → List (List ℕ) → TokenReader (List (List ℕ))
names_from zero xs = pure xs
names_from (suc n) xs = λ ts. if sees (m.Symbol symbol.Comma) ts then (do
  _comma ← take
  x ← any_name
  names_from n (xs ++ x ∷ [])) ts else pure xs ts

-- names with commas between them, at least one
unfoldable pub names : TokenReader (List (List ℕ))
names = do
  x ← any_name
  λ ts. names_from (length ts) (x ∷ []) ts

-- ---- the room for operands

-- where operands of this room are due: none are, if it is 0
unfoldable pub deepen : ℕ → TokenReader (Unit {0})
deepen zero = too_deep
deepen (suc n) = pure tt

-- What a function returned, seen by view, and what it left is what reading gives, unless memory ran
-- out.
abbrev pub ReturnsReading : {X Y : Type 0} → (X → Y) → ReadOutcome Y → Result X Refusal → Tokens
    → Type 0
ReturnsReading view outcome (Ok x) rest = outcome ≡ Ok (view x, rest)
ReturnsReading view outcome (Err e) rest = e ≢ NoMemory → outcome ≡ Err e
