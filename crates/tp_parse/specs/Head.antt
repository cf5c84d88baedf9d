-- What a primary begins with, up to its first operand.
use Rattle.std.specs.Prelude.{ℕ, Bool, true, false, not, ◌==◌, nat_le, if◌then◌else◌, List, length, drop, Ok}
use Rattle.tp_lex.specs.declared.token.Symbol.TheVariants as symbol
use Rattle.tp_parse.specs.declared.mark.TokenMark.{TokenMark}
use Rattle.tp_parse.specs.declared.mark.TokenMark.TheVariants as m
use Rattle.tp_parse.specs.declared.mark.Start.{Start}
use Rattle.tp_parse.specs.declared.mark.Start.TheVariants as s
use Rattle.tp_parse.specs.declared.head.PrimaryHead.{PrimaryHead}
use Rattle.tp_parse.specs.declared.head.PrimaryHead.TheVariants.{Atom, Listed, Enclosed, If, Paired, Exists}
use Rattle.tp_parse.specs.declared.head.Atom.TheVariants as atom
use Rattle.tp_parse.specs.declared.head.Listed.TheVariants as listed
use Rattle.tp_parse.specs.declared.head.Pair.TheVariants as pair
use Rattle.tp_parse.specs.declared.stop.Refusal.{Refusal}
use Rattle.tp_parse.specs.declared.stop.Refusal.TheVariants.{TooDeep}
use Rattle.tp_parse.specs.Marks.{before, start_of, Tokens, mark, first_number, first_name, past}
use Rattle.tp_parse.specs.Readers.{TokenReader, ◌>>=◌, pure, refusal, refuse, sees, take, expect, taken_name, lower, names, deepen}

abbrev pub head_taken : PrimaryHead → TokenReader PrimaryHead
head_taken h = λ ts. Ok (h, drop 1 ts)

unfoldable pub name_or_call : TokenReader PrimaryHead
name_or_call = do
  x ← taken_name
  λ ts. if sees (m.Symbol symbol.OpenRound) ts then Ok (Listed (listed.Call x), drop 1 ts)
      else Ok (Atom (atom.Name x), ts)

-- a loop's word, its variable and the `<` after it
unfoldable pub counter : TokenReader (List ℕ)
counter = do
  _word ← take
  x ← lower
  _less ← expect (m.Symbol symbol.Less)
  pure x

abbrev pub head_by : Start → TokenReader PrimaryHead
head_by s.Nothing = refuse
head_by s.Number = λ ts. Ok (Atom (atom.Number (first_number ts)), drop 1 ts)
head_by s.Name = λ ts. Ok (Atom (atom.Name (first_name ts)), drop 1 ts)
head_by s.NameOrCall = name_or_call
head_by (s.Truth b) = head_taken (Atom (atom.Truth b))
head_by (s.Bare w) = head_taken (Atom (atom.Bare w))
head_by s.EmptyList = head_taken (Atom atom.EmptyList)
head_by s.List = λ ts. Ok (Listed listed.List, past ts)
head_by (s.Form f) = do
  _word ← take
  _open ← expect (m.Symbol symbol.OpenRound)
  pure (Listed (listed.Form f))
head_by (s.Enclosed e) = head_taken (Enclosed e)
head_by s.If = head_taken If
head_by s.While = head_taken (Paired pair.While)
head_by s.Repeat = head_taken (Paired pair.Repeat)
head_by s.For = do
  x ← counter
  pure (Paired (pair.For x))
head_by s.Forall = do
  x ← counter
  pure (Paired (pair.Forall x))
head_by s.Exists = do
  _word ← take
  xs ← names
  _colon ← expect (m.Symbol symbol.Colon)
  pure (Exists xs)

-- what begins so has an operand, and is 2 high at least
abbrev pub is_high : Start → Bool
is_high (s.Enclosed e) = true
is_high s.If = true
is_high s.While = true
is_high s.Repeat = true
is_high s.For = true
is_high s.Forall = true
is_high s.Exists = true
is_high s.Nothing = false
is_high s.Number = false
is_high s.Name = false
is_high s.NameOrCall = false
is_high (s.Truth b) = false
is_high (s.Bare w) = false
is_high s.EmptyList = false
is_high s.List = false
is_high (s.Form f) = false

-- with this room for operands
unfoldable pub admit : ℕ → Start → TokenReader (Unit {0})
admit room x = if is_high x then deepen room else pure tt

abbrev pub is_nothing : Start → Bool
is_nothing s.Nothing = true
is_nothing _ = false

-- whether a phrase of the level may begin with such a token
unfoldable pub begins : ℕ → TokenMark → Bool
begins level x = if before x == 0 then not (is_nothing (start_of x)) else nat_le (before x) level

-- why no phrase of the level stands here where none may be 1 high
unfoldable pub unfit : ℕ → Tokens → Refusal
unfit level ts = if begins level (mark ts) then TooDeep (length ts) else refusal ts
