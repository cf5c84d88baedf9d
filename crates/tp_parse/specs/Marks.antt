-- What a token is without its text, and what it does in a phrase; the first of some tokens, and
-- what is left of them behind it. The levels of operators, and how they group, are those of
-- tp_tree.
use Rattle.std.specs.Prelude.{ℕ, Bool, true, false, ◌==◌, if◌then◌else◌, Option, Some, None, ◌-◌, ℤ, pos, List, [], ◌∷◌, drop}
use denote.Enum.Bare.{sameb}
use Rattle.tp_lex.specs.declared.token.Kind.{Kind}
use Rattle.tp_lex.specs.declared.token.Kind.TheVariants as kind
use Rattle.tp_lex.specs.declared.token.Word.{Word}
use Rattle.tp_lex.specs.declared.token.Word.TheVariants as word
use Rattle.tp_lex.specs.declared.token.Symbol.{Symbol}
use Rattle.tp_lex.specs.declared.token.Symbol.TheVariants as symbol
use Rattle.tp_lex.specs.contracts.token.Word as word_type
use Rattle.tp_lex.specs.contracts.token.Symbol as symbol_type
use Rattle.tp_tree.specs.declared.operator.Op.TheVariants as op
use Rattle.tp_tree.specs.declared.operator.Bare.TheVariants as bare
use Rattle.tp_tree.specs.declared.operator.Form.TheVariants as form
use Rattle.tp_tree.specs.Levels.{index_level, prefix_level, sum_level, not_level, and_level, chop_level, op_level}
use Rattle.tp_parse.specs.declared.mark.TokenMark.{TokenMark}
use Rattle.tp_parse.specs.declared.mark.TokenMark.TheVariants as m
use Rattle.tp_parse.specs.declared.mark.TokenRole.{TokenRole}
use Rattle.tp_parse.specs.declared.mark.TokenRole.TheVariants.{Ends, Infix, Opens, Joins}
use Rattle.tp_parse.specs.declared.mark.Prefix.{Prefix}
use Rattle.tp_parse.specs.declared.mark.Prefix.TheVariants.{Not, Minus, Next}
use Rattle.tp_parse.specs.declared.mark.Enclosure.{Enclosure}
use Rattle.tp_parse.specs.declared.mark.Enclosure.TheVariants.{Round, Curly, Size}
use Rattle.tp_parse.specs.declared.mark.Start.{Start}
use Rattle.tp_parse.specs.declared.mark.Start.TheVariants as s
use Rattle.tp_parse.specs.declared.head.Listed.{Listed}
use Rattle.tp_parse.specs.declared.head.Listed.TheVariants as listed
use Rattle.tp_parse.specs.declared.head.Pair.{Pair}
use Rattle.tp_parse.specs.declared.head.Pair.TheVariants as pair
use Rattle.tp_lex.specs.declared.token.Token.{Token}

abbrev pub kind_mark : Kind → TokenMark
kind_mark (kind.Upper t) = m.Upper
kind_mark (kind.Lower t) = m.Lower
kind_mark (kind.Number n) = m.Number
kind_mark (kind.Word w) = m.Word w
kind_mark (kind.Symbol s) = m.Symbol s

-- whether two marks are one
unfoldable pub same : TokenMark → TokenMark → Bool
same (m.Word v) (m.Word w) = sameb word_type.the_type v w
same (m.Symbol s) (m.Symbol t) = sameb symbol_type.the_type s t
same m.End m.End = true
same m.Upper m.Upper = true
same m.Lower m.Lower = true
same m.Number m.Number = true
same _ _ = false

-- Where `<` or `>` is due, `<-` and `>=` are read as two symbols; others stay whole.
abbrev pub first_half : Symbol → Symbol
first_half symbol.Arrow = symbol.Less
first_half symbol.GreaterEqual = symbol.Greater
first_half x = x

abbrev pub second_half : Symbol → Symbol
second_half symbol.Arrow = symbol.Minus
second_half symbol.GreaterEqual = symbol.Equal
second_half x = x

-- the operator before an operand that a token is, if it is one
abbrev pub prefix_of : TokenMark → Option Prefix
prefix_of (m.Word word.Not) = Some Not
prefix_of (m.Word word.Next) = Some Next
prefix_of (m.Symbol symbol.Minus) = Some Minus
prefix_of _ = None

abbrev pub level_of_prefix : Prefix → ℕ
level_of_prefix Not = not_level
level_of_prefix Minus = prefix_level
level_of_prefix Next = prefix_level

abbrev pub level_before : Option Prefix → ℕ
level_before None = 0
level_before (Some o) = level_of_prefix o

-- the level of an operator before its operand, or 0
abbrev pub before : TokenMark → ℕ
before x = level_before (prefix_of x)

-- the operator before an operand that a token is, where that is of this level
unfoldable pub prefix_at : ℕ → TokenMark → Option Prefix
prefix_at level mark = if before mark == level then prefix_of mark else None

-- what a token does after an operand
abbrev pub role_of : TokenMark → TokenRole
role_of (m.Symbol symbol.Semicolon) = Infix op.Chop
role_of (m.Word word.Proj) = Infix op.Proj
role_of (m.Word word.Or) = Infix op.Or
role_of (m.Word word.And) = Joins
role_of (m.Symbol symbol.Equal) = Infix op.Equal
role_of (m.Symbol symbol.Differs) = Infix op.Differs
role_of (m.Symbol symbol.Less) = Infix op.Less
role_of (m.Symbol symbol.LessEqual) = Infix op.LessEqual
role_of (m.Symbol symbol.Greater) = Infix op.Greater
role_of (m.Symbol symbol.GreaterEqual) = Infix op.GreaterEqual
role_of (m.Word word.Gets) = Infix op.Gets
role_of (m.Symbol symbol.Arrow) = Infix op.Arrow
role_of (m.Symbol symbol.Becomes) = Infix op.Becomes
role_of (m.Symbol symbol.Plus) = Infix op.Plus
role_of (m.Symbol symbol.Minus) = Infix op.Minus
role_of (m.Symbol symbol.Times) = Infix op.Times
role_of (m.Word word.Div) = Infix op.Div
role_of (m.Word word.Mod) = Infix op.Mod
role_of (m.Symbol symbol.OpenSquare) = Opens
role_of _ = Ends

abbrev pub level_of : TokenRole → ℕ
level_of Ends = 0
level_of (Infix o) = op_level o
level_of Opens = index_level
level_of Joins = and_level

-- what a token does after an operand at this level
unfoldable pub role_at : ℕ → TokenMark → TokenRole
role_at level mark = if level_of (role_of mark) == level then role_of mark else Ends

abbrev pub word_start : Word → Start
word_start word.True = s.Truth true
word_start word.False = s.Truth false
word_start word.Empty = s.Bare bare.Empty
word_start word.More = s.Bare bare.More
word_start word.Skip = s.Bare bare.Skip
word_start word.Always = s.Form form.Always
word_start word.Keep = s.Form form.Keep
word_start word.Fin = s.Form form.Fin
word_start word.Halt = s.Form form.Halt
word_start word.Stable = s.Form form.Stable
word_start word.Sometimes = s.Form form.Sometimes
word_start word.Len = s.Form form.Len
word_start word.List = s.Form form.List
word_start word.Input = s.Form form.Input
word_start word.Display = s.Form form.Display
word_start word.If = s.If
word_start word.While = s.While
word_start word.Repeat = s.Repeat
word_start word.For = s.For
word_start word.Forall = s.Forall
word_start word.Exists = s.Exists
word_start word.Then = s.Nothing
word_start word.Else = s.Nothing
word_start word.Do = s.Nothing
word_start word.Until = s.Nothing
word_start word.Define = s.Nothing
word_start word.Run = s.Nothing
word_start word.And = s.Nothing
word_start word.Or = s.Nothing
word_start word.Not = s.Nothing
word_start word.Div = s.Nothing
word_start word.Mod = s.Nothing
word_start word.Next = s.Nothing
word_start word.Gets = s.Nothing
word_start word.Proj = s.Nothing

abbrev pub symbol_start : Symbol → Start
symbol_start symbol.OpenRound = s.Enclosed Round
symbol_start symbol.OpenCurly = s.Enclosed Curly
symbol_start symbol.Bar = s.Enclosed Size
symbol_start symbol.Less = s.List
symbol_start symbol.Arrow = s.List
symbol_start symbol.Differs = s.EmptyList
symbol_start symbol.CloseRound = s.Nothing
symbol_start symbol.CloseCurly = s.Nothing
symbol_start symbol.OpenSquare = s.Nothing
symbol_start symbol.CloseSquare = s.Nothing
symbol_start symbol.Greater = s.Nothing
symbol_start symbol.LessEqual = s.Nothing
symbol_start symbol.GreaterEqual = s.Nothing
symbol_start symbol.Equal = s.Nothing
symbol_start symbol.Plus = s.Nothing
symbol_start symbol.Minus = s.Nothing
symbol_start symbol.Times = s.Nothing
symbol_start symbol.Semicolon = s.Nothing
symbol_start symbol.Comma = s.Nothing
symbol_start symbol.Stop = s.Nothing
symbol_start symbol.Colon = s.Nothing
symbol_start symbol.Becomes = s.Nothing

-- what a token begins where an operand is due
abbrev pub start_of : TokenMark → Start
start_of m.End = s.Nothing
start_of m.Upper = s.Name
start_of m.Lower = s.NameOrCall
start_of m.Number = s.Number
start_of (m.Word w) = word_start w
start_of (m.Symbol x) = symbol_start x

abbrev pub comma : TokenMark
comma = m.Symbol symbol.Comma

-- the level of the operands, and the mark after them
abbrev pub listed_level : Listed → ℕ
listed_level listed.List = sum_level
listed_level (listed.Form f) = chop_level
listed_level (listed.Call x) = chop_level

abbrev pub listed_close : Listed → TokenMark
listed_close listed.List = m.Symbol symbol.Greater
listed_close (listed.Form f) = m.Symbol symbol.CloseRound
listed_close (listed.Call x) = m.Symbol symbol.CloseRound

abbrev pub enclosed_level : Enclosure → ℕ
enclosed_level Round = chop_level
enclosed_level Curly = chop_level
enclosed_level Size = sum_level

abbrev pub enclosed_close : Enclosure → TokenMark
enclosed_close Round = m.Symbol symbol.CloseRound
enclosed_close Curly = m.Symbol symbol.CloseCurly
enclosed_close Size = m.Symbol symbol.Bar

-- the mark between the operands
abbrev pub middle : Pair → TokenMark
middle pair.While = m.Word word.Do
middle pair.Repeat = m.Word word.Until
middle (pair.For x) = m.Word word.Do
middle (pair.Forall x) = m.Symbol symbol.Colon

abbrev pub Tokens : Type 0
Tokens = List Token

-- ---- the next token

unfoldable pub mark : Tokens → TokenMark
mark [] = m.End
mark (t ∷ ts) = kind_mark t.kind

-- the place of its first byte
unfoldable pub from : Tokens → ℕ
from [] = 0
from (t ∷ ts) = t.from

abbrev pub kind_number : Kind → ℤ
kind_number (kind.Number n) = n
kind_number _ = pos 0

unfoldable pub first_number : Tokens → ℤ
first_number [] = pos 0
first_number (t ∷ ts) = kind_number t.kind

abbrev pub kind_name : Kind → List ℕ
kind_name (kind.Upper x) = x
kind_name (kind.Lower x) = x
kind_name _ = []

unfoldable pub first_name : Tokens → List ℕ
first_name [] = []
first_name (t ∷ ts) = kind_name t.kind

-- ---- symbols that are read as two

-- a token without its first half; the second half is its last byte
abbrev pub without_half : Kind → Kind
without_half (kind.Symbol x) = kind.Symbol (second_half x)
without_half k = k

abbrev pub halved : Token → Token
halved t = record t { kind = without_half t.kind; from = t.to - 1 }

-- the tokens, the first of them without its first half if that was read
abbrev pub left_of : Bool → Tokens → Tokens
left_of true (t ∷ ts) = halved t ∷ ts
left_of b ts = ts

-- the next token's mark, or that of its first half
abbrev pub half_mark : TokenMark → TokenMark
half_mark (m.Symbol x) = m.Symbol (first_half x)
half_mark x = x

abbrev pub mark_due : Tokens → TokenMark
mark_due ts = half_mark (mark ts)

-- the tokens after the next one or its first half
unfoldable pub past : Tokens → Tokens
past ts = if same (mark_due ts) (mark ts) then drop 1 ts else left_of true ts
