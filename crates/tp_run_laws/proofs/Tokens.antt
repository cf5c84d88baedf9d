-- Each name among the tokens of a text is a variable's name.
use Rattle.std.proofs.Common.{◌≡◌, ◌+◌, ◌≤◌, ℕ, min, Bool, true, false, cond, List, [], ◌∷◌, length, take, drop, All, refl, arith}
use Rattle.std.specs.List.{prefix_len}
use Rattle.std.proofs.lemmas.List.{length-take}
use Rattle.std.proofs.lemmas.List.Elements.{All-nil, All-cons, All-append, All-head, All-tail}
use Rattle.tp_lex.specs.declared.token.Token.{Token}
use Rattle.tp_lex.specs.declared.piece.Piece.{Piece}
use Rattle.tp_lex.specs.declared.piece.Piece.TheVariants.{Gap, Lexeme, Refused}
use Rattle.tp_lex.specs.Bytes.{is_name_byte, name_limit}
use Rattle.tp_lex.specs.Pieces.{IsNoWord, BeginsPiece, word, upper, lower, number, symbol}
use Rattle.tp_lex.specs.Tokens.{ReadsTokens, ReadingEnd, Whole, gap, lexeme}
use Rattle.tp_lex.specs.Names.{own_names, token_names, IsNameText}
use Rattle.tp_lex.proofs.NameLemmas.{names_are_spelled}
use Rattle.tp_show.specs.Trace.{AreNameBytes, IsVariableName}
use Rattle.tp_run_laws.specs.PrintableRuns.{TokenNamesAreOfVariables}

-- not too long, and no word
abbrev IsShortAndNoWord : List ℕ → Type 0
IsShortAndNoWord x = (length x ≤ name_limit) × IsNoWord x

short_name : (z : List ℕ) (n : ℕ) → n ≤ name_limit → IsNoWord (take n z) → All IsShortAndNoWord (take n z ∷ [])
short_name z n low never =
    let count : length (take n z) ≡ min n (length z) = length-take n z in
    All-cons IsShortAndNoWord (take n z) [] (omega (arith, count, low), never) (All-nil IsShortAndNoWord)

-- the name that a piece is
abbrev PieceIsShort : Piece → Type 0
PieceIsShort (Gap n) = Unit {0}
PieceIsShort (Lexeme kind n) = All IsShortAndNoWord (own_names kind)
PieceIsShort (Refused fault) = Unit {0}

piece_short : (z : List ℕ) (p : Piece) → BeginsPiece z p → PieceIsShort p
piece_short z _ (word is e) = All-nil IsShortAndNoWord
piece_short z _ (upper {n = n} is low never u) = short_name z n low never
piece_short z _ (lower {n = n} is low never u) = short_name z n low never
piece_short z _ (number are low) = All-nil IsShortAndNoWord
piece_short z _ (symbol is) = All-nil IsShortAndNoWord
piece_short z _ x = tt

short_from : (bytes : List ℕ) (at : ℕ) (ts : List Token) (end : ReadingEnd) → ReadsTokens bytes at ts end → All IsShortAndNoWord (token_names ts)
short_from bytes at ts end (gap {n = n} is r) = short_from bytes (at + n) ts end r
short_from bytes at _ end (lexeme {n = n} {kind = kind} {ts = ts} is r) =
    All-append IsShortAndNoWord (own_names kind) (token_names ts) (piece_short (drop at bytes) _ is) (short_from bytes (at + n) ts end r)
short_from bytes at _ _ x = All-nil IsShortAndNoWord

name_bytes : (x : List ℕ) → length x ≡ prefix_len is_name_byte x → AreNameBytes x
name_bytes [] e = tt
name_bytes (c ∷ cs) e = by (is_name_byte c) refl (name_bytes cs) e
  where
    by : (b : Bool) → is_name_byte c ≡ b → (length cs ≡ prefix_len is_name_byte cs → AreNameBytes cs) → length (c ∷ cs) ≡ cond b (1 + prefix_len is_name_byte cs) 0 → AreNameBytes (c ∷ cs)
    by true is later count = (is, later (omega (arith, count)))
    by false is later count = absurd (omega (arith, count))

of_variables : (xs : List (List ℕ)) → All IsNameText xs → All IsShortAndNoWord xs → All IsVariableName xs
of_variables [] spelled short = All-nil IsVariableName
of_variables (x ∷ xs) spelled short =
    let text = All-head IsNameText x xs spelled in
    let rest = All-head IsShortAndNoWord x xs short in
    All-cons IsVariableName x xs (record { letter = text.letter; bytes = name_bytes x text.longest; short = rest.0; no_word = rest.1 })
    (of_variables xs (All-tail IsNameText x xs spelled) (All-tail IsShortAndNoWord x xs short))

pub token_names_are_of_variables : TokenNamesAreOfVariables
token_names_are_of_variables bytes ts are = of_variables (token_names ts) (names_are_spelled bytes ts are) (short_from bytes 0 ts Whole are)
