-- What a text begins with, as a function of the text.
use Rattle.std.specs.Prelude.{ℕ, suc, ℤ, pos, ◌+◌, if◌then◌else◌, nat_eq, nat_le, List, [], ◌∷◌, length, take, drop, slice_index, codes, Option, Some, None}
use Rattle.std.specs.Option.{option_map}
use Rattle.std.specs.List.{prefix_len, starts_with}
use Rattle.std.specs.Char.{is_ascii_alphabetic, is_ascii_uppercase}
use Rattle.tp_value.specs.Number.{number_limit}
use Rattle.tp_lex.specs.declared.token.Word.{Word}
use Rattle.tp_lex.specs.declared.token.Symbol.{Symbol}
use Rattle.tp_lex.specs.declared.token.Kind.{Kind}
use Rattle.tp_lex.specs.declared.token.Kind.TheVariants as k
use Rattle.tp_lex.specs.declared.piece.Fault.TheVariants.{BadByte, OpenComment, NumberTooLarge, NameTooLong}
use Rattle.tp_lex.specs.declared.piece.Piece.{Piece}
use Rattle.tp_lex.specs.declared.piece.Piece.TheVariants.{Gap, Lexeme, Refused}
use Rattle.tp_lex.specs.Spelling.{symbol_spelling}
use Rattle.tp_lex.specs.Spelled.{spelled_word, longest_symbol}
use Rattle.tp_lex.specs.Bytes.{is_blank, is_name_byte, is_digit, spelled_value, name_limit}

-- the number, where it is within the limit
abbrev pub number_in_limit : ℕ → Option ℤ
number_in_limit n = if nat_le n number_limit then Some (pos n) else None

-- how many bytes stand before the first `*/`
abbrev pub first_close : List ℕ → Option ℕ
first_close [] = None
first_close (b ∷ z) =
    if starts_with nat_eq (b ∷ z) (codes "*/") then Some 0 else option_map suc (first_close z)

-- the kind of a text's first n bytes, a name that is no word
abbrev pub name_kind : ℕ → List ℕ → Kind
name_kind n z =
    if is_ascii_uppercase (slice_index z 0) then k.Upper (take n z) else k.Lower (take n z)

abbrev pub word_piece : Option Word → ℕ → List ℕ → Piece
word_piece (Some word) n z = Lexeme (k.Word word) n
word_piece None n z = Lexeme (name_kind n z) n

abbrev pub name_of_len : ℕ → List ℕ → Piece
name_of_len n z =
    if nat_le n name_limit then word_piece (spelled_word (take n z)) n z else Refused NameTooLong

-- what begins with a letter
unfoldable pub name_piece : List ℕ → Piece
name_piece z = name_of_len (prefix_len is_name_byte z) z

abbrev pub numbered_piece : ℕ → Option ℤ → Piece
numbered_piece n (Some v) = Lexeme (k.Number v) n
numbered_piece n None = Refused NumberTooLarge

abbrev pub number_of_len : ℕ → List ℕ → Piece
number_of_len n z = numbered_piece n (number_in_limit (spelled_value (take n z)))

-- what begins with a digit
unfoldable pub number_piece : List ℕ → Piece
number_piece z = number_of_len (prefix_len is_digit z) z

abbrev pub comment_piece : Option ℕ → Piece
comment_piece (Some n) = Gap (n + 4)
comment_piece None = Refused OpenComment

-- what begins with `/*`
unfoldable pub comment : List ℕ → Piece
comment z = comment_piece (first_close (drop 2 z))

abbrev pub symbol_piece : Option Symbol → Piece
symbol_piece (Some s) = Lexeme (k.Symbol s) (length (symbol_spelling s))
symbol_piece None = Refused BadByte

-- what begins otherwise
unfoldable pub symbol : List ℕ → Piece
symbol z = symbol_piece (longest_symbol z)

-- what a text that is not empty begins with
unfoldable pub first_piece : List ℕ → Piece
first_piece z =
    let b = slice_index z 0 in
    if is_blank b then Gap 1
    else (if is_ascii_alphabetic b then name_piece z
    else (if is_digit b then number_piece z
    else (if starts_with nat_eq z (codes "/*") then comment z
    else symbol z)))
