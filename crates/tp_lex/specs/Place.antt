-- Where a byte of a text stands.
use Rattle.std.specs.Prelude.{ℕ, ◌+◌, ◌==◌, if◌then◌else◌, List, take, fold}
use Rattle.tp_lex.specs.declared.token.TextPlace.{TextPlace}
use Rattle.tp_lex.specs.declared.token.Kind.{Kind}
use Rattle.tp_lex.specs.declared.token.Token.{Token}

-- the greatest length of a source, in bytes
abbrev pub source_limit : ℕ
source_limit = 1048576

-- where a text begins
abbrev pub text_start : TextPlace
text_start = record { at = 0; line = 1; column = 1 }

-- the place behind one more byte: a line feed ends its line
abbrev pub place_after : TextPlace → ℕ → TextPlace
place_after p byte =
    if byte == 10 then record { at = p.at + 1; line = p.line + 1; column = 1 }
    else record { at = p.at + 1; line = p.line; column = p.column + 1 }

-- the place behind some more bytes
abbrev pub place_from : TextPlace → List ℕ → TextPlace
place_from p bytes = fold place_after p bytes

-- the place of a byte of the text
abbrev pub place_of : List ℕ → ℕ → TextPlace
place_of bytes at = place_from text_start (take at bytes)

-- the token of so many bytes that begins at the place
abbrev pub token_at : Kind → ℕ → TextPlace → Token
token_at kind n p =
    record { kind = kind; from = p.at; to = p.at + n; line = p.line; column = p.column }
