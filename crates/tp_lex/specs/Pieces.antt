-- What a text begins with: a blank, a comment, a token or a fault.
use Rattle.std.specs.Prelude.{◌≡◌, ◌≢◌, ℕ, pos, ◌+◌, ◌<◌, ◌≤◌, true, false, List, ◌++◌, length, take, drop, slice_index, codes}
use Rattle.std.specs.List.{prefix_len}
use Rattle.std.specs.Char.{is_ascii_alphabetic, is_ascii_uppercase}
use Rattle.tp_value.specs.Number.{number_limit}
use Rattle.tp_lex.specs.declared.token.Word.{Word}
use Rattle.tp_lex.specs.declared.token.Symbol.{Symbol}
use Rattle.tp_lex.specs.declared.token.Kind.TheVariants as k
use Rattle.tp_lex.specs.declared.piece.Fault.TheVariants.{BadByte, OpenComment, NumberTooLarge, NameTooLong}
use Rattle.tp_lex.specs.declared.piece.Piece.{Piece}
use Rattle.tp_lex.specs.declared.piece.Piece.TheVariants.{Gap, Lexeme, Refused}
use Rattle.tp_lex.specs.Spelling.{word_spelling, symbol_spelling}
use Rattle.tp_lex.specs.Bytes.{is_blank, is_name_byte, is_digit, spelled_value, name_limit}

-- the text begins with these bytes
abbrev pub BeginsWith : List ℕ → List ℕ → Type 0
BeginsWith z front = (rest : List ℕ) × (z ≡ front ++ rest)

-- a comment opens
abbrev pub Opens : List ℕ → Type 0
Opens z = BeginsWith z (codes "/*")

-- behind so many bytes a comment closes
abbrev pub ClosesAt : List ℕ → ℕ → Type 0
ClosesAt z n = BeginsWith (drop n z) (codes "*/")

-- as many bytes as possible that are a letter, and then letters, digits and `_`
pub record IsName (z : List ℕ) (n : ℕ) : Type 0 where
  pub letter : is_ascii_alphabetic (slice_index z 0) ≡ true
  pub longest : n ≡ prefix_len is_name_byte z

-- the bytes are no word
abbrev pub IsNoWord : List ℕ → Type 0
IsNoWord text = (w : Word) → text ≢ word_spelling w

-- as many digits as possible, and at least one
pub record AreLeadingDigits (z : List ℕ) (n : ℕ) : Type 0 where
  pub digit : is_digit (slice_index z 0) ≡ true
  pub longest : n ≡ prefix_len is_digit z

-- the longest symbol that the text begins with
pub record IsLongestSymbol (z : List ℕ) (s : Symbol) : Type 0 where
  pub stands : BeginsWith z (symbol_spelling s)
  pub longest : (other : Symbol) → BeginsWith z (symbol_spelling other)
      → length (symbol_spelling other) ≤ length (symbol_spelling s)

-- the first byte begins nothing
pub record IsBad (z : List ℕ) : Type 0 where
  pub some : 0 < length z
  pub no_blank : is_blank (slice_index z 0) ≡ false
  pub no_letter : is_ascii_alphabetic (slice_index z 0) ≡ false
  pub no_digit : is_digit (slice_index z 0) ≡ false
  pub no_comment : ¬ Opens z
  pub no_symbol : (s : Symbol) → ¬ BeginsWith z (symbol_spelling s)

pub data BeginsPiece : List ℕ → Piece → Type 0 where
  blank : {z : List ℕ} → is_blank (slice_index z 0) ≡ true → BeginsPiece z (Gap 1)
  comment : {z : List ℕ} {n : ℕ} → Opens z → ClosesAt (drop 2 z) n
      → ((m : ℕ) → m < n → ¬ ClosesAt (drop 2 z) m) → BeginsPiece z (Gap (n + 4))
  word : {z : List ℕ} {n : ℕ} {w : Word} → IsName z n → take n z ≡ word_spelling w
      → BeginsPiece z (Lexeme (k.Word w) n)
  upper : {z : List ℕ} {n : ℕ} → IsName z n → n ≤ name_limit → IsNoWord (take n z)
      → is_ascii_uppercase (slice_index z 0) ≡ true → BeginsPiece z (Lexeme (k.Upper (take n z)) n)
  lower : {z : List ℕ} {n : ℕ} → IsName z n → n ≤ name_limit → IsNoWord (take n z)
      → is_ascii_uppercase (slice_index z 0) ≡ false → BeginsPiece z (Lexeme (k.Lower (take n z)) n)
  number : {z : List ℕ} {n : ℕ} → AreLeadingDigits z n → spelled_value (take n z) ≤ number_limit
      → BeginsPiece z (Lexeme (k.Number (pos (spelled_value (take n z)))) n)
  symbol : {z : List ℕ} {s : Symbol} → IsLongestSymbol z s
      → BeginsPiece z (Lexeme (k.Symbol s) (length (symbol_spelling s)))
  bad_byte : {z : List ℕ} → IsBad z → BeginsPiece z (Refused BadByte)
  open_comment : {z : List ℕ} → Opens z → ((n : ℕ) → ¬ ClosesAt (drop 2 z) n)
      → BeginsPiece z (Refused OpenComment)
  large_number : {z : List ℕ} {n : ℕ} → AreLeadingDigits z n
      → number_limit < spelled_value (take n z) → BeginsPiece z (Refused NumberTooLarge)
  long_name : {z : List ℕ} {n : ℕ} → IsName z n → name_limit < n
      → BeginsPiece z (Refused NameTooLong)
