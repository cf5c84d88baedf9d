-- The tokens of a text, or its first fault: read from the front, piece by piece.
use Rattle.std.specs.Prelude.{◌≡◌, ℕ, ◌+◌, List, [], ◌∷◌, length, drop}
use Rattle.tp_lex.specs.declared.token.Token.{Token}
use Rattle.tp_lex.specs.declared.token.Kind.{Kind}
use Rattle.tp_lex.specs.declared.piece.Fault.{Fault}
use Rattle.tp_lex.specs.declared.piece.Fault.TheVariants.{BadByte, OpenComment, NumberTooLarge, NameTooLong}
use Rattle.tp_lex.specs.declared.piece.Piece.TheVariants.{Gap, Lexeme, Refused}
use Rattle.tp_lex.specs.declared.refusal.LexRefusal.{LexRefusal}
use Rattle.tp_lex.specs.declared.refusal.LexRefusal.TheVariants as r
use Rattle.tp_lex.specs.Pieces.{BeginsPiece}
use Rattle.tp_lex.specs.Place.{place_of, token_at}

-- the refusal that names the fault, and the byte where it stands
abbrev pub refusal_at : Fault → ℕ → LexRefusal
refusal_at BadByte at = r.BadByte at
refusal_at OpenComment at = r.OpenComment at
refusal_at NumberTooLarge at = r.NumberTooLarge at
refusal_at NameTooLong at = r.NameTooLong at

-- how a reading ends: with the whole text, or at a fault
pub data ReadingEnd : Type 0 where
  Whole : ReadingEnd
  Fails : LexRefusal → ReadingEnd

-- From the byte `at` on, the text reads as these tokens and ends so.
pub data ReadsTokens (bytes : List ℕ) : ℕ → List Token → ReadingEnd → Type 0 where
  whole : {at : ℕ} → at ≡ length bytes → ReadsTokens bytes at [] Whole
  gap : {at n : ℕ} {ts : List Token} {end : ReadingEnd} → BeginsPiece (drop at bytes) (Gap n)
      → ReadsTokens bytes (at + n) ts end → ReadsTokens bytes at ts end
  lexeme : {at n : ℕ} {kind : Kind} {ts : List Token} {end : ReadingEnd}
      → BeginsPiece (drop at bytes) (Lexeme kind n) → ReadsTokens bytes (at + n) ts end
      → ReadsTokens bytes at (token_at kind n (place_of bytes at) ∷ ts) end
  fails : {at : ℕ} {fault : Fault} → BeginsPiece (drop at bytes) (Refused fault)
      → ReadsTokens bytes at [] (Fails (refusal_at fault at))

-- the text is these tokens
abbrev pub AreTokens : List ℕ → List Token → Type 0
AreTokens bytes ts = ReadsTokens bytes 0 ts Whole

-- the text has this as its first fault
abbrev pub IsRefused : List ℕ → LexRefusal → Type 0
IsRefused bytes refusal = (ts : List Token) × ReadsTokens bytes 0 ts (Fails refusal)

-- what was answered, unless memory ran out
abbrev pub IsRefusedUnlessMemory : List ℕ → LexRefusal → Type 0
IsRefusedUnlessMemory bytes r.NoMemory = Unit {0}
IsRefusedUnlessMemory bytes refusal = IsRefused bytes refusal
