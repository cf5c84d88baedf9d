-- A text has exactly one reading, and its names have their case.
use Rattle.std.specs.Prelude.{◌≡◌, ℕ, ◌≤◌, true, List, [], ◌∷◌, length, slice_index}
use Rattle.std.specs.Char.{is_ascii_uppercase, is_ascii_lowercase}
use Rattle.tp_lex.specs.declared.token.Kind.{Kind}
use Rattle.tp_lex.specs.declared.token.Kind.TheVariants.{Upper, Lower}
use Rattle.tp_lex.specs.declared.token.Token.{Token}
use Rattle.tp_lex.specs.declared.refusal.LexRefusal.{LexRefusal}
use Rattle.tp_lex.specs.Tokens.{ReadingEnd, ReadsTokens, AreTokens, IsRefused}
use Rattle.tp_lex.specs.Place.{place_of}

-- each text is some tokens, or is refused
abbrev pub EachTextIsRead : Type 0
EachTextIsRead =
    (bytes : List ℕ) → (ts : List Token) × (end : ReadingEnd) × ReadsTokens bytes 0 ts end

abbrev pub OneTokenList : Type 0
OneTokenList =
    (bytes : List ℕ) (ts us : List Token) → AreTokens bytes ts → AreTokens bytes us → ts ≡ us

abbrev pub OneRefusal : Type 0
OneRefusal = (bytes : List ℕ) (e f : LexRefusal) → IsRefused bytes e → IsRefused bytes f → e ≡ f

-- a text that is refused has no tokens
abbrev pub NeverBoth : Type 0
NeverBoth =
    (bytes : List ℕ) (ts : List Token) (e : LexRefusal) → AreTokens bytes ts → ¬ IsRefused bytes e

-- as many bytes stand before a place as it says
abbrev pub PlacesCount : Type 0
PlacesCount = (bytes : List ℕ) (at : ℕ) → at ≤ length bytes → (place_of bytes at).at ≡ at

-- a name begins with a letter of its kind
abbrev pub HasItsCase : Kind → Type 0
HasItsCase (Upper name) = is_ascii_uppercase (slice_index name 0) ≡ true
HasItsCase (Lower name) = is_ascii_lowercase (slice_index name 0) ≡ true
HasItsCase kind = Unit {0}

abbrev pub HaveTheirCase : List Token → Type 0
HaveTheirCase [] = Unit {0}
HaveTheirCase (t ∷ ts) = HasItsCase t.kind × HaveTheirCase ts

abbrev pub NamesHaveTheirCase : Type 0
NamesHaveTheirCase = (bytes : List ℕ) (ts : List Token) → AreTokens bytes ts → HaveTheirCase ts
