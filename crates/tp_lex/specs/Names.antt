-- The names among the tokens of a text.
use Rattle.std.specs.Prelude.{ℕ, List, [], ◌∷◌, ◌++◌, length, All}
use Rattle.tp_lex.specs.declared.token.Kind.{Kind}
use Rattle.tp_lex.specs.declared.token.Kind.TheVariants as k
use Rattle.tp_lex.specs.declared.token.Token.{Token}
use Rattle.tp_lex.specs.Pieces.{IsName}
use Rattle.tp_lex.specs.Tokens.{AreTokens}

-- the text of a token that is a name
abbrev pub own_names : Kind → List (List ℕ)
own_names (k.Upper x) = x ∷ []
own_names (k.Lower x) = x ∷ []
own_names (k.Number n) = []
own_names (k.Word w) = []
own_names (k.Symbol s) = []

-- the texts of the tokens that are names, in order
abbrev pub token_names : List Token → List (List ℕ)
token_names [] = []
token_names (t ∷ ts) = own_names t.kind ++ token_names ts

-- the whole text is a letter, and then letters, digits and `_`
abbrev pub IsNameText : List ℕ → Type 0
IsNameText x = IsName x (length x)

-- each name among the tokens of a text is spelled so
abbrev pub NamesAreSpelled : Type 0
NamesAreSpelled =
    (bytes : List ℕ) (ts : List Token) → AreTokens bytes ts → All IsNameText (token_names ts)
