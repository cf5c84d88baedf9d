-- Which word a text spells, and which symbol it begins with.
use Rattle.std.specs.Prelude.{ℕ, Bool, List, length, nat_eq, bytes_eq, Option, find}
use Rattle.std.specs.List.{starts_with}
use Rattle.tp_lex.specs.declared.token.Word.{Word}
use Rattle.tp_lex.specs.declared.token.Symbol.{Symbol}
use Rattle.tp_lex.specs.declared.spelling.TheConstants.{WORDS, SYMBOLS}
use Rattle.tp_lex.specs.Spelling.{word_spelling, symbol_spelling}

-- the word has so many letters
abbrev pub has_letters : ℕ → Word → Bool
has_letters n word = nat_eq (length (word_spelling word)) n

-- the word that the text spells
unfoldable pub spelled_word : List ℕ → Option Word
spelled_word text = find (λ w. bytes_eq (word_spelling w) text) WORDS

-- the first of the symbols, longer ones before shorter ones, that the text begins with
unfoldable pub longest_symbol : List ℕ → Option Symbol
longest_symbol text = find (λ s. starts_with nat_eq text (symbol_spelling s)) SYMBOLS
