-- Sources from tokens, from left to right.
use Rattle.std.specs.Prelude.{◌≡◌, ◌≢◌, ◌<◌, ℕ, zero, suc, ◌-◌, if◌then◌else◌, List, [], ◌∷◌, ◌++◌, length, drop, map, Result, Ok, Err}
use Rattle.tp_lex.specs.declared.token.Word.TheVariants as word
use Rattle.tp_lex.specs.declared.token.Symbol.TheVariants as symbol
use Rattle.tp_tree.specs.declared.phrase.Definitions.{Definitions}
use Rattle.tp_tree.specs.Tree.{PhraseTree, DefinitionTree, SourceTree}
use Rattle.tp_tree.specs.declared.phrase.Source.{Source}
use Rattle.tp_tree.specs.Read.{definition_tree, source_tree}
use Rattle.tp_parse.specs.declared.mark.TokenMark.TheVariants as m
use Rattle.tp_parse.specs.declared.stop.Refusal.{Refusal}
use Rattle.tp_parse.specs.declared.stop.Refusal.TheVariants as r
use Rattle.tp_parse.specs.declared.refusal.ParseRefusal.{ParseRefusal}
use Rattle.tp_parse.specs.declared.refusal.ParseRefusal.TheVariants as named_at
use Rattle.tp_parse.specs.Marks.{Tokens, from}
use Rattle.tp_parse.specs.Readers.{ReadOutcome, TokenReader, ◌>>=◌, pure, refusal, sees, take, expect, lower, names}
use Rattle.tp_tree.specs.Levels.{chop_level}
use Rattle.tp_parse.specs.Grammar.{limit, defined, source_of}
use Rattle.tp_parse.specs.Reading.{read}

abbrev pub definition_trees : Definitions → List DefinitionTree
definition_trees ds = map definition_tree ds.items.items

-- a phrase and the `.` after it
unfoldable pub sentence : TokenReader PhraseTree
sentence = do
  a ← read limit chop_level
  _stop ← expect (m.Symbol symbol.Stop)
  pure a.tree

-- the parameters of a definition and the `)` after them
unfoldable pub parameters : TokenReader (List (List ℕ))
parameters = λ ts. if sees (m.Symbol symbol.CloseRound) ts then Ok ([], drop 1 ts) else (do
  xs ← names
  _close ← expect (m.Symbol symbol.CloseRound)
  pure xs) ts

unfoldable pub definition : TokenReader DefinitionTree
definition = λ ts. (do
  _word ← take
  x ← lower
  _open ← expect (m.Symbol symbol.OpenRound)
  xs ← parameters
  _equal ← expect (m.Symbol symbol.Equal)
  body ← sentence
  pure (defined x (from ts) xs body)) ts

-- after the definitions that were read
unfoldable pub definitions_from : ℕ → List DefinitionTree → TokenReader (List DefinitionTree)
definitions_from zero ds = pure ds
definitions_from (suc n) ds = λ ts. if sees (m.Word word.Define) ts then (do
  d ← definition
  definitions_from n (ds ++ d ∷ [])) ts else pure ds ts

unfoldable pub definitions : TokenReader (List DefinitionTree)
definitions = λ ts. definitions_from (length ts) [] ts

-- nothing is left
unfoldable pub ended : SourceTree → TokenReader SourceTree
ended s [] = Ok (s, [])
ended s (t ∷ ts) = Err (refusal (t ∷ ts))

unfoldable pub source : TokenReader SourceTree
source = do
  ds ← definitions
  _run ← expect (m.Word word.Run)
  main ← sentence
  ended (source_of ds main)

-- the refusal with the token's number from the front
abbrev pub named : ℕ → Refusal → ParseRefusal
named count (r.Unexpected left) = named_at.Unexpected (count - left)
named count r.Unfinished = named_at.Unfinished
named count (r.TooDeep left) = named_at.TooDeep (count - left)
named count r.NoMemory = named_at.NoMemory

-- the source that the tokens are, or why they are none
abbrev pub outcome_by : ℕ → ReadOutcome SourceTree → Result SourceTree ParseRefusal
outcome_by count (Ok s) = Ok s.0
outcome_by count (Err e) = Err (named count e)

abbrev pub parse_outcome : Tokens → Result SourceTree ParseRefusal
parse_outcome ts = outcome_by (length ts) (source ts)

-- What a function returned, seen as its tree, is the outcome, unless memory ran out.
abbrev pub IsOutcome : Result SourceTree ParseRefusal → Result Source ParseRefusal → Type 0
IsOutcome outcome (Ok s) = outcome ≡ Ok (source_tree s)
IsOutcome outcome (Err e) = e ≢ named_at.NoMemory → outcome ≡ Err e

-- a refusal names one of so many tokens, if it names any
abbrev pub NamesToken : ℕ → ParseRefusal → Type 0
NamesToken n (named_at.Unexpected i) = i < n
NamesToken n (named_at.TooDeep i) = i < n
NamesToken n named_at.Unfinished = Unit {0}
NamesToken n named_at.NoMemory = Unit {0}
