-- The canonical spelling of a source that was read from a text is a text that is read back as the
-- source.
use Rattle.std.specs.Prelude.{Result, Ok, Err, ◌≢◌, ◌<◌, ◌≡◌, ℕ, ℤ, pos, ◌≤◌, false, List, [], ◌∷◌, length, slice_index}
use Rattle.std.specs.Char.{is_ascii_uppercase}
use Rattle.tp_value.specs.Number.{number_limit}
use Rattle.tp_lex.specs.declared.token.Token.{Token}
use Rattle.tp_lex.specs.Bytes.{name_limit}
use Rattle.tp_lex.specs.Pieces.{IsNoWord}
use Rattle.tp_lex.specs.Names.{IsNameText}
use Rattle.tp_lex.specs.Tokens.{AreTokens}
use Rattle.tp_tree.specs.Tree.{PhraseTree, phrase, KindTree, number, truth, name, list, size, index, minus, next, negation, binary, conjunction, choice, choice_else, while, repeat, for, forall, exists, bare, form, call, PhraseTrees, no_phrase, phrase_then, DefinitionTree, SourceTree}
use Rattle.tp_tree.specs.Spelling.{source_spelling}
use Rattle.tp_tree.specs.Places.{IsSameUpToPlaces}
use Rattle.tp_parse.specs.Marks.{Tokens}
use Rattle.tp_tree.specs.declared.phrase.Source.{Source}
use Rattle.tp_tree.specs.Read.{source_tree}
use Rattle.tp_parse.specs.declared.refusal.ParseRefusal.{ParseRefusal}
use Rattle.tp_parse.specs.declared.refusal.ParseRefusal.TheVariants.{NoMemory}
use Rattle.tp_parse.specs.Grammar.{limit, IsSource, Accepts}
use Rattle.tp_parse.specs.Spelled.{token_kinds, source_kinds, IsWholeSource, ReadsBack}

-- the text is a name
pub record IsVariableText (x : List ℕ) : Type 0 where
  pub spelled : IsNameText x
  pub short : length x ≤ name_limit
  pub no_word : IsNoWord x

-- a name that begins with a lower-case letter
pub record IsLowerText (x : List ℕ) : Type 0 where
  pub variable : IsVariableText x
  pub lower : is_ascii_uppercase (slice_index x 0) ≡ false

-- the number is within the limit, and not negative
abbrev pub IsNumeral : ℤ → Type 0
IsNumeral n = (i : ℕ) × (n ≡ pos i) × (i ≤ number_limit)

abbrev pub AreVariableTexts : List (List ℕ) → Type 0
AreVariableTexts [] = Unit {0}
AreVariableTexts (x ∷ xs) = IsVariableText x × AreVariableTexts xs

-- each name and number in the phrase may stand in a text
abbrev mutual
  pub IsSpellable : PhraseTree → Type 0
  IsSpellable (phrase at k) = IsSpellableKind k

  pub IsSpellableKind : KindTree → Type 0
  IsSpellableKind (number n) = IsNumeral n
  IsSpellableKind (truth b) = Unit {0}
  IsSpellableKind (name x) = IsVariableText x
  IsSpellableKind (list ps) = AreSpellable ps
  IsSpellableKind (size p) = IsSpellable p
  IsSpellableKind (index p q) = IsSpellable p × IsSpellable q
  IsSpellableKind (minus p) = IsSpellable p
  IsSpellableKind (next p) = IsSpellable p
  IsSpellableKind (negation p) = IsSpellable p
  IsSpellableKind (binary o p q) = IsSpellable p × IsSpellable q
  IsSpellableKind (conjunction ps) = AreSpellable ps
  IsSpellableKind (choice b p) = IsSpellable b × IsSpellable p
  IsSpellableKind (choice_else b p q) = IsSpellable b × IsSpellable p × IsSpellable q
  IsSpellableKind (while b p) = IsSpellable b × IsSpellable p
  IsSpellableKind (repeat p b) = IsSpellable p × IsSpellable b
  IsSpellableKind (for x e p) = IsLowerText x × IsSpellable e × IsSpellable p
  IsSpellableKind (forall x e p) = IsLowerText x × IsSpellable e × IsSpellable p
  IsSpellableKind (exists xs p) = AreVariableTexts xs × IsSpellable p
  IsSpellableKind (bare w) = Unit {0}
  IsSpellableKind (form f ps) = AreSpellable ps
  IsSpellableKind (call x ps) = IsLowerText x × AreSpellable ps

  pub AreSpellable : PhraseTrees → Type 0
  AreSpellable no_phrase = Unit {0}
  AreSpellable (phrase_then p ps) = IsSpellable p × AreSpellable ps

abbrev pub IsSpellableDefinition : DefinitionTree → Type 0
IsSpellableDefinition d = IsLowerText d.name × AreVariableTexts d.parameters × IsSpellable d.body

abbrev pub AreSpellableDefinitions : List DefinitionTree → Type 0
AreSpellableDefinitions [] = Unit {0}
AreSpellableDefinitions (d ∷ ds) = IsSpellableDefinition d × AreSpellableDefinitions ds

abbrev pub IsSpellableSource : SourceTree → Type 0
IsSpellableSource s = AreSpellableDefinitions s.definitions × IsSpellable s.main

-- a source of a text has names and numbers that may stand in one
abbrev pub SourcesAreSpellable : Type 0
SourcesAreSpellable =
    (bytes : List ℕ) (ts : Tokens) (s : SourceTree) → AreTokens bytes ts → Accepts ts s
    → IsSpellableSource s

-- the tokens of the canonical spelling
abbrev pub SpellingsHaveTheirTokens : Type 0
SpellingsHaveTheirTokens =
    (s : SourceTree) → IsWholeSource s → IsSpellableSource s
    → (us : List Token) × (AreTokens (source_spelling s) us) × (token_kinds us ≡ source_kinds s)

-- A source is read from its canonical spelling, up to places.
abbrev pub PrintedIsReadBack : Type 0
PrintedIsReadBack =
    (bytes : List ℕ) (ts : Tokens) (s : SourceTree) → AreTokens bytes ts → Accepts ts s
    → (us : List Token) × (AreTokens (source_spelling s) us) × ReadsBack us s

-- Sources that are the same up to places have one spelling, so to print twice is to print once.
abbrev pub OneSpelling : Type 0
OneSpelling = (s t : SourceTree) → IsSameUpToPlaces s t → source_spelling s ≡ source_spelling t

-- What is answered for the tokens of a source's spelling: the source, up to places, unless some
-- phrase is too high with its parentheses, or memory ran out.
abbrev pub AnswersPrinted : Tokens → SourceTree → Result Source ParseRefusal → Type 0
AnswersPrinted us s (Ok x) = IsSameUpToPlaces (source_tree x) s
AnswersPrinted us s (Err e) =
    e ≢ NoMemory → (t : SourceTree) × (height : ℕ) × IsSource us t height × (limit < height)

-- where the tokens are those of the spelling of a source that was read from a text
abbrev pub ParsesPrinted : Tokens → Result Source ParseRefusal → Type 0
ParsesPrinted us result =
    (bytes : List ℕ) (ts : Tokens) (s : SourceTree) → AreTokens bytes ts → Accepts ts s
    → AreTokens (source_spelling s) us → AnswersPrinted us s result
