-- The place that a refusal names: the first token after which no accepted source goes on.
use Rattle.std.specs.Prelude.{◌≡◌, ◌+◌, ◌<◌, ℕ, List, ◌++◌, length, take, slice_get, Some}
use Rattle.tp_lex.specs.declared.token.Token.{Token}
use Rattle.tp_lex.specs.Tokens.{AreTokens}
use Rattle.tp_tree.specs.Tree.{SourceTree}
use Rattle.tp_parse.specs.declared.refusal.ParseRefusal.{ParseRefusal}
use Rattle.tp_parse.specs.declared.refusal.ParseRefusal.TheVariants.{Unexpected, Unfinished, TooDeep, NoMemory}
use Rattle.tp_parse.specs.Marks.{Tokens}
use Rattle.tp_parse.specs.Grammar.{IsSource, Accepts}

-- some accepted source begins with the tokens
abbrev pub GoesOn : Tokens → Type 0
GoesOn ts = (more : Tokens) × (s : SourceTree) × Accepts (ts ++ more) s

-- and so does some source of the grammar, however high its phrases
abbrev pub GoesOnHigher : Tokens → Type 0
GoesOnHigher ts = (more : Tokens) × (s : SourceTree) × (height : ℕ) × IsSource (ts ++ more) s height

-- Some accepted source begins with the tokens before the named one, and none with it too; none of
-- any height where it is unexpected, and some higher one where it is too deep. Where the tokens are
-- unfinished, all of them begin an accepted source and are none.
abbrev pub BlamesFirst : Tokens → ParseRefusal → Type 0
BlamesFirst ts (Unexpected i) =
    (i < length ts) × GoesOn (take i ts) × ¬ GoesOnHigher (take (i + 1) ts)
BlamesFirst ts (TooDeep i) =
    (i < length ts) × GoesOn (take i ts) × ¬ GoesOn (take (i + 1) ts)
    × GoesOnHigher (take (i + 1) ts)
BlamesFirst ts Unfinished = GoesOn ts × ((s : SourceTree) → ¬ Accepts ts s)
BlamesFirst ts NoMemory = Unit {0}

-- Some text, however long, begins with so many of the bytes and with the tokens, as they stand
-- there, and is an accepted source.
abbrev pub GoesOnInText : List ℕ → ℕ → Tokens → Type 0
GoesOnInText bytes count ts =
    (more : List ℕ) × (us : Tokens) × (s : SourceTree)
    × AreTokens (take count bytes ++ more) (ts ++ us) × Accepts (ts ++ us) s

-- and one that is a source of the grammar, however high its phrases
abbrev pub GoesOnHigherInText : List ℕ → ℕ → Tokens → Type 0
GoesOnHigherInText bytes count ts =
    (more : List ℕ) × (us : Tokens) × (s : SourceTree) × (height : ℕ)
    × AreTokens (take count bytes ++ more) (ts ++ us) × IsSource (ts ++ us) s height

-- The same of bytes: some accepted text begins with those before the named token, and none begins
-- with those of that token too and has the token. Where the tokens are unfinished, some begins with
-- all of the bytes.
abbrev pub BlamesFirstInText : List ℕ → Tokens → ParseRefusal → Type 0
BlamesFirstInText bytes ts (Unexpected i) =
    (t : Token) × (slice_get ts i ≡ Some t) × GoesOnInText bytes t.from (take i ts)
    × ¬ GoesOnHigherInText bytes t.to (take (i + 1) ts)
BlamesFirstInText bytes ts (TooDeep i) =
    (t : Token) × (slice_get ts i ≡ Some t) × GoesOnInText bytes t.from (take i ts)
    × ¬ GoesOnInText bytes t.to (take (i + 1) ts) × GoesOnHigherInText bytes t.to (take (i + 1) ts)
BlamesFirstInText bytes ts Unfinished =
    GoesOnInText bytes (length bytes) ts × ((s : SourceTree) → ¬ Accepts ts s)
BlamesFirstInText bytes ts NoMemory = Unit {0}
