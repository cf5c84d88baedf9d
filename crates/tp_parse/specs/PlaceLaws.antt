-- Laws of the place that a refusal names.
use Rattle.std.specs.Prelude.{◌≡◌, ◌≢◌, ◌<◌, ℕ, List, length, take}
use Rattle.tp_lex.specs.Tokens.{AreTokens}
use Rattle.tp_tree.specs.Tree.{SourceTree}
use Rattle.tp_parse.specs.declared.refusal.ParseRefusal.{ParseRefusal}
use Rattle.tp_parse.specs.declared.refusal.ParseRefusal.TheVariants.{Unfinished, NoMemory}
use Rattle.tp_parse.specs.Marks.{Tokens}
use Rattle.tp_parse.specs.Grammar.{Accepts}
use Rattle.tp_parse.specs.Place.{BlamesFirst, BlamesFirstInText}

-- whichever text has the tokens
abbrev pub BlamesFirstInEachText : Tokens → ParseRefusal → Type 0
BlamesFirstInEachText ts e = (bytes : List ℕ) → AreTokens bytes ts → BlamesFirstInText bytes ts e

-- tokens have one such place
abbrev pub OnePlace : Type 0
OnePlace =
    (ts : Tokens) (e f : ParseRefusal) → e ≢ NoMemory → f ≢ NoMemory
    → BlamesFirst ts e → BlamesFirst ts f → e ≡ f

-- an accepted source that is cut after fewer tokens than it has is unfinished
abbrev pub PrefixesAreUnfinished : Type 0
PrefixesAreUnfinished =
    (ts : Tokens) (s : SourceTree) (n : ℕ) → Accepts ts s → n < length ts
    → BlamesFirst (take n ts) Unfinished
