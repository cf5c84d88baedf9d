-- What stands behind the name of a mode.
use Rattle.std.specs.Prelude.{◌≡◌, ℕ, List, Some}
use Rattle.std.specs.Int.{IsInRange}
use Rattle.tp_words.specs.declared.mode.Mode.{Mode}
use Rattle.tp_words.specs.declared.mode.Mode.TheVariants.{Run, Print, Convert, Check, Drill}
use Rattle.tp_words.specs.Options.{size_spelled, greatest_size}

-- the size of a drill is one that words can ask for
abbrev pub HasSize : Mode → Type 0
HasSize mode = (size : ℕ) → mode ≡ Drill size → IsInRange 1 greatest_size size

-- the word after the mode's name is the name of a file, or of a drill it spells the size
abbrev pub IsSubjectOf : Mode → List ℕ → Type 0
IsSubjectOf Run text = Unit {0}
IsSubjectOf Print text = Unit {0}
IsSubjectOf Convert text = Unit {0}
IsSubjectOf Check text = Unit {0}
IsSubjectOf (Drill size) text = size_spelled text ≡ Some size
