-- Laws of the words.
use Rattle.std.specs.Prelude.{◌≡◌, ◌≢◌, List, [], ◌∷◌, ℕ, true, false, Some, None, slice_index, codes}
use Rattle.std.specs.Str.{IsUtf8}
use Rattle.tp_words.specs.declared.mode.Mode.{Mode}
use Rattle.tp_words.specs.Options.{mode_text, needs_other, size_spelled}
use Rattle.tp_words.specs.Subject.{IsSubjectOf}
use Rattle.tp_words.specs.Words.{wanted_of}
use Rattle.tp_words.specs.Usual.{usual_wanted}

-- a mode that reads no second file, and the name of a file that doesn't begin with `-` (45), ask
-- for this mode of this file, as usual; of a drill the second word spells its size
abbrev pub TwoWordsAreEnough : Type 0
TwoWordsAreEnough =
    (mode : Mode) (file : List ℕ) → needs_other mode ≡ false → IsSubjectOf mode file
    → IsUtf8 file → slice_index file 0 ≢ 45
    → wanted_of (mode_text mode ∷ file ∷ []) ≡ Some (usual_wanted mode file)

-- with a mode that reads a second file they aren't accepted
abbrev pub CheckNeedsOther : Type 0
CheckNeedsOther =
    (mode : Mode) (file : List ℕ) → needs_other mode ≡ true → IsUtf8 file
    → slice_index file 0 ≢ 45 → wanted_of (mode_text mode ∷ file ∷ []) ≡ None

-- a drill isn't accepted with a word that spells no size
abbrev pub DrillNeedsSize : Type 0
DrillNeedsSize =
    (text : List ℕ) → size_spelled text ≡ None → IsUtf8 text → slice_index text 0 ≢ 45
    → wanted_of (codes "drill" ∷ text ∷ []) ≡ None
