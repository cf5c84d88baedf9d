-- The files that a call reads, and what it appends to a sink.
use Rattle.std.specs.Prelude.{◌≡◌, ℕ, List, ◌++◌, Option, ◌⊎◌, [], ◌∷◌, None, Some}
use Rattle.std.specs.Option.{option_map}
use Rattle.tp_words.specs.declared.mode.Mode.{Mode}
use Rattle.tp_words.specs.declared.mode.Mode.TheVariants.{Run, Print, Convert, Check, Drill}
use Rattle.tp_words.specs.Words.{Wanted, wanted_of}
use Rattle.tp_call.specs.declared.status.Which.{Which}
use Rattle.tp_call.specs.declared.status.Which.TheVariants.{Source, Inputs, Other}

-- the bytes were appended, where the bytes are told
abbrev pub Wrote : Option (List ℕ) → Option (List ℕ) → List ℕ → Type 0
Wrote old new bytes = new ≡ option_map (λ before. before ++ bytes) old

-- a file that is read, and the name that the words give it
pub record NamedFile : Type 0 where
  pub which : Which
  pub name : List ℕ

abbrev pub file_named : Which → List ℕ → NamedFile
file_named which name = record { which = which; name = name }

-- none where the words name none
abbrev pub files_named : Which → Option (List ℕ) → List NamedFile
files_named which None = []
files_named which (Some name) = file_named which name ∷ []

-- The files that a mode reads, in order: to run, the source, and then the inputs where they are
-- named; to print, the source; to convert, the inputs; to check, the source, and then the other
-- file; to drill, none.
abbrev pub files_read : Mode → Wanted → List NamedFile
files_read Run wanted = file_named Source wanted.file ∷ files_named Inputs wanted.inputs
files_read Print wanted = file_named Source wanted.file ∷ []
files_read Convert wanted = file_named Inputs wanted.file ∷ []
files_read Check wanted = file_named Source wanted.file ∷ files_named Other wanted.other
files_read (Drill size) wanted = []

-- those of the mode that words ask for; of words that are refused, none
abbrev pub files_wanted : Option Wanted → List NamedFile
files_wanted None = []
files_wanted (Some wanted) = files_read wanted.mode wanted

abbrev pub files_of : List (List ℕ) → List NamedFile
files_of words = files_wanted (wanted_of words)

-- this file is among these, and its name has P; each one before it has Q
abbrev pub IsFoundIn : (which : Which) (Q : NamedFile → Type 0) (P : List ℕ → Type 0)
    → List NamedFile → Type 0
IsFoundIn which Q P [] = ⊥
IsFoundIn which Q P (file ∷ files) =
    ((file.which ≡ which) × P file.name) ⊎ (Q file × IsFoundIn which Q P files)
