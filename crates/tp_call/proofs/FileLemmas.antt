-- Which file is found among those that a mode reads.
use Rattle.std.proofs.Common.{◌≡◌, ◌⊎◌, inl, inr, ℕ, List, ◌∷◌, Option, None, Some, refl, sym, ap, ◌∙◌, subst}
use Rattle.tp_io.specs.Held.{Held, bytes_of}
use Rattle.tp_words.specs.declared.mode.Mode.{Mode}
use Rattle.tp_words.specs.declared.mode.Mode.TheVariants.{Run, Print, Convert, Check, Drill}
use Rattle.tp_words.specs.Words.{Wanted, wanted_of}
use Rattle.tp_call.specs.declared.status.Which.{Which}
use Rattle.tp_call.specs.declared.status.Which.TheVariants.{Source, Inputs, Other}
use Rattle.tp_call.specs.Files.{NamedFile, file_named, files_named, files_read, IsFoundIn}
use Rattle.tp_call.specs.Answer.{WhereTold, AsTold, Serves, ReadsFile}

-- what is told is told of each value that is told
pub where_told : {X : Type 0} (told : Option X) (P : X → Type 0) → AsTold told P → WhereTold told P
where_told told P (x, is, p) y same = let equal : x ≡ y = (let both : Some x ≡ Some y = sym is ∙ same in cc) in subst P equal p

-- the list of a mode, by another name of the mode
pub reads_by : (wanted : Wanted) (mode : Mode) (files : List NamedFile) → wanted.mode ≡ mode → files_read mode wanted ≡ files → files_read wanted.mode wanted ≡ files
reads_by wanted mode files is reads = ap (λ (m : Mode). files_read m wanted) is ∙ reads

module _ (words : List (List ℕ)) (Tells : (Held → Type 0) → Type 0) (P : Mode → List ℕ → Type 0) (wanted : Wanted) (accepted : wanted_of words ≡ Some wanted) where
  abbrev TellsServes : NamedFile → Type 0
  TellsServes file = Tells (λ files. Serves wanted.mode file.which (bytes_of files file.name))

  abbrev TellsOf : List ℕ → Type 0
  TellsOf name = Tells (λ files. P wanted.mode (bytes_of files name))

  -- the first file that the mode reads
  pub reads_first : (which : Which) (name : List ℕ) (rest : List NamedFile) → files_read wanted.mode wanted ≡ file_named which name ∷ rest → TellsOf name → ReadsFile words Tells which P
  reads_first which name rest reads has = record { wanted = wanted; accepted = accepted; found = subst (IsFoundIn which TellsServes TellsOf) (sym reads) (inl (refl, has)) }

  -- the second one, where the first serves it
  pub reads_second : (first which : Which) (before name : List ℕ) (rest : List NamedFile) → files_read wanted.mode wanted ≡ file_named first before ∷ file_named which name ∷ rest → TellsServes (file_named first before) → TellsOf name
      → ReadsFile words Tells which P
  reads_second first which before name rest reads serves has = record { wanted = wanted; accepted = accepted; found = subst (IsFoundIn which TellsServes TellsOf) (sym reads) (inr (serves, inl (refl, has))) }

-- among files of one kind there is none of another
none_there : (mine which : Which) → (which ≡ mine → ⊥) → (names : Option (List ℕ)) (Q : NamedFile → Type 0) (P : List ℕ → Type 0) → IsFoundIn mine Q P (files_named which names) → ⊥
none_there mine which apart None Q P found = found
none_there mine which apart (Some name) Q P (inl (is, p)) = apart is
none_there mine which apart (Some name) Q P (inr (q, found)) = found

-- the source that a mode reads is the file of the words
source_found : (mode : Mode) (wanted : Wanted) (Q : NamedFile → Type 0) (P : List ℕ → Type 0) → IsFoundIn Source Q P (files_read mode wanted) → P wanted.file
source_found Run wanted Q P (inl (is, p)) = p
source_found Run wanted Q P (inr (q, found)) = absurd (none_there Source Inputs (λ e. cc (e)) wanted.inputs Q P found)
source_found Print wanted Q P (inl (is, p)) = p
source_found Print wanted Q P (inr (q, found)) = absurd found
source_found Convert wanted Q P (inl (is, p)) = absurd (cc (is))
source_found Convert wanted Q P (inr (q, found)) = absurd found
source_found (Drill size) wanted Q P found = absurd found
source_found Check wanted Q P (inl (is, p)) = p
source_found Check wanted Q P (inr (q, found)) = absurd (none_there Source Other (λ e. cc (e)) wanted.other Q P found)

-- to convert inputs, no source is read
no_source_found : (mode : Mode) (wanted : Wanted) (Q : NamedFile → Type 0) (P : List ℕ → Type 0) → mode ≡ Convert → IsFoundIn Source Q P (files_read mode wanted) → ⊥
no_source_found Run wanted Q P e found = let bad : Run ≡ Convert = e in cc
no_source_found Print wanted Q P e found = let bad : Print ≡ Convert = e in cc
no_source_found Check wanted Q P e found = let bad : Check ≡ Convert = e in cc
no_source_found (Drill size) wanted Q P e found = found
no_source_found Convert wanted Q P e (inl (is, p)) = cc (is)
no_source_found Convert wanted Q P e (inr (q, found)) = found

the_named : (which : Which) (names : Option (List ℕ)) (Q : NamedFile → Type 0) (P : List ℕ → Type 0) → IsFoundIn which Q P (files_named which names) → (name : List ℕ) × (names ≡ Some name) × P name
the_named which None Q P found = absurd found
the_named which (Some name) Q P (inl (is, p)) = (name, refl, p)
the_named which (Some name) Q P (inr (q, found)) = absurd found

-- a mode that reads inputs runs the source, and reads that before, or converts the inputs
abbrev InputsFound : Mode → Wanted → (NamedFile → Type 0) → (List ℕ → Type 0) → Type 0
InputsFound mode wanted Q P =
    ((mode ≡ Run) × Q (file_named Source wanted.file) × ((name : List ℕ) × (wanted.inputs ≡ Some name) × P name)) ⊎ ((mode ≡ Convert) × P wanted.file)

inputs_found : (mode : Mode) (wanted : Wanted) (Q : NamedFile → Type 0) (P : List ℕ → Type 0) → IsFoundIn Inputs Q P (files_read mode wanted) → InputsFound mode wanted Q P
inputs_found Run wanted Q P (inl (is, p)) = absurd (cc (is))
inputs_found Run wanted Q P (inr (q, found)) = inl (refl, q, the_named Inputs wanted.inputs Q P found)
inputs_found Convert wanted Q P (inl (is, p)) = inr (refl, p)
inputs_found Convert wanted Q P (inr (q, found)) = absurd found
inputs_found Print wanted Q P (inl (is, p)) = absurd (cc (is))
inputs_found Print wanted Q P (inr (q, found)) = absurd found
inputs_found (Drill size) wanted Q P found = absurd found
inputs_found Check wanted Q P (inl (is, p)) = absurd (cc (is))
inputs_found Check wanted Q P (inr (q, found)) = absurd (none_there Inputs Other (λ e. cc (e)) wanted.other Q P found)

-- a mode that reads another file checks it, and reads the source before
abbrev OtherFound : Mode → Wanted → (NamedFile → Type 0) → (List ℕ → Type 0) → Type 0
OtherFound mode wanted Q P =
    (mode ≡ Check) × Q (file_named Source wanted.file) × ((name : List ℕ) × (wanted.other ≡ Some name) × P name)

other_found : (mode : Mode) (wanted : Wanted) (Q : NamedFile → Type 0) (P : List ℕ → Type 0) → IsFoundIn Other Q P (files_read mode wanted) → OtherFound mode wanted Q P
other_found Run wanted Q P (inl (is, p)) = absurd (cc (is))
other_found Run wanted Q P (inr (q, found)) = absurd (none_there Other Inputs (λ e. cc (e)) wanted.inputs Q P found)
other_found Print wanted Q P (inl (is, p)) = absurd (cc (is))
other_found Print wanted Q P (inr (q, found)) = absurd found
other_found Convert wanted Q P (inl (is, p)) = absurd (cc (is))
other_found Convert wanted Q P (inr (q, found)) = absurd found
other_found (Drill size) wanted Q P found = absurd found
other_found Check wanted Q P (inl (is, p)) = absurd (cc (is))
other_found Check wanted Q P (inr (q, found)) = (refl, q, the_named Other wanted.other Q P found)

module _ (words : List (List ℕ)) (Tells : (Held → Type 0) → Type 0) (P : Mode → List ℕ → Type 0) where
  -- what is told of a source that is read
  pub source_read : (r : ReadsFile words Tells Source P) → Tells (λ files. P r.wanted.mode (bytes_of files r.wanted.file))
  source_read r = source_found r.wanted.mode r.wanted _ _ r.found

  -- and it is not read to convert inputs
  pub source_reader : (r : ReadsFile words Tells Source P) → r.wanted.mode ≡ Convert → ⊥
  source_reader r e = no_source_found r.wanted.mode r.wanted _ _ e r.found

  -- and of the file that this mode reads behind the source, which serves the mode
  pub record ReadsSecond (asks : Mode) (second : Wanted → Option (List ℕ)) : Type 0 where
    pub wanted : Wanted
    pub accepted : wanted_of words ≡ Some wanted
    pub mode : wanted.mode ≡ asks
    pub name : List ℕ
    pub named : second wanted ≡ Some name
    pub source : Tells (λ files. Serves wanted.mode Source (bytes_of files wanted.file))
    pub has : Tells (λ files. P wanted.mode (bytes_of files name))

  -- of inputs, whose source is a program
  abbrev pub ReadsInputs : Type 0
  ReadsInputs = ReadsSecond Run (λ (w : Wanted). w.inputs)

  -- or of inputs that are converted
  pub record ReadsTable : Type 0 where
    pub wanted : Wanted
    pub accepted : wanted_of words ≡ Some wanted
    pub mode : wanted.mode ≡ Convert
    pub inputs : Tells (λ files. P wanted.mode (bytes_of files wanted.file))

  pub inputs_read : ReadsFile words Tells Inputs P → ReadsInputs ⊎ ReadsTable
  inputs_read r = by (inputs_found r.wanted.mode r.wanted _ _ r.found)
    where
      by : InputsFound r.wanted.mode r.wanted (λ file. Tells (λ files. Serves r.wanted.mode file.which (bytes_of files file.name))) (λ name. Tells (λ files. P r.wanted.mode (bytes_of files name))) → ReadsInputs ⊎ ReadsTable
      by (inl there) = inl (record { wanted = r.wanted; accepted = r.accepted; mode = there.0; name = there.2.0; named = there.2.1; source = there.1; has = there.2.2 })
      by (inr there) = inr (record { wanted = r.wanted; accepted = r.accepted; mode = there.0; inputs = there.1 })

  -- or of the other file, whose source is a wider formula
  abbrev pub ReadsOther : Type 0
  ReadsOther = ReadsSecond Check (λ (w : Wanted). w.other)

  pub other_read : ReadsFile words Tells Other P → ReadsOther
  other_read r =
      let there = other_found r.wanted.mode r.wanted (λ file. Tells (λ files. Serves r.wanted.mode file.which (bytes_of files file.name))) (λ name. Tells (λ files. P r.wanted.mode (bytes_of files name))) r.found in
      record { wanted = r.wanted; accepted = r.accepted; mode = there.0; name = there.2.0; named = there.2.1; source = there.1; has = there.2.2 }
