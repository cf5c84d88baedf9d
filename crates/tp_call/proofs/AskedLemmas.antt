-- What a call asks of its files.
use Rattle.std.proofs.Common.{All, take, arith, zero, suc, ◌≡◌, inl, inr, ℕ, List, [], ◌∷◌, ◌++◌, Option, None, Some, Result, Ok, Err, IfErr, refl, sym, ap, ◌∙◌, subst, append_assoc}
use Rattle.std.proofs.lemmas.List.{append-nil}
use Rattle.tp_io.specs.Devices.{and_one_more}
use Rattle.tp_io.specs.Held.{Held, bytes_of, FileRequest}
use Rattle.tp_words.specs.Words.{Wanted, wanted_of}
use Rattle.tp_words.specs.declared.mode.Mode.{Mode}
use Rattle.tp_words.specs.declared.mode.Mode.TheVariants.{Run, Check}
use Rattle.tp_call.specs.declared.status.Status.{Status}
use Rattle.tp_call.specs.declared.status.Status.TheVariants.{ReadFault, NoMemory}
use Rattle.tp_call.specs.declared.status.Which.{Which}
use Rattle.tp_call.specs.declared.status.Which.TheVariants.{Source, Inputs, Other}
use Rattle.std.specs.Option.{option_map}
use Rattle.tp_call.specs.Reading.{AsksFile, AsksTable}
use Rattle.tp_call.specs.Parts.{IsInputsEnd, IsWordsRefusal}
use Rattle.tp_call.specs.Files.{NamedFile, file_named, files_named, files_read, files_of}
use Rattle.tp_call.specs.Asked.{request_of, AsksOnly}
use Rattle.tp_call.specs.Answer.{WhereTold, HoldsProgram, HoldsWide, Serves}
use Rattle.tp_meaning.specs.Interval.{ProgramTree}
use Rattle.tp_monitor.specs.WideOf.{NamedWide}
use Rattle.tp_call.proofs.FileLemmas.{reads_by}

nothing_more : (old : Option (List FileRequest)) → old ≡ option_map (λ before. before ++ []) old
nothing_more None = refl
nothing_more (Some x) = ap Some (sym (append-nil x))

two_more : (old : Option (List FileRequest)) (a b : FileRequest) → and_one_more (and_one_more old a) b ≡ option_map (λ before. before ++ a ∷ b ∷ []) old
two_more None a b = refl
two_more (Some x) a b = ap Some (append_assoc x (a ∷ []) (b ∷ []))

-- what holds of all of none, and of all of one
none_all : (P : NamedFile → Type 0) → All P []
none_all P = λ k d below. absurd (omega (arith, below))

one_all : (P : NamedFile → Type 0) (file : NamedFile) → P file → All P (file ∷ [])
one_all P file p zero d below = p
one_all P file p (suc k) d below = absurd (omega (arith, below))

-- nothing was asked for
pub asks_none : (words : List (List ℕ)) (held : Option Held) (old new : Option (List FileRequest)) (failed : Which → Type 0) → new ≡ old → ((which : Which) → failed which → ⊥) → AsksOnly words held old new failed
asks_none words held old new failed same never = record {
  count = 0;
  asked = same ∙ nothing_more old;
  served = λ w is. none_all _;
  last = λ which f. absurd (never which f);
}

-- the same of another failure, which is one of these
pub asks_as : (words : List (List ℕ)) (held : Option Held) (old new : Option (List FileRequest)) (failed other : Which → Type 0) → AsksOnly words held old new failed → ((which : Which) → other which → failed which) → AsksOnly words held old new other
asks_as words held old new failed other a is = record { count = a.count; asked = a.asked; served = a.served; last = λ which o. a.last which (is which o) }

-- the words are refused, and nothing was asked for
pub words_asked : {T : Type 0} (words : List (List ℕ)) (held : Option Held) (old : Option (List FileRequest)) (result : Result T Status) (status : Status) → result ≡ Err status → IsWordsRefusal words status → AsksOnly words held old old (λ which. result ≡ Err (ReadFault which))
words_asked words held old result status is refused = asks_none words held old old _ refl (λ which f. let both : Err status ≡ Err (ReadFault which) = sym is ∙ f in never refused which (cc)) where
  never : IsWordsRefusal words status → (which : Which) → status ≡ ReadFault which → ⊥
  never (inl memory) which e = cc
  never (inr (refused, none)) which e = cc

-- this file, as it is told, serves the mode
abbrev pub FileServes : Option Held → Mode → NamedFile → Type 0
FileServes held mode file = WhereTold held (λ files. Serves mode file.which (bytes_of files file.name))

-- a source that is a program serves to run, and one that is a wider formula serves to check
pub program_serves : (held : Option Held) (mode : Mode) → mode ≡ Run → (program : ProgramTree) (name : List ℕ) → WhereTold held (λ files. HoldsProgram program (bytes_of files name)) → FileServes held mode (file_named Source name)
program_serves held mode is program name given = λ files told. rw is (program, given files told)

pub wide_serves : (held : Option Held) (mode : Mode) → mode ≡ Check → (wide : NamedWide) (name : List ℕ) → WhereTold held (λ files. HoldsWide wide (bytes_of files name)) → FileServes held mode (file_named Source name)
wide_serves held mode is wide name given = λ files told. rw is (wide, given files told)

module _ (words : List (List ℕ)) (held : Option Held) (wanted : Wanted) (accepted : wanted_of words ≡ Some wanted) where
  -- the first file that the mode reads, alone
  asks_first : (which : Which) (name : List ℕ) (rest : List NamedFile) → files_read wanted.mode wanted ≡ file_named which name ∷ rest → (old new : Option (List FileRequest)) (failed : Which → Type 0) → new ≡ and_one_more old (request_of which name)
      → ((other : Which) → failed other → other ≡ which) → AsksOnly words held old new failed
  asks_first which name rest reads old new failed asked is = record {
    count = 1;
    asked = rw (accepted, reads) asked;
    served = λ w is. none_all _;
    last = λ other f. rw (accepted, reads) (ap Some (sym (is other f)));
  }

  -- and then the second one
  asks_second : (first which : Which) (before name : List ℕ) (rest : List NamedFile) → files_read wanted.mode wanted ≡ file_named first before ∷ file_named which name ∷ rest → FileServes held wanted.mode (file_named first before)
      → (old mid new : Option (List FileRequest)) (failed : Which → Type 0) → mid ≡ and_one_more old (request_of first before) → new ≡ and_one_more mid (request_of which name) → ((other : Which) → failed other → other ≡ which) → AsksOnly words held old new failed
  asks_second first which before name rest reads serves old mid new failed one two is = record {
    count = 2;
    served = λ w also.
        let both : Some wanted ≡ Some w = sym accepted ∙ also in
        let same : wanted ≡ w = cc in
        let listed : All (FileServes held wanted.mode) (take 1 (files_of words)) = rw (accepted, reads) (one_all (FileServes held wanted.mode) _ serves) in
        subst (λ (v : Wanted). All (FileServes held v.mode) (take 1 (files_of words))) same listed;
    asked = rw (accepted, reads) (two ∙ ap (λ m. and_one_more m (request_of which name)) one ∙ two_more old (request_of first before) (request_of which name));
    last = λ other f. rw (accepted, reads) (ap Some (sym (is other f)));
  }

  -- want of memory is no failed read
  no_fault : {T : Type 0} (result : Result T Status) (which : Which) → result ≡ Err NoMemory → result ≡ Err (ReadFault which) → ⊥
  no_fault result which memory fault = let bad : Err NoMemory ≡ Err (ReadFault which) = sym memory ∙ fault in cc

  -- after the first file: it was asked for, or nothing
  pub first_asked : {T : Type 0} (mode : Mode) (which : Which) (name : List ℕ) (rest : List NamedFile) → wanted.mode ≡ mode → files_read mode wanted ≡ file_named which name ∷ rest → (old new : Option (List FileRequest)) (result : Result T Status)
      (failed : Which → Type 0) → AsksFile old which name result new → ((other : Which) → failed other → result ≡ Err (ReadFault other)) → ((other : Which) → result ≡ Err (ReadFault other) → other ≡ which) → AsksOnly words held old new failed
  first_asked mode which name rest is reads old new result failed (inl one) fault first = asks_first which name rest (reads_by wanted mode _ is reads) old new failed one (λ other f. first other (fault other f))
  first_asked mode which name rest is reads old new result failed (inr (memory, same)) fault first = asks_none words held old new failed same (λ other f. no_fault result other memory (fault other f))

  -- the source was asked for, where the program was read
  one_asked : {T : Type 0} (old mid : Option (List FileRequest)) (result : Result T Status) (x : T) → result ≡ Ok x → AsksFile old Source wanted.file result mid → mid ≡ and_one_more old (request_of Source wanted.file)
  one_asked old mid result x ok (inl one) = one
  one_asked old mid result x ok (inr (memory, same)) = let bad : Ok x ≡ Err NoMemory = sym ok ∙ memory in cc

  run_reads : (names : Option (List ℕ)) → wanted.mode ≡ Run → wanted.inputs ≡ names → files_read wanted.mode wanted ≡ file_named Source wanted.file ∷ files_named Inputs names
  run_reads names mode named = reads_by wanted Run _ mode (ap (λ (n : Option (List ℕ)). file_named Source wanted.file ∷ files_named Inputs n) named)

  inputs_asked : {T : Type 0} (mode : wanted.mode ≡ Run) (told : Option Held) → FileServes held wanted.mode (file_named Source wanted.file) → (old mid new : Option (List FileRequest)) (names : Option (List ℕ)) → wanted.inputs ≡ names → mid ≡ and_one_more old (request_of Source wanted.file) → (table : Result T Status) → AsksTable mid names table new
      → IfErr table (IsInputsEnd told names) → (failed : Which → Type 0) → ((which : Which) → failed which → table ≡ Err (ReadFault which)) → ((which : Which) → table ≡ Err (ReadFault which) → which ≡ Inputs) → AsksOnly words held old new failed
  inputs_asked mode told serves old mid new None named one table asked refused failed is second =
      asks_first Source wanted.file [] (run_reads None mode named) old new failed (asked ∙ one) (λ which f. absurd (only_memory which (is which f)))
    where
      only_memory : (which : Which) → table ≡ Err (ReadFault which) → ⊥
      only_memory which e = let bad : ReadFault which ≡ NoMemory = subst (λ r. IfErr r (IsInputsEnd told None)) e refused in cc
  inputs_asked mode told serves old mid new (Some name) named one table (inl two) refused failed is second =
      asks_second Source Inputs wanted.file name [] (run_reads (Some name) mode named) serves old mid new failed one two (λ which f. second which (is which f))
  inputs_asked mode told serves old mid new (Some name) named one table (inr (memory, same)) refused failed is second =
      asks_first Source wanted.file (files_named Inputs (Some name)) (run_reads (Some name) mode named) old new failed (same ∙ one) (λ which f. absurd (no_fault table which memory (is which f)))

  -- after the inputs: both files were asked for, or the source alone
  pub table_asked : {T U : Type 0} (mode : wanted.mode ≡ Run) (told : Option Held) → FileServes held wanted.mode (file_named Source wanted.file) → (old mid new : Option (List FileRequest)) (names : Option (List ℕ)) → wanted.inputs ≡ names → (source : Result U Status) (x : U) → source ≡ Ok x → AsksFile old Source wanted.file source mid
      → (table : Result T Status) → AsksTable mid names table new → IfErr table (IsInputsEnd told names) → (failed : Which → Type 0) → ((which : Which) → failed which → table ≡ Err (ReadFault which))
      → ((which : Which) → table ≡ Err (ReadFault which) → which ≡ Inputs) → AsksOnly words held old new failed
  table_asked mode told serves old mid new names named source x ok first table asked refused failed is second =
      inputs_asked mode told serves old mid new names named (one_asked old mid source x ok first) table asked refused failed is second

  -- after the other file: both were asked for, or the source alone
  pub other_asked : {T U : Type 0} (mode : wanted.mode ≡ Check) → FileServes held wanted.mode (file_named Source wanted.file) → (old mid new : Option (List FileRequest)) (name : List ℕ) → wanted.other ≡ Some name → (source : Result U Status) (x : U) → source ≡ Ok x → AsksFile old Source wanted.file source mid
      → (result : Result T Status) → AsksFile mid Other name result new → (failed : Which → Type 0) → ((which : Which) → failed which → result ≡ Err (ReadFault which)) → ((which : Which) → result ≡ Err (ReadFault which) → which ≡ Other) → AsksOnly words held old new failed
  other_asked mode serves old mid new name named source x ok first result second failed is of = by second
    where
      reads : files_read wanted.mode wanted ≡ file_named Source wanted.file ∷ file_named Other name ∷ []
      reads = reads_by wanted Check _ mode (ap (λ (n : Option (List ℕ)). file_named Source wanted.file ∷ files_named Other n) named)

      by : AsksFile mid Other name result new → AsksOnly words held old new failed
      by (inl two) = asks_second Source Other wanted.file name [] reads serves old mid new failed (one_asked old mid source x ok first) two (λ which f. of which (is which f))
      by (inr (memory, same)) = asks_first Source wanted.file (file_named Other name ∷ []) reads old new failed (same ∙ one_asked old mid source x ok first) (λ which f. absurd (no_fault result which memory (is which f)))

-- a file that was read was asked for, and one that wasn't is handed on
pub asked_there : {T U : Type 0} (told new : Option (List FileRequest)) (which : Which) (name : List ℕ) (x : T) (result : Result U Status) → AsksFile {T = T} told which name (Ok x) new → AsksFile {T = U} told which name result new
asked_there told new which name x result (inl one) = inl one
asked_there {T} told new which name x result (inr (memory, same)) = let bad : Ok x ≡ Err NoMemory = memory in absurd (cc)

pub asked_on : {T U : Type 0} (told new : Option (List FileRequest)) (which : Which) (name : List ℕ) (status : Status) → AsksFile {T = T} told which name (Err status) new → AsksFile {T = U} told which name (Err status) new
asked_on told new which name status (inl one) = inl one
asked_on told new which name status (inr (memory, same)) = let is : status ≡ NoMemory = cc (memory) in inr (ap Err is, same)

-- an error that is handed on
pub same_error : {T U : Type 0} (result : Result T Status) (other : Result U Status) (status cause : Status) → result ≡ Err status → other ≡ Err status → other ≡ Err cause → result ≡ Err cause
same_error result other status cause p q e =
    let both : Err status ≡ Err cause = sym q ∙ e in
    let same : status ≡ cause = cc in
    p ∙ ap Err same

-- what is to be written beside each state has one answer
pub beside_asked : (words : List (List ℕ)) (a b : Wanted) → wanted_of words ≡ Some a → wanted_of words ≡ Some b → b.beside ≡ a.beside
beside_asked words a b p q = let same : Some a ≡ Some b = sym p ∙ q in cc

-- and so has the order in which items are taken
pub order_asked : (words : List (List ℕ)) (a b : Wanted) → wanted_of words ≡ Some a → wanted_of words ≡ Some b → b.order ≡ a.order
order_asked words a b p q = let same : Some a ≡ Some b = sym p ∙ q in cc
