-- Files that are refused.
use Rattle.std.proofs.Common.{◌≡◌, ◌≢◌, ◌≤◌, inl, inr, ℕ, List, [], ◌∷◌, length, Option, None, Some, Result, Err, IfErr, MatchOption, IsSomeAnd, refl, sym, ap, ◌∙◌, arith, subst}
use Rattle.std.specs.Option.{option_map}
use Rattle.tp_lex.specs.Place.{source_limit}
use Rattle.tp_io.specs.Held.{Held, bytes_of, FileRequest}
use Rattle.tp_call.specs.declared.status.Status.{Status}
use Rattle.tp_call.specs.declared.status.Status.TheVariants.{TooLong, ReadFault, NoMemory}
use Rattle.tp_call.specs.declared.status.Which.{Which}
use Rattle.tp_call.specs.declared.status.Which.TheVariants.{Source, Inputs}
use Rattle.tp_call.specs.declared.source.ReadRefusal.{ReadRefusal}
use Rattle.tp_call.specs.declared.source.ReadRefusal.TheVariants as read
use Rattle.tp_call.specs.Reading.{read_end, asked_by, AsksFile}
use Rattle.tp_meaning.specs.Inputs.{InputTable}
use Rattle.tp_meaning.specs.Interval.{ProgramTree}
use Rattle.tp_words.specs.Words.{Wanted, wanted_of}
use Rattle.tp_call.specs.Parts.{IsWordsRefusal, refusal_end, IsReadRefusal, IsSourceRefusal, IsTableRefusal, IsInputsEnd, IsProgramRefusal}
use Rattle.tp_inputs.specs.Table.{IsInputsText}
use Rattle.tp_inputs.specs.Converted.{converted}
use Rattle.tp_inputs.proofs.ConvertedReads.{converted_is_table}
use Rattle.tp_inputs.proofs.ConvertedWithin.{tables_end_within}
use Rattle.tp_call.specs.Files.{NamedFile, file_named, files_named, files_read}
use Rattle.tp_call.specs.Answer.{inputs_limit, byte_limit, WhereTold, HasInputs, HoldsProgram, HoldsRefused, HasBadLine, IsPastLimit, Serves, ReadsFile, Refuses}
use Rattle.tp_call.proofs.FileLemmas.{reads_by, reads_first, reads_second}
use Rattle.tp_call.specs.declared.status.Refused.{Refused}
use Rattle.tp_lex.specs.declared.token.Token.{Token}
use Rattle.tp_lex.specs.declared.refusal.LexRefusal.{LexRefusal}
use Rattle.tp_lex.specs.declared.refusal.LexRefusal.TheVariants as lex
use Rattle.tp_lex.specs.Tokens.{AreTokens, IsRefusedUnlessMemory}
use Rattle.tp_tree.specs.Tree.{SourceTree}
use Rattle.tp_parse.specs.declared.refusal.ParseRefusal.{ParseRefusal}
use Rattle.tp_parse.specs.Grammar.{Accepts}
use Rattle.tp_parse.specs.Place.{BlamesFirst, BlamesFirstInText}
use Rattle.tp_check.specs.Program.{ChecksTo}
use Rattle.tp_check.specs.declared.refusal.CheckRefusal.{CheckRefusal}
use Rattle.tp_check.specs.declared.refusal.CheckRefusal.TheVariants as check
use Rattle.tp_words.specs.declared.mode.Mode.{Mode}
use Rattle.tp_words.specs.declared.mode.Mode.TheVariants.{Run, Print, Convert, Check}
use Rattle.tp_call.specs.Source.{IsOutsideGrammar, IsNotRun, IsRefusedAt, lexer_refusal, parser_refusal, checker_refusal}

-- the source that was read is refused
pub source_refused : (mode : Mode) (held : Option Held) (name source : List ℕ) (status : Status) → length source ≤ source_limit → WhereTold held (λ files. source ≡ bytes_of files name) → IsReadRefusal mode source status → IsSourceRefusal mode held name status
source_refused mode held name source status short told (inl memory) = inl memory
source_refused mode held name source status short told (inr (refused, is, cause)) = inr (inr (inr (refused, is, λ files at. subst (HoldsRefused refused mode) (told files at) (short, cause))))

-- it can't be read
pub source_unread : (mode : Mode) (held : Option Held) (name : List ℕ) (refusal : ReadRefusal) (status : Status) → status ≡ read_end refusal Source → (refusal ≡ read.TooLong → WhereTold held (λ files. IsPastLimit Source (bytes_of files name)))
    → IsSourceRefusal mode held name status
source_unread mode held name read.TooLong status is long = inr (inr (inl (is, long refl)))
source_unread mode held name read.Failed status is long = inr (inl is)
source_unread mode held name read.NoMemory status is long = inl is

-- the inputs that were read are refused
pub table_refused : (held : Option Held) (name text : List ℕ) (status : Status) → length text ≤ inputs_limit → WhereTold held (λ files. text ≡ bytes_of files name) → IsTableRefusal text status → IsInputsEnd held (Some name) status
table_refused held name text status short told (inl memory) = inl memory
table_refused held name text status short told (inr (line, is, cause)) = inr (inr (inr (line, is, λ files at. subst (HasBadLine line) (told files at) (short, cause))))

-- what is written of them is read as the same table
pub table_read_back : (text : List ℕ) (table : InputTable) → length text ≤ inputs_limit → IsInputsText text table → IsInputsText (converted table) table
table_read_back text table short is = converted_is_table text table is (tables_end_within text table (omega (arith, short)) is)

-- they can't be read
pub table_unread : (held : Option Held) (name : List ℕ) (refusal : ReadRefusal) (status : Status) → status ≡ read_end refusal Inputs → (refusal ≡ read.TooLong → WhereTold held (λ files. IsPastLimit Inputs (bytes_of files name))) → IsInputsEnd held (Some name) status
table_unread held name read.TooLong status is long = inr (inr (inl (is, long refl)))
table_unread held name read.Failed status is long = inr (inl is)
table_unread held name read.NoMemory status is long = inl is

-- a read that failed is of that file
pub fault_of_read : {T : Type 0} (result : Result T Status) (refusal : ReadRefusal) (mine : Which) (status : Status) (R : Type 0) → result ≡ Err status → status ≡ read_end refusal mine → (refusal ≡ read.Failed → R)
    → (which : Which) → result ≡ Err (ReadFault which) → (which ≡ mine) × R
fault_of_read result read.TooLong mine status R at is rose which e = let bad : Err (TooLong mine) ≡ Err (ReadFault which) = ap Err (sym is) ∙ sym at ∙ e in absurd (cc)
fault_of_read result read.Failed mine status R at is rose which e = let same : Err (ReadFault mine) ≡ Err (ReadFault which) = ap Err (sym is) ∙ sym at ∙ e in (cc, rose refl)
fault_of_read result read.NoMemory mine status R at is rose which e = let bad : Err NoMemory ≡ Err (ReadFault which) = ap Err (sym is) ∙ sym at ∙ e in absurd (cc)

-- the file was asked for by a read that was refused, or memory was wanted
pub asked_unread : {U : Type 0} (told new : Option (List FileRequest)) (name : List ℕ) (refusal : ReadRefusal) (which : Which) (status : Status) → status ≡ read_end refusal which → new ≡ asked_by {T = List ℕ} told name (byte_limit which) (Err refusal)
    → AsksFile {T = U} told which name (Err status) new
asked_unread told new name read.TooLong which status is asked = inl asked
asked_unread told new name read.Failed which status is asked = inl asked
asked_unread told new name read.NoMemory which status is asked = inr (ap Err is, asked)

-- a text that was read is refused otherwise than by a failed read
no_fault_of_source : (mode : Mode) (source : List ℕ) (which : Which) → IsReadRefusal mode source (ReadFault which) → ⊥
no_fault_of_source mode source which (inl memory) = cc
no_fault_of_source mode source which (inr (refused, is, cause)) = cc

pub no_source_fault : {T : Type 0} (R : Type 0) (mode : Mode) (result : Result T Status) (source : List ℕ) → IfErr result (IsReadRefusal mode source) → (which : Which) → result ≡ Err (ReadFault which) → R
no_source_fault R mode result source refused which e = absurd (no_fault_of_source mode source which (subst (λ r. IfErr r (IsReadRefusal mode source)) e refused))

no_fault_of_table : (text : List ℕ) (which : Which) → IsTableRefusal text (ReadFault which) → ⊥
no_fault_of_table text which (inl memory) = cc
no_fault_of_table text which (inr (line, is, cause)) = cc

pub no_table_fault : {T : Type 0} (R : Type 0) (result : Result T Status) (text : List ℕ) → IfErr result (IsTableRefusal text) → (which : Which) → result ≡ Err (ReadFault which) → R
no_table_fault R result text refused which e = absurd (no_fault_of_table text which (subst (λ r. IfErr r (IsTableRefusal text)) e refused))

-- words that are no command
pub no_command : (words : List (List ℕ)) (held : Option Held) (status : Status) → IsWordsRefusal words status → IsProgramRefusal words held status
no_command words held status (inl memory) = inl memory
no_command words held status (inr (is, none)) = inr (subst (Refuses words held) (sym is) none)

module _ (words : List (List ℕ)) (held : Option Held) (wanted : Wanted) (accepted : wanted_of words ≡ Some wanted) where
  no_source_here : (rest : List NamedFile) → files_read wanted.mode wanted ≡ file_named Source wanted.file ∷ rest → (status : Status) → IsSourceRefusal wanted.mode held wanted.file status → IsProgramRefusal words held status
  no_source_here rest reads status (inl memory) = inl memory
  no_source_here rest reads status (inr (inl is)) = inr (subst (Refuses words held) (sym is) (reads_first words (WhereTold held) (λ mode bytes. Unit {0}) wanted accepted Source wanted.file rest reads (λ files told. tt)))
  no_source_here rest reads status (inr (inr (inl (is, long)))) = inr (subst (Refuses words held) (sym is) (reads_first words (WhereTold held) (λ mode. IsPastLimit Source) wanted accepted Source wanted.file rest reads long))
  no_source_here rest reads status (inr (inr (inr (refused, is, cause)))) = inr (subst (Refuses words held) (sym is) (reads_first words (WhereTold held) (HoldsRefused refused) wanted accepted Source wanted.file rest reads cause))

  -- the refusal of the source is one of the call, where it is what the mode reads first
  pub no_source : (mode : Mode) (rest : List NamedFile) (status : Status) → wanted.mode ≡ mode → files_read mode wanted ≡ file_named Source wanted.file ∷ rest → IsSourceRefusal mode held wanted.file status → IsProgramRefusal words held status
  no_source mode rest status is reads refusal =
      no_source_here rest (reads_by wanted mode _ is reads) status (subst (λ (m : Mode). IsSourceRefusal m held wanted.file status) (sym is) refusal)

  -- the refusal of inputs that are to be converted
  pub no_inputs : (status : Status) → wanted.mode ≡ Convert → IsInputsEnd held (Some wanted.file) status → IsProgramRefusal words held status
  no_inputs status is (inl memory) = inl memory
  no_inputs status is (inr (inl e)) = inr (subst (Refuses words held) (sym e) (reads_first words (WhereTold held) (λ mode bytes. Unit {0}) wanted accepted Inputs wanted.file [] (reads_by wanted Convert _ is refl) (λ files told. tt)))
  no_inputs status is (inr (inr (inl (e, long)))) = inr (subst (Refuses words held) (sym e) (reads_first words (WhereTold held) (λ mode. IsPastLimit Inputs) wanted accepted Inputs wanted.file [] (reads_by wanted Convert _ is refl) long))
  no_inputs status is (inr (inr (inr (line, e, cause)))) = inr (subst (Refuses words held) (sym e) (reads_first words (WhereTold held) (λ mode. HasBadLine line) wanted accepted Inputs wanted.file [] (reads_by wanted Convert _ is refl) cause))

  module _ (mode : wanted.mode ≡ Run) (program : ProgramTree) (source : WhereTold held (λ files. HoldsProgram program (bytes_of files wanted.file))) where
    supplied : (name : List ℕ) (P : List ℕ → Type 0) → wanted.inputs ≡ Some name → WhereTold held (λ files. P (bytes_of files name)) → ReadsFile words (WhereTold held) Inputs (λ mode. P)
    supplied name P named inputs =
        reads_second words (WhereTold held) (λ mode. P) wanted accepted Source Inputs wanted.file name []
        (reads_by wanted Run _ mode (ap (λ (n : Option (List ℕ)). file_named Source wanted.file ∷ files_named Inputs n) named))
        (λ files told. subst (λ (m : Mode). Serves m Source (bytes_of files wanted.file)) (sym mode) (program, source files told)) inputs

    -- the refusal of the inputs is one of the call
    no_table_here : (names : Option (List ℕ)) (status : Status) → wanted.inputs ≡ names → IsInputsEnd held names status → IsProgramRefusal words held status
    no_table_here None status named memory = inl memory
    no_table_here (Some name) status named (inl memory) = inl memory
    no_table_here (Some name) status named (inr (inl is)) = inr (subst (Refuses words held) (sym is) (supplied name (λ inputs. Unit {0}) named (λ files told. tt)))
    no_table_here (Some name) status named (inr (inr (inl (is, long)))) = inr (subst (Refuses words held) (sym is) (supplied name (IsPastLimit Inputs) named long))
    no_table_here (Some name) status named (inr (inr (inr (line, is, cause)))) = inr (subst (Refuses words held) (sym is) (supplied name (HasBadLine line) named cause))

    -- where the files that were told before the read are these
    pub no_table : (names : Option (List ℕ)) (status : Status) (mid : Option Held) → mid ≡ held → wanted.inputs ≡ names → IsInputsEnd mid names status → IsProgramRefusal words held status
    no_table names status mid same named end = no_table_here names status named (subst (λ m. IsInputsEnd m names status) same end)

-- a table of the name that was lent, of files that tell the same
pub inputs_held : (held mid : Option Held) (lent own : Option (List ℕ)) (table : InputTable) → mid ≡ held → lent ≡ own → HasInputs lent mid table → HasInputs own held table
inputs_held held mid lent own table same name is = subst (λ o. HasInputs o held table) name (subst (λ m. HasInputs lent m table) same is)

-- the name that a lent text gives
pub lent_name : {A B : Type 0} (read : A → List ℕ) (owned : B → List ℕ) (lent : Option A) (own : Option B) → MatchOption own (lent ≡ None) (λ s. IsSomeAnd lent (λ t. read t ≡ owned s)) → option_map read lent ≡ option_map owned own
lent_name read owned lent None is = ap (option_map read) is
lent_name read owned None (Some s) is = absurd is
lent_name read owned (Some t) (Some s) is = ap Some is

-- The answer for a refusal, by what it says where it is none of memory.
pub read_refused : (mode : Mode) (source : List ℕ) (status : Status) (refused : Option Refused) → status ≡ refusal_end refused → ((r : Refused) → refused ≡ Some r → IsRefusedAt mode source r) → IsReadRefusal mode source status
read_refused mode source status None is cause = inl is
read_refused mode source status (Some refused) is cause = inr (refused, is, cause refused refl)

-- a text that is no source of the grammar isn't run
pub not_parsed : (source : List ℕ) (status : Status) → IsReadRefusal Print source status → IsReadRefusal Run source status
not_parsed source status (inl memory) = inl memory
not_parsed source status (inr (refused, is, cause)) = inr (refused, is, inl cause)

-- and no wider formula
pub not_parsed_wide : (source : List ℕ) (status : Status) → IsReadRefusal Print source status → IsReadRefusal Check source status
not_parsed_wide source status (inl memory) = inl memory
not_parsed_wide source status (inr (refused, is, cause)) = inr (refused, is, inl cause)

pub no_tokens : (source : List ℕ) (refusal : LexRefusal) → IsRefusedUnlessMemory source refusal → (r : Refused) → lexer_refusal source refusal ≡ Some r → IsOutsideGrammar source r
no_tokens source (lex.BadByte at) g r is = inl (record { refusal = lex.BadByte at; is_refused = g; answer = is })
no_tokens source (lex.OpenComment at) g r is = inl (record { refusal = lex.OpenComment at; is_refused = g; answer = is })
no_tokens source (lex.NumberTooLarge at) g r is = inl (record { refusal = lex.NumberTooLarge at; is_refused = g; answer = is })
no_tokens source (lex.NameTooLong at) g r is = inl (record { refusal = lex.NameTooLong at; is_refused = g; answer = is })
no_tokens source lex.NoMemory g r is = absurd (cc (is))

pub no_tree : (source : List ℕ) (tokens : List Token) (refusal : ParseRefusal) → AreTokens source tokens → BlamesFirst tokens refusal → BlamesFirstInText source tokens refusal
    → (r : Refused) → parser_refusal source tokens refusal ≡ Some r → IsOutsideGrammar source r
no_tree source tokens refusal are place text r is = inr (record { tokens = tokens; refusal = refusal; are_tokens = are; place = place; text = text; answer = is })

pub not_run : (source : List ℕ) (tokens : List Token) (tree : SourceTree) (refusal : CheckRefusal) → AreTokens source tokens → Accepts tokens tree → (refusal ≢ check.NoMemory → ChecksTo tree (Err refusal))
    → (r : Refused) → checker_refusal source refusal ≡ Some r → IsNotRun source r
not_run source tokens tree (check.Twice at) are accepted g r is = record { tokens = tokens; tree = tree; refusal = check.Twice at; are_tokens = are; accepted = accepted; outcome = g (λ e. cc (e)); answer = is }
not_run source tokens tree (check.Unknown at) are accepted g r is = record { tokens = tokens; tree = tree; refusal = check.Unknown at; are_tokens = are; accepted = accepted; outcome = g (λ e. cc (e)); answer = is }
not_run source tokens tree (check.WrongCount at) are accepted g r is = record { tokens = tokens; tree = tree; refusal = check.WrongCount at; are_tokens = are; accepted = accepted; outcome = g (λ e. cc (e)); answer = is }
not_run source tokens tree (check.NotExpression at) are accepted g r is = record { tokens = tokens; tree = tree; refusal = check.NotExpression at; are_tokens = are; accepted = accepted; outcome = g (λ e. cc (e)); answer = is }
not_run source tokens tree (check.NotPlace at) are accepted g r is = record { tokens = tokens; tree = tree; refusal = check.NotPlace at; are_tokens = are; accepted = accepted; outcome = g (λ e. cc (e)); answer = is }
not_run source tokens tree (check.NotPort at) are accepted g r is = record { tokens = tokens; tree = tree; refusal = check.NotPort at; are_tokens = are; accepted = accepted; outcome = g (λ e. cc (e)); answer = is }
not_run source tokens tree (check.NotExecutable at) are accepted g r is = record { tokens = tokens; tree = tree; refusal = check.NotExecutable at; are_tokens = are; accepted = accepted; outcome = g (λ e. cc (e)); answer = is }
not_run source tokens tree check.NoMemory are accepted g r is = absurd (cc (is))
