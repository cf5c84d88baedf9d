-- What the parts of a call answer.
use Rattle.std.specs.Prelude.{◌≡◌, ◌⊎◌, ◌≤◌, ◌<◌, ℕ, List, length, take, Option, None, Some}
use Rattle.std.specs.Str.Lines.{lines}
use Rattle.tp_io.specs.Held.{Held, bytes_of}
use Rattle.tp_words.specs.declared.mode.Mode.{Mode}
use Rattle.tp_words.specs.Words.{wanted_of}
use Rattle.tp_inputs.specs.declared.fault.LineFault.{LineFault}
use Rattle.tp_inputs.specs.Table.{IsFirstFault}
use Rattle.tp_show.specs.declared.named_fact.NamedFact.{NamedFact}
use Rattle.tp_show.specs.Trace.{IsFirstBadLine}
use Rattle.tp_verdict.specs.Verdict.{Verdict}
use Rattle.tp_monitor.specs.WideOf.{NamedWide}
use Rattle.tp_monitor.specs.Told.{state_limit, verdict_by}
use Rattle.tp_call.specs.declared.status.Status.{Status}
use Rattle.tp_call.specs.declared.status.Status.TheVariants.{InputsRefused, OtherRefused, TraceTooLong, WordsRefused, TooLong, ReadFault, WriteFault, NoMemory}
use Rattle.tp_call.specs.declared.status.Which.TheVariants.{Source, Inputs, Other}
use Rattle.tp_call.specs.declared.status.Refused.{Refused}
use Rattle.tp_call.specs.Files.{Wrote}
use Rattle.tp_call.specs.Answer.{Refuses, WhereTold, HoldsRefused, HasBadLine, HoldsTrace, HasBadTraceLine, HasManyStates, IsPastLimit, refused_status}
use Rattle.tp_call.specs.Source.{IsRefusedAt}

-- and of the want of memory
abbrev pub refusal_end : Option Refused → Status
refusal_end None = NoMemory
refusal_end (Some refused) = refused_status refused

-- memory was wanted, or a source, with which this is to be done, is refused there for this cause
abbrev pub IsReadRefusal : Mode → List ℕ → Status → Type 0
IsReadRefusal mode source status =
    (status ≡ NoMemory) ⊎ ((refused : Refused) × (status ≡ refused_status refused)
    × IsRefusedAt mode source refused)

-- there is no program, or no source of the grammar, for this cause: the read failed, or the file is
-- too long, or is refused there; or memory was wanted
abbrev pub IsSourceRefusal : Mode → Option Held → List ℕ → Status → Type 0
IsSourceRefusal mode held name status = (status ≡ NoMemory) ⊎ (status ≡ ReadFault Source)
    ⊎ ((status ≡ TooLong Source)
    × WhereTold held (λ files. IsPastLimit Source (bytes_of files name)))
    ⊎ ((refused : Refused) × (status ≡ refused_status refused)
    × WhereTold held (λ files. HoldsRefused refused mode (bytes_of files name)))

-- memory was wanted, or a text is no table, for its first fault, which is in this line
abbrev pub IsTableRefusal : List ℕ → Status → Type 0
IsTableRefusal text status =
    (status ≡ NoMemory) ⊎ ((line : ℕ) × (status ≡ InputsRefused line)
    × ((fault : LineFault) × IsFirstFault (lines text) line fault))

-- there is no table for this cause: the read failed, or the file is too long, or is refused there;
-- or memory was wanted, which alone is a cause where no file is named
abbrev pub IsInputsEnd : Option Held → (name : Option (List ℕ)) → Status → Type 0
IsInputsEnd held None status = status ≡ NoMemory
IsInputsEnd held (Some name) status = (status ≡ NoMemory) ⊎ (status ≡ ReadFault Inputs)
    ⊎ ((status ≡ TooLong Inputs)
    × WhereTold held (λ files. IsPastLimit Inputs (bytes_of files name)))
    ⊎ ((line : ℕ) × (status ≡ InputsRefused line)
    × WhereTold held (λ files. HasBadLine line (bytes_of files name)))

-- memory was wanted, or a text is no trace, which this line is the first not to be allowed in
abbrev pub IsTraceEnd : List ℕ → Status → Type 0
IsTraceEnd text status =
    (status ≡ NoMemory) ⊎ ((line : ℕ) × (status ≡ OtherRefused line)
    × IsFirstBadLine (lines text) line)

-- there is no trace for this cause: the read failed, or the file is too long, or is refused at this
-- line; or memory was wanted
abbrev pub IsUnreadTrace : Option Held → (name : List ℕ) → Status → Type 0
IsUnreadTrace held name status = (status ≡ NoMemory) ⊎ (status ≡ ReadFault Other)
    ⊎ ((status ≡ TooLong Other)
    × WhereTold held (λ files. IsPastLimit Other (bytes_of files name)))
    ⊎ ((line : ℕ) × (status ≡ OtherRefused line)
    × WhereTold held (λ files. HasBadTraceLine line (bytes_of files name)))

-- there is no verdict for one of these causes, or since the trace has more states than are judged
abbrev pub IsUnjudged : Option Held → (name : List ℕ) → Status → Type 0
IsUnjudged held name status = IsUnreadTrace held name status
    ⊎ ((states : ℕ) × (status ≡ TraceTooLong states)
    × WhereTold held (λ files. HasManyStates states (bytes_of files name)))

-- this is the verdict on the wider formula by the trace that the file is
pub record IsVerdictBy (wide : NamedWide) (held : Option Held) (name : List ℕ)
    (verdict : Verdict) : Type 0 where
  pub trace : List (List NamedFact)
  pub other : WhereTold held (λ files. HoldsTrace trace (bytes_of files name))
  pub some_state : 0 < length trace
  pub within : length trace ≤ state_limit
  pub verdict_is : verdict ≡ verdict_by wide trace

-- there is nothing to do for this cause, or memory was wanted
abbrev pub IsProgramRefusal : List (List ℕ) → Option Held → Status → Type 0
IsProgramRefusal words held status = (status ≡ NoMemory) ⊎ Refuses words held status

-- what writing the end line of a status answers and appends
abbrev pub ClosesText : (line : List ℕ) → Status → Option (List ℕ) → Option (List ℕ) → Status
    → Type 0
ClosesText line status old new WriteFault = (kept : ℕ) × Wrote old new (take kept line)
ClosesText line status old new NoMemory = new ≡ old
ClosesText line status old new result = (result ≡ status) × Wrote old new line

-- memory was wanted, or the words are no command
abbrev pub IsWordsRefusal : List (List ℕ) → Status → Type 0
IsWordsRefusal words status =
    (status ≡ NoMemory) ⊎ ((status ≡ WordsRefused) × (wanted_of words ≡ None))
