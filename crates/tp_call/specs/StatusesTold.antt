-- What the end line of a call tells of its status: all of it, up to what an end line of a run
-- leaves open.
use Rattle.std.specs.Prelude.{◌≡◌, ◌⊎◌, ℕ, List, Some}
use Rattle.tp_store.specs.Known.{Variable}
use Rattle.tp_show.specs.declared.turn.Turn.{Turn}
use Rattle.tp_show.specs.Told.{AreNames, FitsIn64Bits}
use Rattle.tp_show.specs.Texts.{end_line}
use Rattle.tp_show.specs.EndsTold.{AreStoreVariables, IsTurnOf, EndsToldAlike}
use Rattle.tp_call.specs.declared.status.Status.{Status}
use Rattle.tp_call.specs.declared.status.Status.TheVariants.{Finished, Done, Contradictory, Undetermined, StateLimit, ReductionLimit, NumberLimit, ListLimit, CallLimit, NestLimit, InputMissing, SourceRefused, InputsRefused, WordsRefused, TooLong, ReadFault, WriteFault, NoMemory, OtherRefused, TraceTooLong}
use Rattle.tp_call.specs.EndLine.{refusal_line}
use Rattle.tp_call.specs.Run.{status_of}

-- a refusal that has an end line, with numbers of 64 bits
abbrev pub IsToldRefusal : Status → Type 0
IsToldRefusal (SourceRefused line column kind) = FitsIn64Bits line × FitsIn64Bits column
IsToldRefusal (InputsRefused line) = FitsIn64Bits line
IsToldRefusal (OtherRefused line) = FitsIn64Bits line
IsToldRefusal (TraceTooLong states) = FitsIn64Bits states
IsToldRefusal WordsRefused = Unit {0}
IsToldRefusal (TooLong which) = Unit {0}
IsToldRefusal (ReadFault which) = Unit {0}
IsToldRefusal (Finished length) = ⊥
IsToldRefusal Done = ⊥
IsToldRefusal (Contradictory state clash) = ⊥
IsToldRefusal (Undetermined state cell) = ⊥
IsToldRefusal (StateLimit states) = ⊥
IsToldRefusal (ReductionLimit state) = ⊥
IsToldRefusal (NumberLimit state) = ⊥
IsToldRefusal (ListLimit state) = ⊥
IsToldRefusal (CallLimit state) = ⊥
IsToldRefusal (NestLimit state) = ⊥
IsToldRefusal (InputMissing state port) = ⊥
IsToldRefusal WriteFault = ⊥
IsToldRefusal NoMemory = ⊥

-- the end line of a call that ran a program, up to an answer that has this status
abbrev pub IsRunLine : (globals : List (List ℕ)) (known : List Variable) (reductions : ℕ) → Status
    → List ℕ → Type 0
IsRunLine globals known reductions status line =
    (answer : Turn) × (status_of answer ≡ Some status) × IsTurnOf known answer
    × (line ≡ end_line globals known reductions answer)

-- or of one that was refused so; of the other three statuses there is none
abbrev pub IsStatusLine : (globals : List (List ℕ)) (known : List Variable) (reductions : ℕ)
    → Status → List ℕ → Type 0
IsStatusLine globals known reductions status line =
    IsRunLine globals known reductions status line
    ⊎ (IsToldRefusal status × (line ≡ refusal_line status))

-- one status, or two of runs whose answers are told alike
abbrev pub StatusesToldAlike : (globals : List (List ℕ)) (known other : List Variable)
    → Status → Status → Type 0
StatusesToldAlike globals known other status second =
    (status ≡ second)
    ⊎ ((answer : Turn) × (last : Turn) × (status_of answer ≡ Some status)
    × (status_of last ≡ Some second) × EndsToldAlike globals known other answer last)

-- One line is the end line of one status only, in calls of programs with these globals, with these
-- variables and limits of reductions.
abbrev pub StatusLinesTell : Type 0
StatusLinesTell =
    (globals : List (List ℕ)) → AreNames globals → (known other : List Variable)
    → AreStoreVariables globals known → AreStoreVariables globals other
    → (reductions most : ℕ) → FitsIn64Bits reductions → FitsIn64Bits most
    → (line : List ℕ) (status second : Status)
    → IsStatusLine globals known reductions status line
    → IsStatusLine globals other most second line
    → StatusesToldAlike globals known other status second
