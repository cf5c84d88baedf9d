-- The exit status of each answer.
use Rattle.std.specs.Prelude.{ℕ}
use Rattle.tp_call.specs.declared.status.Status.{Status}
use Rattle.tp_call.specs.declared.status.Status.TheVariants.{Finished, Done, Contradictory, Undetermined, StateLimit, ReductionLimit, NumberLimit, ListLimit, CallLimit, NestLimit, InputMissing, SourceRefused, InputsRefused, WordsRefused, TooLong, ReadFault, WriteFault, NoMemory, OtherRefused, TraceTooLong}

-- the exit status of the program
abbrev pub code_of : Status → ℕ
code_of (Finished length) = 0
code_of Done = 0
code_of (Contradictory state clash) = 1
code_of (Undetermined state cell) = 2
code_of (StateLimit states) = 3
code_of (ReductionLimit state) = 4
code_of (NumberLimit state) = 5
code_of (ListLimit state) = 6
code_of (CallLimit state) = 7
code_of (NestLimit state) = 8
code_of (InputMissing state port) = 9
code_of (SourceRefused line column kind) = 10
code_of (InputsRefused line) = 11
code_of WordsRefused = 12
code_of (TooLong which) = 13
code_of (ReadFault which) = 14
code_of WriteFault = 15
code_of NoMemory = 16
code_of (OtherRefused line) = 17
code_of (TraceTooLong states) = 18
