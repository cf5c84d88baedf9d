-- Which statuses are ends of runs, one by one.
use Rattle.tp_call.specs.declared.status.Status.{Status}
use Rattle.tp_call.specs.declared.status.Status.TheVariants.{Finished, Done, Contradictory, Undetermined, StateLimit, ReductionLimit, NumberLimit, ListLimit, CallLimit, NestLimit, InputMissing, SourceRefused, InputsRefused, WordsRefused, TooLong, ReadFault, WriteFault, NoMemory, OtherRefused, TraceTooLong}

-- the status is one with which a run ends
abbrev pub EndsRun : Status → Type 0
EndsRun (Finished length) = Unit {0}
EndsRun (Contradictory state clash) = Unit {0}
EndsRun (Undetermined state cell) = Unit {0}
EndsRun (StateLimit states) = Unit {0}
EndsRun (ReductionLimit state) = Unit {0}
EndsRun (NumberLimit state) = Unit {0}
EndsRun (ListLimit state) = Unit {0}
EndsRun (CallLimit state) = Unit {0}
EndsRun (NestLimit state) = Unit {0}
EndsRun (InputMissing state port) = Unit {0}
EndsRun Done = ⊥
EndsRun (SourceRefused line column kind) = ⊥
EndsRun (InputsRefused line) = ⊥
EndsRun (OtherRefused line) = ⊥
EndsRun (TraceTooLong states) = ⊥
EndsRun WordsRefused = ⊥
EndsRun (TooLong which) = ⊥
EndsRun (ReadFault which) = ⊥
EndsRun WriteFault = ⊥
EndsRun NoMemory = ⊥

-- and one of these that leaves it open whether an interval satisfies the program
abbrev pub StaysOpen : Status → Type 0
StaysOpen (Finished length) = ⊥
StaysOpen (Contradictory state clash) = ⊥
StaysOpen (Undetermined state cell) = Unit {0}
StaysOpen (StateLimit states) = Unit {0}
StaysOpen (ReductionLimit state) = Unit {0}
StaysOpen (NumberLimit state) = Unit {0}
StaysOpen (ListLimit state) = Unit {0}
StaysOpen (CallLimit state) = Unit {0}
StaysOpen (NestLimit state) = Unit {0}
StaysOpen (InputMissing state port) = ⊥
StaysOpen Done = ⊥
StaysOpen (SourceRefused line column kind) = ⊥
StaysOpen (InputsRefused line) = ⊥
StaysOpen (OtherRefused line) = ⊥
StaysOpen (TraceTooLong states) = ⊥
StaysOpen WordsRefused = ⊥
StaysOpen (TooLong which) = ⊥
StaysOpen (ReadFault which) = ⊥
StaysOpen WriteFault = ⊥
StaysOpen NoMemory = ⊥
