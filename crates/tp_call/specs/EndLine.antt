-- The end line of each refusal, and the line of each verdict.
use Rattle.std.specs.Prelude.{ℕ, List, [], ◌++◌, codes}
use Rattle.std.specs.Fmt.{decimal}
use Rattle.tp_verdict.specs.Verdict.{Verdict, yes, no, undecided}
use Rattle.tp_call.specs.declared.status.Status.{Status}
use Rattle.tp_call.specs.declared.status.Status.TheVariants.{Finished, Done, Contradictory, Undetermined, StateLimit, ReductionLimit, NumberLimit, ListLimit, CallLimit, NestLimit, InputMissing, SourceRefused, InputsRefused, WordsRefused, TooLong, ReadFault, WriteFault, NoMemory, OtherRefused, TraceTooLong}
use Rattle.tp_call.specs.declared.status.Which.{Which}
use Rattle.tp_call.specs.declared.status.Which.TheVariants.{Source, Inputs, Other}
use Rattle.tp_call.specs.declared.status.SourceKind.{SourceKind}
use Rattle.tp_call.specs.declared.status.SourceKind.TheVariants.{BadByte, OpenComment, NumberTooLarge, NameTooLong, Unexpected, Unfinished, TooDeep, DefinedTwice, UnknownName, WrongCount, NotExpression, NotPlace, NotPort, NotExecutable}

abbrev pub which_text : Which → List ℕ
which_text Source = codes "source"
which_text Inputs = codes "inputs"
which_text Other = codes "other"

abbrev pub kind_text : SourceKind → List ℕ
kind_text BadByte = codes "bad byte"
kind_text OpenComment = codes "open comment"
kind_text NumberTooLarge = codes "number too large"
kind_text NameTooLong = codes "name too long"
kind_text Unexpected = codes "unexpected"
kind_text Unfinished = codes "unfinished"
kind_text TooDeep = codes "too deep"
kind_text DefinedTwice = codes "defined twice"
kind_text UnknownName = codes "unknown name"
kind_text WrongCount = codes "wrong count"
kind_text NotExpression = codes "not an expression"
kind_text NotPlace = codes "not a place"
kind_text NotPort = codes "not a port"
kind_text NotExecutable = codes "not executable"

abbrev pub place_text : ℕ → ℕ → List ℕ
place_text line column =
    codes "source refused: line " ++ decimal line ++ codes " column " ++ decimal column

-- What the end line of a refusal says. The ends of runs have end lines of their own, and three
-- answers have none.
abbrev pub refusal_words : Status → List ℕ
refusal_words (SourceRefused line column kind) =
    place_text line column ++ codes ": " ++ kind_text kind
refusal_words (InputsRefused line) = codes "inputs refused: line " ++ decimal line
refusal_words (OtherRefused line) = codes "other refused: line " ++ decimal line
refusal_words (TraceTooLong states) =
    codes "trace too long: " ++ decimal states ++ codes " states"
refusal_words WordsRefused = codes "words refused"
refusal_words (TooLong which) = codes "too long: " ++ which_text which
refusal_words (ReadFault which) = codes "read fault: " ++ which_text which
refusal_words (Finished length) = []
refusal_words Done = []
refusal_words (Contradictory state clash) = []
refusal_words (Undetermined state cell) = []
refusal_words (StateLimit states) = []
refusal_words (ReductionLimit state) = []
refusal_words (NumberLimit state) = []
refusal_words (ListLimit state) = []
refusal_words (CallLimit state) = []
refusal_words (NestLimit state) = []
refusal_words (InputMissing state port) = []
refusal_words WriteFault = []
refusal_words NoMemory = []

abbrev pub refusal_line : Status → List ℕ
refusal_line status = refusal_words status ++ codes "\n"

-- the line of a verdict
abbrev pub verdict_line : Verdict → List ℕ
verdict_line yes = codes "holds\n"
verdict_line no = codes "does not hold\n"
verdict_line undecided = codes "open\n"
