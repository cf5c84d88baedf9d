-- What a call may answer, and what it writes.
use Rattle.std.specs.Prelude.{◌≡◌, ◌⊎◌, ◌≤◌, ◌<◌, ◌^◌, ℕ, List, [], ◌++◌, length, take, All, Option, None, Some}
use Rattle.tp_lex.specs.Place.{source_limit}
use Rattle.tp_io.specs.Held.{Held, bytes_of}
use Rattle.tp_show.specs.declared.turn.Picture.{Picture}
use Rattle.tp_run.specs.History.{Plan}
use Rattle.tp_call.specs.declared.status.Refused.{Refused}
use Rattle.tp_call.specs.Source.{IsProgram, IsSourceText, IsWideText, IsRefusedAt, IsReadFromSpelling}
use Rattle.tp_call.specs.declared.status.Status.{Status}
use Rattle.tp_call.specs.declared.status.Status.TheVariants.{Finished, Done, Contradictory, Undetermined, StateLimit, ReductionLimit, NumberLimit, ListLimit, CallLimit, NestLimit, InputMissing, SourceRefused, InputsRefused, WordsRefused, TooLong, ReadFault, WriteFault, NoMemory, OtherRefused, TraceTooLong}
use Rattle.tp_call.specs.declared.status.Which.{Which}
use Rattle.tp_call.specs.declared.status.Which.TheVariants.{Source, Inputs, Other}
use Rattle.tp_tree.specs.Tree.{SourceTree}
use Rattle.tp_tree.specs.Spelling.{source_spelling}
use Rattle.tp_words.specs.declared.mode.Mode.{Mode}
use Rattle.tp_words.specs.declared.mode.Mode.TheVariants.{Run, Print, Convert, Check, Drill}
use Rattle.tp_words.specs.Words.{Wanted, wanted_of}
use Rattle.std.specs.Str.Lines.{lines}
use Rattle.tp_meaning.specs.Inputs.{InputTable}
use Rattle.tp_inputs.specs.declared.fault.LineFault.{LineFault}
use Rattle.tp_inputs.specs.Table.{IsInputsText, IsFirstFault}
use Rattle.tp_inputs.specs.Converted.{converted}
use Rattle.tp_show.specs.Texts.{end_line}
use Rattle.tp_show.specs.Told.{AreNames, IsPictureInRange}
use Rattle.tp_show.specs.declared.named_fact.NamedFact.{NamedFact}
use Rattle.tp_show.specs.Trace.{IsTraceText, IsFirstBadLine}
use Rattle.tp_verdict.specs.Verdict.{Verdict, yes, no, undecided}
use Rattle.tp_verdict.specs.Trace.{WideFits, IsTold, known_in, known_outcome, AreAllKnown}
use Rattle.tp_monitor.specs.WideOf.{NamedWide}
use Rattle.tp_monitor.specs.Told.{state_limit, verdict_by, told_by_trace}
use Rattle.tp_call.specs.EndLine.{refusal_line, verdict_line}
use Rattle.tp_meaning.specs.Interval.{ProgramTree, kinds_of}
use Rattle.tp_meaning.specs.Fits.{ProgramFits}
use Rattle.tp_call.specs.Run.{EndSays, RunEnds, known_at_end, Settles, ended_text, settled_text}
use Rattle.tp_call.specs.Files.{Wrote, files_read, IsFoundIn}
use Rattle.tp_words.specs.declared.beside.Beside.{Beside}
use Rattle.tp_kernel.specs.declared.fault.LimitKind.{LimitKind}
use Rattle.tp_meaning.specs.Syntax.{ExprTree}
use Rattle.tp_meaning.specs.Course.{Course, Shows, blank}
use Rattle.tp_eval.specs.Outcome.{over}
use Rattle.tp_verdict.specs.Wide.{WideHolds, IsExprOf}

-- where the value is told, it has P
abbrev pub WhereTold : {X : Type 0} → Option X → (X → Type 0) → Type 0
WhereTold {X} told P = (x : X) → told ≡ Some x → P x

-- the value is told, and has P
abbrev pub AsTold : {X : Type 0} → Option X → (X → Type 0) → Type 0
AsTold {X} told P = (x : X) × (told ≡ Some x) × P x

-- the source has at most so many bytes, and is this program
abbrev pub HoldsProgram : ProgramTree → List ℕ → Type 0
HoldsProgram program source = (length source ≤ source_limit) × IsProgram source program

-- the source has at most so many bytes, and is one of the grammar, with this tree
abbrev pub HoldsSource : SourceTree → List ℕ → Type 0
HoldsSource tree source = (length source ≤ source_limit) × IsSourceText source tree

-- the source has at most so many bytes, and is this wider formula
abbrev pub HoldsWide : NamedWide → List ℕ → Type 0
HoldsWide wide source = (length source ≤ source_limit) × IsWideText source wide

-- the source has at most so many bytes, and is refused there for this cause
abbrev pub HoldsRefused : Refused → Mode → List ℕ → Type 0
HoldsRefused refused mode source = (length source ≤ source_limit) × IsRefusedAt mode source refused

-- the text of a run of this plan that settled these states and ended so: the lines of the states,
-- and the end line
abbrev pub run_text : (beside : Beside) {plan : Plan} {pictures : List Picture} {status : Status}
    → RunEnds plan pictures status → List ℕ
run_text beside {plan} {pictures} end =
    ended_text beside plan pictures end.answer end.run
    ++ end_line plan.program.globals (known_at_end end) plan.reductions end.answer

-- The greatest length of a file of inputs, in bytes.
abbrev pub inputs_limit : ℕ
inputs_limit = 16777216

-- a file of at most so many bytes is this table of inputs
abbrev pub HoldsTable : InputTable → List ℕ → Type 0
HoldsTable table bytes = (length bytes ≤ inputs_limit) × IsInputsText bytes table

-- The greatest length of a trace, in bytes.
abbrev pub trace_limit : ℕ
trace_limit = 16777216

-- a file of at most so many bytes is a trace of these states
abbrev pub HoldsTrace : (trace : List (List NamedFact)) → List ℕ → Type 0
HoldsTrace trace bytes = (length bytes ≤ trace_limit) × IsTraceText bytes trace

-- the inputs of a file, where one is named, are this table; without a name there are none
abbrev pub HasInputs : (name : Option (List ℕ)) → Option Held → InputTable → Type 0
HasInputs None held table = table ≡ []
HasInputs (Some name) held table = WhereTold held (λ files. HoldsTable table (bytes_of files name))

-- What is run: the words are accepted, ask for a run, and name a source that is the plan's program,
-- perhaps a file of inputs, which is its table, and its limits.
pub record IsAskedFor (words : List (List ℕ)) (held : Option Held) (plan : Plan) : Type 0 where
  pub wanted : Wanted
  pub accepted : wanted_of words ≡ Some wanted
  pub mode : wanted.mode ≡ Run
  pub source : WhereTold held (λ files. HoldsProgram plan.program (bytes_of files wanted.file))
  pub inputs : HasInputs wanted.inputs held plan.inputs
  pub states : plan.states ≡ wanted.states
  pub reductions : plan.reductions ≡ wanted.reductions

-- What is printed: the words are accepted, ask for that, and name a source of the grammar with this
-- tree.
pub record IsAskedToPrint (words : List (List ℕ)) (held : Option Held)
    (tree : SourceTree) : Type 0 where
  pub wanted : Wanted
  pub accepted : wanted_of words ≡ Some wanted
  pub mode : wanted.mode ≡ Print
  pub source : WhereTold held (λ files. HoldsSource tree (bytes_of files wanted.file))

-- What is converted: the words are accepted, ask for that, and name a file of inputs, which is this
-- table.
pub record IsAskedToConvert (words : List (List ℕ)) (held : Option Held)
    (table : InputTable) : Type 0 where
  pub wanted : Wanted
  pub accepted : wanted_of words ≡ Some wanted
  pub mode : wanted.mode ≡ Convert
  pub inputs : WhereTold held (λ files. HoldsTable table (bytes_of files wanted.file))

-- What is checked: the words are accepted, ask for that, and name a source that is this wider
-- formula, and another file, which is a trace of these states.
pub record IsAskedToCheck (words : List (List ℕ)) (held : Option Held) (wide : NamedWide)
    (trace : List (List NamedFact)) : Type 0 where
  pub wanted : Wanted
  pub accepted : wanted_of words ≡ Some wanted
  pub mode : wanted.mode ≡ Check
  pub source : WhereTold held (λ files. HoldsWide wide (bytes_of files wanted.file))
  pub name : List ℕ
  pub named : wanted.other ≡ Some name
  pub other : WhereTold held (λ files. HoldsTrace trace (bytes_of files name))

-- This is the verdict on the wider formula that is to be checked, by the trace that it is checked
-- with, which has a state, and no more than are judged. The formula's expressions fit its
-- variables.
pub record IsJudged (words : List (List ℕ)) (held : Option Held) (verdict : Verdict) : Type 0 where
  pub wide : NamedWide
  pub trace : List (List NamedFact)
  pub asked : IsAskedToCheck words held wide trace
  pub fits : WideFits (kinds_of wide.globals) wide.formula
  pub some_state : 0 < length trace
  pub within : length trace ≤ state_limit
  pub verdict_is : verdict ≡ verdict_by wide trace

-- a file has more bytes than it may have
abbrev pub byte_limit : Which → ℕ
byte_limit Source = source_limit
byte_limit Inputs = inputs_limit
byte_limit Other = trace_limit

abbrev pub IsPastLimit : Which → List ℕ → Type 0
IsPastLimit which bytes = byte_limit which < length bytes

-- the file of inputs is refused at this line
abbrev pub HasBadLine : ℕ → List ℕ → Type 0
HasBadLine line bytes =
    (length bytes ≤ inputs_limit) × ((fault : LineFault) × IsFirstFault (lines bytes) line fault)

-- the other file is refused at this line
abbrev pub HasBadTraceLine : ℕ → List ℕ → Type 0
HasBadTraceLine line bytes =
    (length bytes ≤ trace_limit) × IsFirstBadLine (lines bytes) line

-- it is a trace of so many states, which are more than are judged
abbrev pub HasManyStates : ℕ → List ℕ → Type 0
HasManyStates states bytes =
    (trace : List (List NamedFact)) × HoldsTrace trace bytes × (length trace ≡ states)
    × (state_limit < states)

-- What a mode needs of a file that it reads, to go on: to run, the source is a program, and the
-- inputs are a table; to print, the source is one of the grammar; to convert, the inputs are a
-- table; to check, the source is a wider formula, and the other file is a trace. To drill, none is
-- read.
abbrev pub Serves : Mode → Which → List ℕ → Type 0
Serves Run Source bytes = (program : ProgramTree) × HoldsProgram program bytes
Serves Run Inputs bytes = (table : InputTable) × HoldsTable table bytes
Serves Run Other bytes = ⊥
Serves Print Source bytes = (tree : SourceTree) × HoldsSource tree bytes
Serves Print Inputs bytes = ⊥
Serves Print Other bytes = ⊥
Serves Convert Source bytes = ⊥
Serves Convert Inputs bytes = (table : InputTable) × HoldsTable table bytes
Serves Convert Other bytes = ⊥
Serves Check Source bytes = (wide : NamedWide) × HoldsWide wide bytes
Serves Check Inputs bytes = ⊥
Serves Check Other bytes = (trace : List (List NamedFact)) × HoldsTrace trace bytes
Serves (Drill size) Source bytes = ⊥
Serves (Drill size) Inputs bytes = ⊥
Serves (Drill size) Other bytes = ⊥

-- The words are accepted, and this file is one that their mode reads: it has P for what is to be
-- done with it, and each one that is read before it serves the mode. `Tells` says how this is said
-- of what the files tell: `WhereTold held` or `AsTold held`.
pub record ReadsFile (words : List (List ℕ)) (Tells : (Held → Type 0) → Type 0) (which : Which)
    (P : Mode → List ℕ → Type 0) : Type 0 where
  pub wanted : Wanted
  pub accepted : wanted_of words ≡ Some wanted
  pub found : IsFoundIn which
      (λ file. Tells (λ files. Serves wanted.mode file.which (bytes_of files file.name)))
      (λ name. Tells (λ files. P wanted.mode (bytes_of files name))) (files_read wanted.mode wanted)

-- a run of what is asked for ends with this status, and the text is that of its settled states with
-- the end line; the program's parts fit each other, its names are words, and what is written are
-- numbers of 64 bits
pub record RunsTo (words : List (List ℕ)) (held : Option Held) (status : Status)
    (text : List ℕ) : Type 0 where
  pub plan : Plan
  pub pictures : List Picture
  pub asked : IsAskedFor words held plan
  pub run : RunEnds plan pictures status
  pub says : EndSays plan pictures run.answer
  pub written : text ≡ run_text asked.wanted.beside run
  pub fits : ProgramFits plan.program
  pub names : AreNames plan.program.globals
  pub states : plan.states < 2 ^ 64
  pub range : All IsPictureInRange pictures

-- The source that is asked for was printed, which has this status, and the text is its canonical
-- spelling, which is read back as this source.
pub record Spells (words : List (List ℕ)) (held : Option Held) (status : Status)
    (text : List ℕ) : Type 0 where
  pub tree : SourceTree
  pub asked : IsAskedToPrint words held tree
  pub status_is : status ≡ Done
  pub written : text ≡ source_spelling tree
  pub read_back : IsReadFromSpelling tree

-- The inputs that are asked for were converted, which has this status, and the text is that of
-- their table, which is read back as this table.
pub record Converts (words : List (List ℕ)) (held : Option Held) (status : Status)
    (text : List ℕ) : Type 0 where
  pub table : InputTable
  pub asked : IsAskedToConvert words held table
  pub status_is : status ≡ Done
  pub written : text ≡ converted table
  pub read_back : IsInputsText (converted table) table

-- The trace that is asked for was judged by the wider formula, which has this status, and the text
-- is the line of the verdict.
pub record Judges (words : List (List ℕ)) (held : Option Held) (status : Status)
    (text : List ℕ) : Type 0 where
  pub verdict : Verdict
  pub judged : IsJudged words held verdict
  pub status_is : status ≡ Done
  pub written : text ≡ verdict_line verdict

-- The cause of a refusal.
abbrev pub Refuses : List (List ℕ) → Option Held → Status → Type 0
Refuses words held (SourceRefused line column kind) =
    ReadsFile words (WhereTold held) Source
    (HoldsRefused (record { line = line; column = column; kind = kind }))
Refuses words held WordsRefused = wanted_of words ≡ None
Refuses words held (TooLong which) =
    ReadsFile words (WhereTold held) which (λ mode. IsPastLimit which)
Refuses words held (ReadFault which) =
    ReadsFile words (WhereTold held) which (λ mode bytes. Unit {0})
Refuses words held (InputsRefused line) =
    ReadsFile words (WhereTold held) Inputs (λ mode. HasBadLine line)
Refuses words held (OtherRefused line) =
    ReadsFile words (WhereTold held) Other (λ mode. HasBadTraceLine line)
Refuses words held (TraceTooLong states) =
    ReadsFile words (WhereTold held) Other (λ mode. HasManyStates states)
Refuses words held (Finished length) = ⊥
Refuses words held Done = ⊥
Refuses words held (Contradictory state clash) = ⊥
Refuses words held (Undetermined state cell) = ⊥
Refuses words held (StateLimit states) = ⊥
Refuses words held (ReductionLimit state) = ⊥
Refuses words held (NumberLimit state) = ⊥
Refuses words held (ListLimit state) = ⊥
Refuses words held (CallLimit state) = ⊥
Refuses words held (NestLimit state) = ⊥
Refuses words held (InputMissing state port) = ⊥
Refuses words held WriteFault = ⊥
Refuses words held NoMemory = ⊥

-- A call ends with this status and has written this text: that of a run, the spelling of a source,
-- inputs in the second format, the line of a verdict, or the end line of a refusal alone.
abbrev pub CallEnds : List (List ℕ) → Option Held → Status → List ℕ → Type 0
CallEnds words held status text =
    RunsTo words held status text ⊎ Spells words held status text
    ⊎ Converts words held status text ⊎ Judges words held status text
    ⊎ (Refuses words held status × (text ≡ refusal_line status))

-- the states of a run of what is asked for, whose program's parts fit each other, and their text
pub record RunsOn (words : List (List ℕ)) (held : Option Held) (text : List ℕ) : Type 0 where
  pub plan : Plan
  pub pictures : List Picture
  pub asked : IsAskedFor words held plan
  pub run : Settles plan pictures
  pub fits : ProgramFits plan.program
  pub written : text ≡ settled_text asked.wanted.beside plan pictures run

-- the text of no state, or of states of a run, without an end line
abbrev pub IsUnfinishedText : List (List ℕ) → Option Held → List ℕ → Type 0
IsUnfinishedText words held text = (text ≡ []) ⊎ RunsOn words held text

-- What a call answered and wrote. After a failed write it is a part, from its start, of a text that
-- a call can write; where memory was wanted it is whole states.
abbrev pub Answers : List (List ℕ) → Option Held → Option (List ℕ) → Option (List ℕ) → Status
    → Type 0
Answers words held old new WriteFault =
    (text : List ℕ) × (IsUnfinishedText words held text
    ⊎ ((status : Status) × CallEnds words held status text))
    × ((kept : ℕ) × Wrote old new (take kept text))
Answers words held old new NoMemory =
    (text : List ℕ) × IsUnfinishedText words held text × Wrote old new text
Answers words held old new status =
    (text : List ℕ) × CallEnds words held status text × Wrote old new text

-- A run of what is asked for ended with this status; the text of its settled states and the end
-- line were appended; the program's parts fit each other, its names are words, and what was written
-- are numbers of 64 bits; and of what is run and these states P holds.
pub record Prints (words : List (List ℕ)) (held : Option Held) (old new : Option (List ℕ))
    (status : Status) (P : Plan → List Picture → Type 0) : Type 0 where
  pub plan : Plan
  pub pictures : List Picture
  pub asked : IsAskedFor words held plan
  pub run : RunEnds plan pictures status
  pub appended : Wrote old new (run_text asked.wanted.beside run)
  pub fits : ProgramFits plan.program
  pub names : AreNames plan.program.globals
  pub states : plan.states < 2 ^ 64
  pub range : All IsPictureInRange pictures
  pub says : P plan pictures

-- the source is to be printed, and is one of the grammar with this tree
abbrev pub IsToPrint : SourceTree → Mode → List ℕ → Type 0
IsToPrint tree mode source = (mode ≡ Print) × HoldsSource tree source

-- the inputs are to be converted, and are this table
abbrev pub IsToConvert : InputTable → Mode → List ℕ → Type 0
IsToConvert table mode bytes = (mode ≡ Convert) × HoldsTable table bytes

-- the answer is this one, unless a write failed or memory was wanted
abbrev pub IsOrStopped : Status → Status → Type 0
IsOrStopped status result = (result ≡ status) ⊎ (result ≡ WriteFault) ⊎ (result ≡ NoMemory)

-- a read or a write failed, or memory was wanted
abbrev pub HasFailed : Status → Type 0
HasFailed result =
    ((which : Which) × (result ≡ ReadFault which)) ⊎ (result ≡ WriteFault) ⊎ (result ≡ NoMemory)

-- the answer is this one, unless a read or a write failed or memory was wanted
abbrev pub IsOrFailed : Status → Status → Type 0
IsOrFailed status result = (result ≡ status) ⊎ HasFailed result

-- the status of a refusal
abbrev pub refused_status : Refused → Status
refused_status refused = SourceRefused refused.line refused.column refused.kind

-- ---- a trace that is checked by a wider formula

-- an interval of the formula's variables is as the trace tells
abbrev pub IsAsTraceTells : NamedWide → (trace : List (List NamedFact)) → Course → ℕ → ℕ → Type 0
IsAsTraceTells wide trace s a b =
    IsTold (kinds_of wide.globals) (told_by_trace wide.globals trace) s a b

-- in each of its states the trace tells all of the formula's variables
abbrev pub TellsAllVariables : NamedWide → (trace : List (List NamedFact)) → Type 0
TellsAllVariables wide trace =
    (i : ℕ) → i < length trace
    → AreAllKnown (kinds_of wide.globals) (known_in (told_by_trace wide.globals trace) i)

-- in some state the evaluation of one of the formula's expressions passes a limit
abbrev pub PassesALimit : NamedWide → (trace : List (List NamedFact)) → Type 0
PassesALimit wide trace =
    (e : ExprTree) × IsExprOf wide.formula e × (i : ℕ) × (i < length trace)
    × (kind : LimitKind) × (known_outcome (told_by_trace wide.globals trace) i e ≡ over kind)

-- The trace that is asked for was judged by the wider formula: the line of the verdict was
-- appended. With `holds` the formula holds on each interval that is as the trace tells, and shows
-- nothing there; with `does not hold` it holds on none. With `open`, where the trace tells all
-- variables in each state, an evaluation passes a limit.
pub record WritesVerdict (words : List (List ℕ)) (held : Option Held)
    (old new : Option (List ℕ)) : Type 0 where
  pub wide : NamedWide
  pub trace : List (List NamedFact)
  pub asked : IsAskedToCheck words held wide trace
  pub within : length trace ≤ state_limit
  pub appended : Wrote old new (verdict_line (verdict_by wide trace))
  pub holds : verdict_by wide trace ≡ yes
      → (s : Course) (a b : ℕ) → IsAsTraceTells wide trace s a b
      → WideHolds wide.formula s a b blank
  pub fails : verdict_by wide trace ≡ no
      → (s : Course) (a b : ℕ) → IsAsTraceTells wide trace s a b
      → (S : Shows) → WideHolds wide.formula s a b S → ⊥
  pub stays_open : verdict_by wide trace ≡ undecided → TellsAllVariables wide trace
      → PassesALimit wide trace
