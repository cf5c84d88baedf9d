-- What the text of a run says to whoever has it alone.
use Rattle.std.specs.Prelude.{◌≡◌, ◌↔◌, ◌≤◌, ◌<◌, ◌+◌, ℕ, List, ◌++◌, length, All, Option, Some, codes, true, [], ◌∷◌, map}
use Rattle.std.specs.Fmt.{decimal}
use Rattle.tp_io.specs.Held.{Held}
use Rattle.tp_meaning.specs.Course.{Course, Shows}
use Rattle.tp_meaning.specs.Interval.{IsInterval, Satisfies}
use Rattle.tp_run.specs.History.{Plan, Unsatisfiable}
use Rattle.tp_show.specs.Line.{ToldState, told_text, told_lines, IsOneLine, fed_line}
use Rattle.tp_show.specs.Told.{IsToldOf, IsEndLine, AgreesWithTold, told_shows, FitsIn64Bits, IsLastTurn}
use Rattle.tp_words.specs.Words.{Wanted, wanted_of}
use Rattle.tp_call.specs.Files.{Wrote}
use Rattle.tp_call.specs.Answer.{IsAskedFor}
use Rattle.tp_call.specs.Run.{IsOpenEnd, IsEndOfRun, RunEnds, EndSays}
use Rattle.tp_words.specs.declared.beside.Beside.TheVariants.{Nothing}
use Rattle.std.specs.List.{flat_map}
use Rattle.tp_store.specs.Known.{Variable}
use Rattle.tp_show.specs.declared.turn.Turn.{Turn}
use Rattle.tp_show.specs.Texts.{last_words, end_line}
use Rattle.tp_show.specs.Trace.{opens_with_one, IsTraceText, named_facts}
use Rattle.tp_call.specs.declared.status.Status.{Status}
use Rattle.tp_call.specs.declared.status.Status.TheVariants.{Finished}
use Rattle.tp_words.specs.declared.mode.Mode.TheVariants.{Run}
use Rattle.tp_show.specs.declared.turn.Picture.{Picture}

-- the words ask for nothing beside the states
abbrev pub AsksNothingBeside : List (List ℕ) → Type 0
AsksNothingBeside words =
    (wanted : Wanted) → wanted_of words ≡ Some wanted → wanted.beside ≡ Nothing

-- ---- a text of lines of states alone

-- The text reads so: lines of states that tell this of the variables with these names, and then an
-- end line.
pub record ReadsAs (names : List (List ℕ)) (text : List ℕ) (told : List ToldState)
    (end : List ℕ) : Type 0 where
  pub states : All (IsToldOf names) told
  pub last : IsEndLine names end
  pub whole : text ≡ told_text names told ++ end

-- the last line of a run that finishes with this length
abbrev pub finished_line : ℕ → List ℕ
finished_line n = codes "finished: length " ++ decimal n ++ codes "\n"

-- An interval satisfies the program and shows S exactly where it has this length, agrees with what
-- is told of its states, and S is what is told to be shown.
abbrev pub SatisfiedAsTold : Plan → List ToldState → ℕ → Type 0
SatisfiedAsTold plan told n = (s : Course) (a b : ℕ) (S : Shows)
    → Satisfies plan.program plan.inputs s a b S
    ↔ (IsInterval plan.program s a b × (b ≡ n + a) × AgreesWithTold s a told
    × (S ≡ told_shows a told))

-- Each interval that satisfies the program begins with states that agree with what is told, shows
-- there what is told, and has more states than these.
abbrev pub ContinuesTold : Plan → List ToldState → Type 0
ContinuesTold plan told =
    (s : Course) (a b : ℕ) (S : Shows) → Satisfies plan.program plan.inputs s a b S
    → (length told + a ≤ b) × AgreesWithTold s a told
    × ((j : ℕ) → j < length told + a → S j ≡ told_shows a told j)

-- the last line names a length with which the program is satisfied as told
abbrev pub FinishesAsTold : Plan → List ToldState → (last : List ℕ) → Type 0
FinishesAsTold plan told last =
    (n : ℕ) → FitsIn64Bits n → last ≡ finished_line n → SatisfiedAsTold plan told n

-- Of the words, of what the files hold, and of what was written before and after: a run of what is
-- asked for appended a text, this text can be read in this way, and however it is so read, what it
-- tells and its last line have P.
pub record TellsReadBy (Reads : List (List ℕ) → List ℕ → List ToldState → List ℕ → Type 0)
    (words : List (List ℕ)) (held : Option Held) (old new : Option (List ℕ))
    (P : Plan → List ToldState → List ℕ → Type 0) : Type 0 where
  pub plan : Plan
  pub asked : IsAskedFor words held plan
  pub text : List ℕ
  pub appended : Wrote old new text
  pub told : List ToldState
  pub end : List ℕ
  pub reads : Reads plan.program.globals text told end
  pub means : (other : List ToldState) (last : List ℕ)
      → Reads plan.program.globals text other last → P plan other last

-- the same of lines of states alone
abbrev pub TextTells : List (List ℕ) → Option Held → (old new : Option (List ℕ))
    → (Plan → List ToldState → List ℕ → Type 0) → Type 0
TextTells = TellsReadBy ReadsAs

-- ---- a text that may have trace lines in it

-- what a trace line begins with
abbrev pub trace_openings : List (List ℕ)
trace_openings = codes "reductions " ∷ codes "residual: " ∷ []

-- a trace line, without its line feed
abbrev pub IsTraceLine : List ℕ → Type 0
IsTraceLine line = IsOneLine line × (opens_with_one trace_openings line ≡ true)

-- what is told of a state, and the trace lines behind it
pub record TracedState : Type 0 where
  pub told : ToldState
  pub further : List (List ℕ)

-- the lines that tell it, and then the trace lines
abbrev pub traced_lines : (names : List (List ℕ)) → TracedState → List ℕ
traced_lines names s = told_lines names s.told ++ flat_map fed_line s.further

-- of several states
abbrev pub traced_text : (names : List (List ℕ)) → List TracedState → List ℕ
traced_text names states = flat_map (traced_lines names) states

pub record IsTraced (names : List (List ℕ)) (s : TracedState) : Type 0 where
  pub told : IsToldOf names s.told
  pub further : All IsTraceLine s.further

-- the end line of a run with these globals, on one line
abbrev pub IsOneEndLine : (globals : List (List ℕ)) → List ℕ → Type 0
IsOneEndLine globals line =
    (known : List Variable) × (reductions : ℕ) × (answer : Turn) × IsLastTurn answer
    × IsOneLine (last_words globals known reductions answer)
    × (line ≡ end_line globals known reductions answer)

-- The text reads so, where trace lines are passed over: lines of states that tell this of the
-- variables with these names, each with trace lines behind it or none, and then an end line.
pub record ReadsTracedAs (names : List (List ℕ)) (text : List ℕ) (told : List ToldState)
    (end : List ℕ) : Type 0 where
  pub states : List TracedState
  pub are : All (IsTraced names) states
  pub told_is : told ≡ map (λ s. s.told) states
  pub last : IsOneEndLine names end
  pub whole : text ≡ traced_text names states ++ end

-- a run of what is asked for appended a text that can be read so, and however it is so read, what
-- it tells and its last line have P
abbrev pub TracedTextTells : List (List ℕ) → Option Held → (old new : Option (List ℕ))
    → (Plan → List ToldState → List ℕ → Type 0) → Type 0
TracedTextTells = TellsReadBy ReadsTracedAs

module _ (words : List (List ℕ)) (held : Option Held) (old new : Option (List ℕ))
    (result : Status) where
  -- Where a run finishes and the files tell what they hold, whether a trace is asked for or not:
  -- however the text is read, an interval satisfies the program and shows S exactly where it has
  -- the length n of the last line, agrees with what the states' lines say, and S is what the `show`
  -- lines say.
  abbrev pub FinishedTracedSays : Type 0
  FinishedTracedSays = (files : Held) → held ≡ Some files → (length : ℕ) → result ≡ Finished length
      → TracedTextTells words held old new FinishesAsTold

  -- Where a run is undetermined or reaches a limit: however the text is read, each interval that
  -- satisfies the program begins with what it tells, and has more states.
  abbrev pub OpenTracedSays : Type 0
  OpenTracedSays =
      (files : Held) → held ≡ Some files → IsOpenEnd result
      → TracedTextTells words held old new (λ plan told last. ContinuesTold plan told)

-- ---- the last line, whatever the status is

-- what the end line of a run begins with that finished
abbrev pub finished_openings : List (List ℕ)
finished_openings = codes "finished: length " ∷ []

-- that found that no interval satisfies the program
abbrev pub refuting_openings : List (List ℕ)
refuting_openings = codes "contradictory: state " ∷ codes "input missing: state " ∷ []

-- that stopped at an open cell or a limit
abbrev pub stopped_openings : List (List ℕ)
stopped_openings =
    codes "undetermined: state " ∷ codes "state limit: " ∷ codes "reduction limit: state "
    ∷ codes "number limit: state " ∷ codes "list limit: state " ∷ codes "call limit: state "
    ∷ codes "nest limit: state " ∷ []

-- any of these
abbrev pub last_openings : List (List ℕ)
last_openings = finished_openings ++ (refuting_openings ++ stopped_openings)

-- the last line of a run that stopped at this limit of states
abbrev pub state_limit_line : ℕ → List ℕ
state_limit_line n = codes "state limit: " ++ decimal n ++ codes "\n"

-- What the last line says by what it begins with, and the lines before it tell this of the states.
-- Finished with a length: an interval satisfies the program and shows S exactly where it has this
-- length, agrees with what is told, and S is what is told to be shown. Contradictory, or an input
-- that is missing: no interval satisfies the program. Else: each one that does begins with what is
-- told, and has more states; and at the limit of states, as many are told as there may be.
pub record LineSays (plan : Plan) (told : List ToldState) (line : List ℕ) : Type 0 where
  pub finished : (n : ℕ) → FitsIn64Bits n → line ≡ finished_line n → SatisfiedAsTold plan told n
  pub refuted : opens_with_one refuting_openings line ≡ true → Unsatisfiable plan
  pub stopped : opens_with_one stopped_openings line ≡ true → ContinuesTold plan told
  -- the number in the line is how many states are told, and the limit on them
  pub state_limit_reached : (n : ℕ) → FitsIn64Bits n → line ≡ state_limit_line n
      → (n ≡ length told) × (n ≡ plan.states)

-- the text is lines, each with its line feed, and this is the last one
pub record EndsInLine (text line : List ℕ) : Type 0 where
  pub before : List (List ℕ)
  pub lines : All IsOneLine before
  pub last : IsOneLine line
  pub whole : text ≡ flat_map fed_line before ++ fed_line line

-- words that are accepted ask for a run
abbrev pub AsksForRun : List (List ℕ) → Type 0
AsksForRun words = (wanted : Wanted) → wanted_of words ≡ Some wanted → wanted.mode ≡ Run

-- Of the words, of what the files hold, and of what was written before and after: where the words
-- ask for a run, the files tell what they hold, and the text that was appended ends in a line that
-- begins as the end line of a run does, a run of what is asked for appended it; and however it is
-- read, its last line says of the program what it says there. No status has to be known for it.
abbrev pub LastLineSays : List (List ℕ) → Option Held → (old new : Option (List ℕ)) → Type 0
LastLineSays words held old new =
    (files : Held) → held ≡ Some files → AsksForRun words → (before text line : List ℕ)
    → old ≡ Some before → new ≡ Some (before ++ text) → EndsInLine text line
    → opens_with_one last_openings line ≡ true → TracedTextTells words held old new LineSays

-- ---- the text is a trace of the states

-- A run of what is asked for ended with this status, and said of every interval what its end has to
-- say of its states' pictures. Where a state was settled, the text that was appended is a trace of
-- as many states, which have exactly the facts of the pictures, in order, each told of its variable
-- by the variable's name.
pub record PrintsTrace (words : List (List ℕ)) (held : Option Held) (old new : Option (List ℕ))
    (status : Status) : Type 0 where
  pub plan : Plan
  pub pictures : List Picture
  pub asked : IsAskedFor words held plan
  pub run : RunEnds plan pictures status
  pub says : EndSays plan pictures run.answer
  pub text : List ℕ
  pub appended : Wrote old new text
  pub trace : 0 < length pictures
      → IsTraceText text (map (named_facts plan.program.globals) pictures)

module _ (words : List (List ℕ)) (held : Option Held) (old new : Option (List ℕ))
    (result : Status) where
  -- Where a run ends and the files tell what they hold, what was printed is a trace of its states,
  -- with trace lines or without.
  abbrev pub TraceSays : Type 0
  TraceSays =
      (files : Held) → held ≡ Some files → IsEndOfRun result → PrintsTrace words held old new result
