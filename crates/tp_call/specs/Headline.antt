-- What a call promises of its answer, one sentence each: of the words, of what the files hold, of
-- what was written before and after, and of the status that is answered.
use Rattle.std.specs.Prelude.{◌≡◌, ◌⊎◌, ◌≤◌, ℕ, List, length, Option, None, Some}
use Rattle.tp_io.specs.Held.{Held}
use Rattle.tp_scene.specs.declared.answer.Cell.{Cell}
use Rattle.tp_scene.specs.declared.answer.Clash.{Clash}
use Rattle.tp_run.specs.History.{SatisfiedExactly, Satisfiable, Unsatisfiable, ContinuesEach, Plan}
use Rattle.tp_call.specs.declared.status.Status.{Status}
use Rattle.tp_call.specs.declared.status.Status.TheVariants.{Finished, Done, Contradictory, Undetermined, StateLimit, InputMissing, InputsRefused, WordsRefused, TooLong, OtherRefused, TraceTooLong}
use Rattle.tp_call.specs.declared.status.Which.TheVariants.{Source, Inputs, Other}
use Rattle.tp_tree.specs.Tree.{SourceTree}
use Rattle.tp_meaning.specs.Inputs.{InputTable}
use Rattle.tp_show.specs.declared.named_fact.NamedFact.{NamedFact}
use Rattle.tp_monitor.specs.WideOf.{NamedWide}
use Rattle.tp_monitor.specs.Told.{state_limit}
use Rattle.tp_words.specs.Words.{wanted_of}
use Rattle.tp_call.specs.Answer.{WritesVerdict, WhereTold, AsTold, HoldsRefused, IsPastLimit, HasBadLine, HasBadTraceLine, HasManyStates, IsAskedFor, IsAskedToCheck, IsToPrint, IsToConvert, ReadsFile, Prints, Spells, Converts, IsOrStopped, IsOrFailed, HasFailed, refused_status}
use Rattle.tp_call.specs.Run.{IsEndOfRun, IsOpenEnd}
use Rattle.tp_call.specs.Files.{Wrote}
use Rattle.tp_call.specs.Text.{AsksNothingBeside, TextTells, ContinuesTold, FinishesAsTold}

module _ (words : List (List ℕ)) (held : Option Held) (old new : Option (List ℕ))
    (result : Status) where
  -- A run that finishes with length n: an interval satisfies the program, and shows S, exactly
  -- where it has this length, agrees with each printed state, and S is what these show; and there
  -- is such an interval.
  abbrev pub FinishedSays : Type 0
  FinishedSays = (n : ℕ) → result ≡ Finished n
      → Prints words held old new (Finished n)
      (λ plan printed. SatisfiedExactly plan printed n × Satisfiable plan)

  -- Refused as contradictory: no interval satisfies the program.
  abbrev pub ContradictorySays : Type 0
  ContradictorySays = (state : ℕ) (clash : Clash) → result ≡ Contradictory state clash
      → Prints words held old new (Contradictory state clash) (λ plan printed. Unsatisfiable plan)

  -- Undetermined at an open cell: each interval that satisfies the program agrees with the printed
  -- states and has more states than these.
  abbrev pub UndeterminedSays : Type 0
  UndeterminedSays =
      (state : ℕ) (cell : Cell) → result ≡ Undetermined state cell
      → Prints words held old new (Undetermined state cell) ContinuesEach

  -- Stopped at the limit of states: as many were printed as there may be, and the same holds.
  abbrev pub StateLimitSays : Type 0
  StateLimitSays = (states : ℕ) → result ≡ StateLimit states
      → Prints words held old new (StateLimit states)
      (λ plan printed. ContinuesEach plan printed × (states ≡ length printed)
      × (states ≡ plan.states))

  -- Stopped at a limit in this state: the same holds of the states before it.
  abbrev pub LimitSays : (ℕ → Status) → Type 0
  LimitSays limit =
      (state : ℕ) → result ≡ limit state → Prints words held old new (limit state) ContinuesEach

  -- An input is missing: no interval with these inputs satisfies the program.
  abbrev pub InputMissingSays : Type 0
  InputMissingSays = (state : ℕ) (port : List ℕ) → result ≡ InputMissing state port
      → Prints words held old new (InputMissing state port) (λ plan printed. Unsatisfiable plan)

  -- The same for whoever has the text alone, of words that ask for nothing beside the states. Where
  -- a run finishes: however the text is read, as lines of states and a last line with a length n,
  -- an interval satisfies the program and shows S exactly where it has the length n, agrees with
  -- what the states' lines say, and S is what the `show` lines say.
  abbrev pub FinishedTextSays : Type 0
  FinishedTextSays = (length : ℕ) → result ≡ Finished length → AsksNothingBeside words
      → TextTells words held old new FinishesAsTold

  -- Where a run is undetermined or reaches a limit: however the text is read, each interval that
  -- satisfies the program begins with what it tells, and has more states.
  abbrev pub OpenTextSays : Type 0
  OpenTextSays =
      IsOpenEnd result → AsksNothingBeside words
      → TextTells words held old new (λ plan told last. ContinuesTold plan told)

  -- Done: the words ask to print a source of the grammar, and what was appended is its canonical
  -- spelling, which is read back as this source; or they ask to convert inputs, and what was
  -- appended is the text of their table in the second format, which is read back as this table; or
  -- they ask to check a trace by a wider formula, and what was appended is the line of the verdict.
  abbrev pub DoneSays : Type 0
  DoneSays =
      result ≡ Done
      → ((text : List ℕ) × (Spells words held Done text ⊎ Converts words held Done text)
      × Wrote old new text)
      ⊎ WritesVerdict words held old new

-- A status is answered exactly where what it tells of is so: it is so, as far as the files tell;
-- and where they tell that it is so, this is answered, unless a read or a write fails or memory is
-- wanted.
pub record AnsweredExactly {A : Type 0} (held : Option Held) (result : Status)
    (status : A → Status) (IsSo : A → ((Held → Type 0) → Type 0) → Type 0) : Type 0 where
  pub only : (a : A) → result ≡ status a → IsSo a (WhereTold held)
  pub there : (a : A) → IsSo a (AsTold held) → IsOrFailed (status a) result

-- Of the words, of what the files hold, and of the status.
module _ (words : List (List ℕ)) (held : Option Held) (result : Status) where
  -- Where the source is a program and the inputs are a table, the run ends in one of the ways
  -- above, unless a read or a write fails or memory is wanted.
  abbrev pub ProgramRuns : Type 0
  ProgramRuns =
      (files : Held) → held ≡ Some files → (plan : Plan) → IsAskedFor words held plan
      → IsEndOfRun result ⊎ HasFailed result

  -- Where the words ask to print a file that holds a source of the grammar, this is done, unless a
  -- read or a write fails or memory is wanted.
  abbrev pub SourcePrints : Type 0
  SourcePrints =
      (tree : SourceTree) → ReadsFile words (AsTold held) Source (IsToPrint tree)
      → IsOrFailed Done result

  -- Where the words ask to convert a file that holds a table of inputs, this is done, unless a read
  -- or a write fails or memory is wanted.
  abbrev pub InputsConvert : Type 0
  InputsConvert =
      (table : InputTable) → ReadsFile words (AsTold held) Inputs (IsToConvert table)
      → IsOrFailed Done result

  -- Where the words ask to check a file that holds a wider formula with another file that holds a
  -- trace, of no more states than are judged, this is done, unless a read or a write fails or
  -- memory is wanted.
  abbrev pub TraceIsChecked : Type 0
  TraceIsChecked =
      (files : Held) → held ≡ Some files → (wide : NamedWide) (trace : List (List NamedFact))
      → IsAskedToCheck words held wide trace → length trace ≤ state_limit
      → IsOrFailed Done result

  -- The words are refused exactly where they ask for nothing that a call does.
  pub record WordsRefusedExactly : Type 0 where
    pub only : result ≡ WordsRefused → wanted_of words ≡ None
    pub there : wanted_of words ≡ None → IsOrStopped WordsRefused result

  -- A file is too long exactly where it has more bytes than it may have, and the files that are
  -- read before it serve what is to be done with it.
  abbrev pub TooLongExactly : Type 0
  TooLongExactly = AnsweredExactly held result TooLong
      (λ which Tells. ReadsFile words Tells which (λ mode. IsPastLimit which))

  -- The source is refused exactly where it is no program, in the mode `print` where it is no source
  -- of the grammar, and in the mode `check` where it is no wider formula: there and for the cause
  -- that its grammar names first, or for a program or a wider formula after it the rules of
  -- positions.
  abbrev pub SourceRefusedExactly : Type 0
  SourceRefusedExactly = AnsweredExactly held result refused_status
      (λ refused Tells. ReadsFile words Tells Source (HoldsRefused refused))

  -- The inputs of a source that is a program, or those that are to be converted, are refused
  -- exactly where they are no table, at the first line that is at fault.
  abbrev pub InputsRefusedExactly : Type 0
  InputsRefusedExactly = AnsweredExactly held result InputsRefused
      (λ line Tells. ReadsFile words Tells Inputs (λ mode. HasBadLine line))

  -- The other file of a source that is a wider formula is refused exactly where it is no trace, at
  -- the first line that isn't allowed.
  abbrev pub OtherRefusedExactly : Type 0
  OtherRefusedExactly = AnsweredExactly held result OtherRefused
      (λ line Tells. ReadsFile words Tells Other (λ mode. HasBadTraceLine line))

  -- It is too long to be judged exactly where it is a trace of so many states, and they are more
  -- than are judged.
  abbrev pub TraceTooLongExactly : Type 0
  TraceTooLongExactly = AnsweredExactly held result TraceTooLong
      (λ states Tells. ReadsFile words Tells Other (λ mode. HasManyStates states))
