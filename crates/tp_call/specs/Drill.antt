-- What a call promises of a drill, which runs a large source and tells what its run took.
use Rattle.std.specs.Prelude.{◌≡◌, ◌≢◌, ◌⊎◌, ◌+◌, ℕ, List, [], ◌++◌, take, Option, Some, codes}
use Rattle.std.specs.List.{sum_by}
use Rattle.std.specs.Fmt.{decimal}
use Rattle.tp_gen.specs.Source.{source_text}
use Rattle.tp_meaning.specs.Fits.{ProgramFits}
use Rattle.tp_show.specs.declared.turn.Picture.{Picture}
use Rattle.tp_show.specs.declared.turn.Turn.{Turn}
use Rattle.tp_show.specs.Texts.{end_line}
use Rattle.tp_run.specs.History.{Plan, RunEndsWith, SatisfiedExactly, Satisfiable}
use Rattle.tp_words.specs.declared.mode.Mode.TheVariants.{Drill}
use Rattle.tp_words.specs.Words.{Wanted, wanted_of}
use Rattle.tp_call.specs.declared.status.Status.{Status}
use Rattle.tp_call.specs.declared.status.Status.TheVariants.{Finished, Done, WriteFault, NoMemory}
use Rattle.tp_call.specs.declared.status.Refused.{Refused}
use Rattle.tp_call.specs.EndLine.{refusal_line}
use Rattle.tp_call.specs.Files.{Wrote}
use Rattle.tp_call.specs.Run.{RunEnds, EndSays, known_at_end}
use Rattle.tp_call.specs.InOrder.{NamesInOrder, RunTried}
use Rattle.tp_call.specs.Source.{IsProgram, IsRefusedAt}
use Rattle.tp_call.specs.Answer.{refused_status}
use Rattle.tp_call.specs.EachRun.{ComesTo}

-- the words are accepted, and ask for a drill of this size
pub record AsksForDrill (words : List (List ℕ)) (size : ℕ) : Type 0 where
  pub wanted : Wanted
  pub accepted : wanted_of words ≡ Some wanted
  pub mode : wanted.mode ≡ Drill size

-- they ask for none
abbrev pub AsksNoDrill : List (List ℕ) → Type 0
AsksNoDrill words = (size : ℕ) → AsksForDrill words size → ⊥

-- What is run: the words ask for a drill of this size, and the large source of this size is the
-- plan's program; it has no inputs, and the limits of the words.
pub record IsAskedToDrill (words : List (List ℕ)) (size : ℕ) (plan : Plan) : Type 0 where
  pub asks : AsksForDrill words size
  pub source : IsProgram (source_text size) plan.program
  pub inputs : plan.inputs ≡ []
  pub states : plan.states ≡ asks.wanted.states
  pub reductions : plan.reductions ≡ asks.wanted.reductions

-- how many reductions these states took, all together
abbrev pub reductions_in : List Picture → ℕ
reductions_in pictures = sum_by (λ (p : Picture). p.reductions) pictures

-- the line of a drill that is done
abbrev pub drill_line : (size length reductions tries : ℕ) → List ℕ
drill_line size length reductions tries =
    codes "drill " ++ decimal size ++ codes ": length " ++ decimal length
    ++ codes ", reductions " ++ decimal reductions ++ codes ", tries " ++ decimal tries
    ++ codes "\n"

-- A run of what is to be drilled finished, which says of every interval what it says of a run that
-- is asked for, and whose program's parts fit each other; its states were closed thriftily, in the
-- order that the words ask for; and the text is the drill's line, with the length of this run, the
-- reductions of its states, and the tries by which their count rose, which are those recorded.
pub record DrillFinished (words : List (List ℕ)) (size : ℕ) (before after : ℕ)
    (text : List ℕ) : Type 0 where
  pub plan : Plan
  pub pictures : List Picture
  pub asked : IsAskedToDrill words size plan
  pub length : ℕ
  pub run : RunEnds plan pictures (Finished length)
  pub says : SatisfiedExactly plan pictures length × Satisfiable plan
  pub fits : ProgramFits plan.program
  pub tried : RunTried plan asked.asks.wanted.order pictures run.answer run.run before after
  pub tries : ℕ
  pub rose : after ≡ before + tries
  pub written : text ≡ drill_line size length (reductions_in pictures) tries

-- A run of what is to be drilled ended with this status, and didn't finish, which says of every
-- interval what it says of a run that is asked for, and whose program's parts fit each other; its
-- states were closed thriftily, in the order that the words ask for, and where one of them fails,
-- the failure is named that it meets in this order; and the text is its end line alone.
pub record DrillStopped (words : List (List ℕ)) (size : ℕ) (before after : ℕ) (status : Status)
    (text : List ℕ) : Type 0 where
  pub plan : Plan
  pub pictures : List Picture
  pub asked : IsAskedToDrill words size plan
  pub run : RunEnds plan pictures status
  pub unfinished : (length : ℕ) → status ≢ Finished length
  pub says : EndSays plan pictures run.answer
  pub fits : ProgramFits plan.program
  pub tried : RunTried plan asked.asks.wanted.order pictures run.answer run.run before after
  pub named : NamesInOrder plan asked.asks.wanted.order run.answer
  pub written : text ≡ end_line plan.program.globals (known_at_end run) plan.reductions run.answer

-- The large source is no program, and is refused there for this cause, as one that is to be run;
-- and the text is the end line of this refusal.
pub record DrillRefused (words : List (List ℕ)) (size : ℕ) (status : Status)
    (text : List ℕ) : Type 0 where
  pub asks : AsksForDrill words size
  pub refused : Refused
  pub status_is : status ≡ refused_status refused
  pub cause : IsRefusedAt (Drill size) (source_text size) refused
  pub written : text ≡ refusal_line status

-- how a drill ends, with this status and the whole of its text
abbrev pub DrillEnds : List (List ℕ) → (size before after : ℕ) → Status → List ℕ → Type 0
DrillEnds words size before after status text =
    ((status ≡ Done) × DrillFinished words size before after text)
    ⊎ DrillStopped words size before after status text ⊎ DrillRefused words size status text

module _ (words : List (List ℕ)) (size : ℕ) (old new : Option (List ℕ)) (before after : ℕ) where
  -- What a drill answered and wrote, with the count of tries before and after it. After a failed
  -- write it is a part of its text, from the start; where memory was wanted nothing was written.
  abbrev pub DrillAnswers : Status → Type 0
  DrillAnswers WriteFault =
      (text : List ℕ) × ((status : Status) × DrillEnds words size before after status text)
      × ((kept : ℕ) × Wrote old new (take kept text))
  DrillAnswers NoMemory = new ≡ old
  DrillAnswers status =
      (text : List ℕ) × DrillEnds words size before after status text × Wrote old new text

-- The status comes to the end of this run, as in the mode `run`, but that it is done where this run
-- finished.
abbrev pub DrillComesTo : (plan : Plan) (pictures : List Picture) (end : Turn)
    → RunEndsWith plan pictures end → Status → Type 0
DrillComesTo plan pictures end run status =
    ((length : ℕ) × ComesTo plan pictures end run (Finished length) × (status ≡ Done))
    ⊎ (((length : ℕ) → status ≢ Finished length) × ComesTo plan pictures end run status)

-- Of the words and of what was written before and after, with the count of tries.
module _ (words : List (List ℕ)) (old new : Option (List ℕ)) (before after : ℕ)
    (result : Status) where
  -- Where the words ask for a drill: what it answers and writes.
  abbrev pub DrillSays : Type 0
  DrillSays =
      (size : ℕ) → AsksForDrill words size
      → DrillAnswers words size old new before after result

module _ (words : List (List ℕ)) (result : Status) where
  -- Whatever run there is of what is to be drilled, with any picks in any order: the drill comes to
  -- its end, and is done where this run finished, unless a write fails or memory is wanted.
  abbrev pub DrillComesToEachEnd : Type 0
  DrillComesToEachEnd =
      (size : ℕ) (plan : Plan) → IsAskedToDrill words size plan → (pictures : List Picture)
      (end : Turn) (run : RunEndsWith plan pictures end)
      → DrillComesTo plan pictures end run result ⊎ (result ≡ WriteFault) ⊎ (result ≡ NoMemory)
