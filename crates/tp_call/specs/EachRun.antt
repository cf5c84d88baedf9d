-- What the runs of a plan have in common with the one that a call makes, whatever is picked in
-- which order: the end, and the text; and no choice of picks is a dead end.
use Rattle.std.specs.Prelude.{◌≡◌, ◌⊎◌, ℕ, List, Option, Some, ◌++◌}
use Rattle.tp_io.specs.Held.{Held}
use Rattle.tp_show.specs.declared.turn.Picture.{Picture}
use Rattle.tp_show.specs.declared.turn.Turn.{Turn}
use Rattle.tp_run.specs.History.{RunEndsWith, Plan}
use Rattle.tp_run.specs.Same.{SamePictures, EndTheSame, FailsNowhere}
use Rattle.tp_call.specs.declared.status.Status.{Status}
use Rattle.tp_call.specs.Run.{status_of, RunEnds, ended_text}
use Rattle.tp_call.specs.Answer.{IsAskedFor, Prints, HasFailed, run_text}
use Rattle.tp_store.specs.Known.{Variable}
use Rattle.tp_show.specs.Texts.{end_line}
use Rattle.tp_run_laws.specs.Beginnings.{NoDeadEnd}
use Rattle.tp_call.specs.Files.{Wrote}
use Rattle.tp_words.specs.declared.beside.Beside.{Beside}

-- The status comes to the end of this run: it is that of a run which ends the same. So a cell has
-- the same name, and where a state fails it is free which of its failures is named.
abbrev pub ComesTo : (plan : Plan) (pictures : List Picture) (end : Turn)
    → RunEndsWith plan pictures end → Status → Type 0
ComesTo plan pictures end run status =
    (own : List Picture) × (answer : Turn) × (other : RunEndsWith plan own answer)
    × EndTheSame plan pictures end run own answer other × (status_of answer ≡ Some status)

module _ (words : List (List ℕ)) (held : Option Held) (old new : Option (List ℕ))
    (result : Status) where
  -- Whatever run there is of what is asked for, with any picks in any order: the call comes to its
  -- end and prints its states, the same facts, shows and reductions, unless a read or a write fails
  -- or memory is wanted.
  abbrev pub ComesToEachEnd : Type 0
  ComesToEachEnd =
      (files : Held) → held ≡ Some files → (plan : Plan) → IsAskedFor words held plan
      → (pictures : List Picture) (end : Turn) (run : RunEndsWith plan pictures end)
      → (ComesTo plan pictures end run result
      × Prints words held old new result (λ p printed. SamePictures pictures printed))
      ⊎ HasFailed result

-- What was appended is the text of the states of this run and the end line of an answer with this
-- status; and where the run doesn't fail, it is the whole text of this run.
pub record WroteTextOf (old new : Option (List ℕ)) (beside : Beside)
    (result : Status) {plan : Plan} {pictures : List Picture} {status : Status}
    (run : RunEnds plan pictures status) : Type 0 where
  pub last : Turn
  pub status_is : status_of last ≡ Some result
  pub known : List Variable
  pub states : Wrote old new
      (ended_text beside plan pictures run.answer run.run
      ++ end_line plan.program.globals known plan.reductions last)
  pub whole : FailsNowhere run.answer → Wrote old new (run_text beside run)

module _ (words : List (List ℕ)) (held : Option Held) where
  -- Whatever run there is of what is asked for, with any picks in any order: the call appends its
  -- text, with what is asked for beside the states, unless a read or a write fails or memory is
  -- wanted. Where a state fails it is free which of its failures the end line names.
  abbrev pub PrintsEachRun : (old new : Option (List ℕ)) → Status → Type 0
  PrintsEachRun old new result = (files : Held) → held ≡ Some files
      → (plan : Plan) (asked : IsAskedFor words held plan) (pictures : List Picture)
      (status : Status) (run : RunEnds plan pictures status)
      → WroteTextOf old new asked.wanted.beside result run ⊎ HasFailed result

  -- Where the call finishes, leaves a cell open or reaches the limit of states, no choice of picks
  -- is a dead end: however states are settled and the next one is begun, a run of what is asked for
  -- goes on from there, and each comes to the end of the call. No run meets a clash, misses an
  -- input or reaches another limit.
  abbrev pub BeginningsComeToEnd : Status → Type 0
  BeginningsComeToEnd result =
      (files : Held) → held ≡ Some files → (plan : Plan) → IsAskedFor words held plan → (end : Turn)
      → status_of end ≡ Some result → FailsNowhere end
      → NoDeadEnd plan (λ pictures other run. ComesTo plan pictures other run result)
