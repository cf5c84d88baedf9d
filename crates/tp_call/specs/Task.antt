-- What a call has to do.
use Rattle.std.specs.Prelude.{◌≡◌, ◌≤◌, ◌<◌, ◌^◌, ℕ, List, Option, Some}
use Rattle.tp_io.specs.Held.{Held}
use Rattle.tp_tree.specs.Read.{source_tree}
use Rattle.tp_meaning.specs.Fits.{ProgramFits}
use Rattle.tp_check.specs.Read.{program_tree}
use Rattle.tp_inputs.specs.Read.{inputs_of}
use Rattle.tp_inputs.specs.Table.{IsInputsText}
use Rattle.tp_inputs.specs.Converted.{converted}
use Rattle.tp_step.specs.declared.order.Order.{Order}
use Rattle.tp_show.specs.Told.{AreNames}
use Rattle.tp_run.specs.History.{Plan, plan_with}
use Rattle.tp_verdict.specs.Code.{verdict_of}
use Rattle.tp_words.specs.declared.command.Command.{Command}
use Rattle.tp_words.specs.Command.{wanted_by}
use Rattle.tp_words.specs.Words.{Wanted, wanted_of}
use Rattle.tp_call.specs.declared.run.Task.{Task}
use Rattle.tp_call.specs.declared.job.Job.{Job}
use Rattle.tp_call.specs.declared.job.Job.TheVariants as job
use Rattle.tp_call.specs.declared.drill.Drill.{Drill}
use Rattle.tp_call.specs.Drill.{AsksForDrill}
use Rattle.tp_call.specs.Source.{IsReadFromSpelling}
use Rattle.tp_call.specs.Answer.{IsAskedFor, IsAskedToPrint, IsAskedToConvert, IsJudged}
use Rattle.tp_words.specs.declared.beside.Beside.{Beside}

-- the plan of a task
abbrev pub plan_of : Task → Plan
plan_of task =
    plan_with (program_tree task.program) (inputs_of task.inputs) task.limits.states
    task.limits.reductions

-- the words ask for this
abbrev pub AsksFor : List (List ℕ) → Command → Type 0
AsksFor words command = wanted_of words ≡ Some (wanted_by command)

-- what is written beside each state is what the words ask for
abbrev pub WritesBesideAsAsked : List (List ℕ) → Beside → Type 0
WritesBesideAsAsked words beside =
    (wanted : Wanted) → wanted_of words ≡ Some wanted → wanted.beside ≡ beside

-- the order in which the items of a state are taken is the one that the words ask for
abbrev pub OrdersAsAsked : List (List ℕ) → Order → Type 0
OrdersAsAsked words order = (wanted : Wanted) → wanted_of words ≡ Some wanted → wanted.order ≡ order

-- The words ask for this task; its program's parts fit each other, and its names are words.
pub record IsTaskFor (words : List (List ℕ)) (held : Option Held) (task : Task) : Type 0 where
  pub asked_for : IsAskedFor words held (plan_of task)
  pub fits : ProgramFits (program_tree task.program)
  pub names : AreNames task.program.globals
  pub states : task.limits.states < 2 ^ 64
  pub beside : WritesBesideAsAsked words task.beside
  pub order : OrdersAsAsked words task.order

-- The words ask for this drill.
pub record IsDrillFor (words : List (List ℕ)) (drill : Drill) : Type 0 where
  pub asks : AsksForDrill words drill.size
  pub states : drill.limits.states ≡ asks.wanted.states
  pub reductions : drill.limits.reductions ≡ asks.wanted.reductions
  pub order : drill.order ≡ asks.wanted.order
  pub some : 1 ≤ drill.size
  pub few : drill.size ≤ 5000

-- the words ask for this task, to print this source, to convert these inputs, for this verdict, or
-- for this drill
abbrev pub IsJobFor : List (List ℕ) → Option Held → Job → Type 0
IsJobFor words held (job.Run task) = IsTaskFor words held task
IsJobFor words held (job.Print source) =
    IsAskedToPrint words held (source_tree source) × IsReadFromSpelling (source_tree source)
IsJobFor words held (job.Convert inputs) =
    IsAskedToConvert words held (inputs_of inputs)
    × IsInputsText (converted (inputs_of inputs)) (inputs_of inputs)
IsJobFor words held (job.Check verdict) = IsJudged words held (verdict_of verdict)
IsJobFor words held (job.Drill drill) = IsDrillFor words drill
