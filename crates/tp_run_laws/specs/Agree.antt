-- What every order of picks leaves of a run: its settled states, what they show, and its end.
use Rattle.std.specs.Prelude.{List}
use Rattle.tp_meaning.specs.Fits.{ProgramFits}
use Rattle.tp_show.specs.declared.turn.Picture.{Picture}
use Rattle.tp_show.specs.declared.turn.Turn.{Turn}
use Rattle.tp_run.specs.History.{RunEndsWith, Plan}
use Rattle.tp_run.specs.Same.{SamePictures, EndTheSame}
use Rattle.tp_inputs.specs.Within.{InputsWithin}

-- what is asked of a plan: the parts of its program fit each other and its variables, and its
-- inputs are within the limits
pub record IsOrderlyPlan (plan : Plan) : Type 0 where
  pub program : ProgramFits plan.program
  pub inputs : InputsWithin plan.inputs

-- Two runs of a plan that have an end, whatever was picked in which order, have the same pictures
-- and the same end.
abbrev pub RunsAgree : Plan → Type 0
RunsAgree plan = IsOrderlyPlan plan
    → (ps : List Picture) (turn : Turn) (run : RunEndsWith plan ps turn) (qs : List Picture)
    (other : Turn) (another : RunEndsWith plan qs other)
    → SamePictures ps qs × EndTheSame plan ps turn run qs other another
