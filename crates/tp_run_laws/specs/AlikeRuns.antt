-- What any two runs of a plan share beyond their pictures: what is left after each state is alike.
use Rattle.std.specs.Prelude.{List, [], ◌∷◌, Option, Some, None}
use Rattle.tp_meaning.specs.Interval.{kinds_of}
use Rattle.tp_scene.specs.Pick.{Moment}
use Rattle.tp_scene.specs.Fits.{MomentFits}
use Rattle.tp_show.specs.declared.turn.Picture.{Picture}
use Rattle.tp_show.specs.declared.turn.Turn.{Turn}
use Rattle.tp_run.specs.History.{RunEndsWith, Plan, globals_of}
use Rattle.tp_run.specs.SettledStates.{SettledState, settled_states}
use Rattle.tp_step_laws.specs.Alike.{Alike}
use Rattle.tp_run.specs.Same.{SamePicture}
use Rattle.tp_run_laws.specs.Agree.{IsOrderlyPlan}

module _ (plan : Plan) where
  -- The next states begin alike, with what fits the program; or there is none.
  abbrev pub SameNext : Option Moment → Option Moment → Type 0
  SameNext None None = Unit {0}
  SameNext None (Some n) = ⊥
  SameNext (Some m) None = ⊥
  SameNext (Some m) (Some n) =
      MomentFits plan.program.defs (kinds_of plan.program.globals) m × Alike (globals_of plan) m n

  -- so many settled states, with the same pictures and next states that begin alike, one by one
  abbrev pub SameStates : List SettledState → List SettledState → Type 0
  SameStates [] [] = Unit {0}
  SameStates [] (t ∷ ts) = ⊥
  SameStates (s ∷ ss) [] = ⊥
  SameStates (s ∷ ss) (t ∷ ts) =
      (SamePicture s.picture t.picture × SameNext s.next t.next) × SameStates ss ts

-- So it is of any two runs, whatever was picked in which order.
abbrev pub AllRunsAreAlike : Plan → Type 0
AllRunsAreAlike plan = IsOrderlyPlan plan
    → (ps : List Picture) (turn : Turn) (run : RunEndsWith plan ps turn) (qs : List Picture)
    (other : Turn) (another : RunEndsWith plan qs other)
    → SameStates plan (settled_states plan ps turn run) (settled_states plan qs other another)
