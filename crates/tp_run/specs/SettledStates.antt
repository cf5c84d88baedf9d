-- The settled states of a run, one after the other.
use Rattle.std.specs.Prelude.{ℕ, suc, List, [], ◌∷◌, ◌++◌, Option, Some, None}
use Rattle.tp_scene.specs.Pick.{Moment}
use Rattle.tp_show.specs.declared.turn.Picture.{Picture}
use Rattle.tp_show.specs.declared.turn.Turn.{Turn}
use Rattle.tp_show.specs.declared.turn.Turn.TheVariants.{Went, Finished, Contradictory, Undetermined, StateLimit, InputMissing, Over}
use Rattle.tp_run.specs.History.{RunEndsWith, beginning_of, Plan, StatesLead, LeadsTo}

-- a settled state: its picture, and what the next state begins with, where there is one
pub record SettledState : Type 0 where
  pub picture : Picture
  pub next : Option Moment

abbrev pub settled_before : Picture → Moment → SettledState
settled_before picture next = record { picture = picture; next = Some next }

abbrev pub settled_last : Picture → SettledState
settled_last picture = record { picture = picture; next = None }

-- the settled states that lead from one moment to another
abbrev pub led_states : (plan : Plan) (n : ℕ) (m : Moment) (ps : List Picture) (last : Moment)
    → StatesLead plan n m ps last → List SettledState
led_states plan n m [] last leads = []
led_states plan n m (p ∷ ps) last leads =
    settled_before p leads.0 ∷ led_states plan (suc n) leads.0 ps last leads.2

module _ (plan : Plan) where
  -- the settled states with which a run begins
  abbrev pub led_before : (ps : List Picture) (m : Moment) → LeadsTo plan ps m → List SettledState
  led_before ps m leads = led_states plan 0 (beginning_of plan) ps m leads

  -- the settled states of a whole run
  abbrev pub settled_states : (ps : List Picture) (turn : Turn) → RunEndsWith plan ps turn
      → List SettledState
  settled_states ps Went end = []
  settled_states ps (Finished n) end =
      led_before end.before end.moment end.leads ++ settled_last end.final ∷ []
  settled_states ps (Contradictory state clash) end = led_before ps end.0 end.1
  settled_states ps (Undetermined state cell) end = led_before ps end.0 end.1
  settled_states ps (StateLimit states) end = led_before ps end.0 end.1
  settled_states ps (InputMissing state port) end = led_before ps end.0 end.1
  settled_states ps (Over state limit) end = led_before ps end.0 end.1
