-- Where a run stands.
use Rattle.std.specs.Prelude.{IfSome}
use Rattle.tp_residual.specs.Carried.{AreCarried}
use Rattle.tp_run.specs.declared.run.Run.{Run}
use Rattle.tp_run.specs.Standing.{Standing, open_at, answered, spent}
use Rattle.tp_run.specs.Runs.{StandIsKept, standing_of, next_state_of, carried_scene}

-- the run stands before a state
abbrev pub StandsOpen : Standing → Type 0
StandsOpen (open_at moment) = Unit {0}
StandsOpen (answered turn moment) = ⊥
StandsOpen spent = ⊥

-- The run's scene is well kept, and what it carries to the next state is as a state begins.
pub record CarriesDue (run : Run) : Type 0 where
  pub kept : StandIsKept run.stand
  pub carried : IfSome (carried_scene (next_state_of run) (standing_of run))
      (λ s. AreCarried s.root.entries)
