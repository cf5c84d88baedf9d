-- Where a run comes to an end that isn't a failure, no choice of picks is a dead end.
use Rattle.std.specs.Prelude.{◌≡◌, ℕ, ◌<◌, List, ◌∷◌, ◌++◌, length}
use Rattle.tp_scene.specs.Pick.{Moment, Leads}
use Rattle.tp_show.specs.declared.turn.Picture.{Picture}
use Rattle.tp_show.specs.declared.turn.Turn.{Turn}
use Rattle.tp_run.specs.History.{RunEndsWith, picks_before, picks_of_run, Plan, setting, LeadsTo}
use Rattle.tp_run.specs.Same.{EndTheSame, FailsNowhere}
use Rattle.tp_run_laws.specs.Agree.{IsOrderlyPlan}

module _ (plan : Plan) where
  -- A run goes on from such a beginning: its first states have these pictures and were made by
  -- these picks, the picks of the next one begin with these; and it comes to P.
  pub record RunGoesOnFrom (ps : List Picture) (made : List (List ℕ)) (begun : List ℕ)
      (P : (pictures : List Picture) (end : Turn) → RunEndsWith plan pictures end → Type 0)
      : Type 0 where
    pub pictures : List Picture
    pub end : Turn
    pub run : RunEndsWith plan pictures end
    pub later : List Picture
    pub states : pictures ≡ ps ++ later
    pub more : List ℕ
    pub picks_later : List (List ℕ)
    pub picks : picks_of_run plan pictures end run ≡ made ++ (begun ++ more) ∷ picks_later
    pub comes_to : P pictures end run

  -- No choice of picks is a dead end: however the first states were settled, and whatever was
  -- picked in the next one so far, a run goes on from there and comes to P. And no run fails, by a
  -- clash, for want of an input or at a limit in a state.
  pub record NoDeadEnd
      (P : (pictures : List Picture) (end : Turn) → RunEndsWith plan pictures end → Type 0)
      : Type 0 where
    pub run_goes_on : (ps : List Picture) (m : Moment) (leads : LeadsTo plan ps m)
        → length ps < plan.states
        → (begun : List ℕ) (there : Moment) → Leads (setting plan (length ps)) m begun there
        → RunGoesOnFrom ps (picks_before plan ps m leads) begun P
    pub no_failure : (ps : List Picture) (turn : Turn) → RunEndsWith plan ps turn
        → FailsNowhere turn

-- So it is where one run has such an end: each other one comes to the same.
abbrev pub BeginningsGoOn : Plan → Type 0
BeginningsGoOn plan =
    IsOrderlyPlan plan → (ps : List Picture) (turn : Turn) (run : RunEndsWith plan ps turn)
    → FailsNowhere turn
    → NoDeadEnd plan (EndTheSame plan ps turn run)
