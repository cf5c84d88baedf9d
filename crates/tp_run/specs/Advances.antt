-- What one more state makes of a run, and what the end of each run says.
use Rattle.std.specs.Prelude.{◌≡◌, List, [], ◌∷◌, ◌++◌, length}
use Rattle.tp_meaning.specs.Fits.{ProgramFits}
use Rattle.tp_scene.specs.Pick.{Moment}
use Rattle.tp_scene.specs.Beginning.{first_moment}
use Rattle.tp_show.specs.declared.turn.Picture.{Picture}
use Rattle.tp_show.specs.declared.turn.Turn.{Turn}
use Rattle.tp_show.specs.declared.turn.Turn.TheVariants.{Went, Finished, Contradictory, Undetermined, StateLimit, InputMissing, Over}
use Rattle.tp_run.specs.History.{Plan, LeadsTo, RunEndsWith, end_moment, end_store, SatisfiedExactly, Satisfiable, Unsatisfiable, ContinuesEach}
use Rattle.tp_run.specs.Standing.{open_at, answered, RunPlace, state_after, StateBecomes}

-- what the end of a run says of every interval
abbrev pub EndOfRunMeans : Plan → List Picture → Turn → Type 0
EndOfRunMeans plan ps Went = Unit {0}
EndOfRunMeans plan ps (Finished n) = SatisfiedExactly plan ps n × Satisfiable plan
EndOfRunMeans plan ps (Contradictory state clash) = Unsatisfiable plan
EndOfRunMeans plan ps (Undetermined state cell) = ContinuesEach plan ps
EndOfRunMeans plan ps (StateLimit states) = ContinuesEach plan ps
EndOfRunMeans plan ps (InputMissing state port) = Unsatisfiable plan
EndOfRunMeans plan ps (Over state limit) = ContinuesEach plan ps

-- A run that stands there has ended so: after this answer, at the moment in which this run ended.
abbrev pub StandsAtEnd : (plan : Plan) (ps : List Picture) (to : RunPlace) (turn : Turn)
    → RunEndsWith plan ps turn → Type 0
StandsAtEnd plan ps to turn end =
    (to.standing ≡ answered turn (end_moment plan ps turn end))
    × (to.store ≡ end_store plan ps turn end)

-- with this answer a run ends whose settled states have these pictures; no other picture is made
abbrev EndsBefore : Plan → List Picture → (old new : Picture) → (to : RunPlace) → Turn → Type 0
EndsBefore plan ps old new to turn =
    (end : RunEndsWith plan ps turn) × (new ≡ old) × StandsAtEnd plan ps to turn end

-- What one more answer makes of a run whose settled states have these pictures: one state more, or
-- the end; and the run then stands at the moment in which it came to that.
abbrev pub Advances : Plan → List Picture → (old new : Picture) → (to : RunPlace) → Turn → Type 0
Advances plan ps old new to Went =
    (m : Moment) × (to.standing ≡ open_at m) × LeadsTo plan (ps ++ new ∷ []) m
    × (to.state ≡ length (ps ++ new ∷ [])) × (new.state ≡ length ps)
Advances plan ps old new to (Finished n) =
    (end : RunEndsWith plan (ps ++ new ∷ []) (Finished n)) × (new.state ≡ length ps)
    × StandsAtEnd plan (ps ++ new ∷ []) to (Finished n) end
Advances plan ps old new to (Contradictory state clash) =
    EndsBefore plan ps old new to (Contradictory state clash)
Advances plan ps old new to (Undetermined state cell) =
    EndsBefore plan ps old new to (Undetermined state cell)
Advances plan ps old new to (StateLimit states) = EndsBefore plan ps old new to (StateLimit states)
Advances plan ps old new to (InputMissing state port) =
    EndsBefore plan ps old new to (InputMissing state port)
Advances plan ps old new to (Over state limit) = EndsBefore plan ps old new to (Over state limit)

-- A run begins with no settled state, and each answer for the next state advances it.
pub record RunsAdvance (plan : Plan) : Type 0 where
  pub begins : LeadsTo plan [] (first_moment plan.program.globals plan.program.main)
  pub goes_on : (ps : List Picture) (m : Moment) → LeadsTo plan ps m
      → (old new : Picture) (to : RunPlace) (turn : Turn)
      → StateBecomes plan (length ps) m old new to.standing to.store turn
      → to.state ≡ state_after (length ps) turn → Advances plan ps old new to turn

-- The end of each run of a program whose parts fit each other and its variables says of every
-- interval what `EndOfRunMeans` has.
abbrev pub RunsMean : Plan → Type 0
RunsMean plan =
    ProgramFits plan.program → (ps : List Picture) (turn : Turn) → RunEndsWith plan ps turn
    → EndOfRunMeans plan ps turn
