-- The runs of a plan: their states, one after the other, their ends, and what these say of every
-- interval.
use Rattle.std.specs.Prelude.{◌≡◌, ℕ, suc, ◌<◌, List, [], ◌∷◌, length, ◌↔◌, ◌+◌, ◌≤◌, ◌++◌}
use Rattle.tp_value.specs.declared.path.Path.{Path}
use Rattle.tp_value.specs.declared.path.Fact.{Fact}
use Rattle.tp_meaning.specs.Inputs.{InputTable}
use Rattle.tp_meaning.specs.Interval.{ProgramTree, kinds_of, IsInterval, Satisfies}
use Rattle.tp_store.specs.Facts.{kept_shape, AgreesWithAll}
use Rattle.tp_store.specs.Known.{NoClash, facts_below, Contents}
use Rattle.tp_decide.specs.Read.{shows_of}
use Rattle.tp_scene.specs.Pick.{Setting, Moment}
use Rattle.tp_scene.specs.Advance.{shown_in}
use Rattle.tp_scene.specs.Beginning.{first_moment}
use Rattle.tp_scene.specs.Replay as replay
use Rattle.tp_show.specs.declared.turn.Picture.{Picture}
use Rattle.tp_show.specs.Line.{AreInOrder, line_parts, plain_parts}
use Rattle.tp_kernel.specs.declared.fault.LimitKind.{LimitKind}
use Rattle.tp_kernel.specs.declared.fault.LimitKind.TheVariants as limit
use Rattle.tp_meaning.specs.Course.{Course, Shows, blank, ◌⊕◌, shown_at}
use Rattle.tp_show.specs.declared.turn.Turn.{Turn}
use Rattle.tp_show.specs.declared.turn.Turn.TheVariants.{Went, Finished, Contradictory, Undetermined, StateLimit, InputMissing, Over}

-- ---- the states of a run, one after the other

-- What is run: a program with these inputs, for at most so many states with at most so many
-- reductions each.
pub record Plan : Type 0 where
  pub program : ProgramTree
  pub inputs : InputTable
  pub states : ℕ
  pub reductions : ℕ

abbrev pub plan_with : ProgramTree → InputTable → (states reductions : ℕ) → Plan
plan_with program inputs states reductions =
    record { program = program; inputs = inputs; states = states; reductions = reductions }

-- how many variables it has
abbrev pub globals_of : Plan → ℕ
globals_of plan = length (kinds_of plan.program.globals)

-- what state n is read with
abbrev pub setting : Plan → ℕ → Setting
setting plan n = record { defs = plan.program.defs; inputs = plan.inputs; state = n }

-- These facts in order are those that a store keeps of so many globals.
pub record AreGlobals (globals : ℕ) (kept facts : List Fact) : Type 0 where
  pub order : AreInOrder facts
  pub no_clash : NoClash facts
  pub same : (p : Path) → kept_shape facts p ≡ kept_shape (facts_below globals kept) p

-- The picture of a settled state: its number, the facts of the globals, what these come to, what is
-- shown, and how many reductions it took.
pub record IsPictureOf (plan : Plan) (n : ℕ) (picks : List ℕ) (last : Moment)
    (picture : Picture) : Type 0 where
  pub state : picture.state ≡ n
  pub facts : AreGlobals (globals_of plan) last.store.facts picture.facts
  pub parts : plain_parts picture.parts ≡ line_parts picture.facts
  pub shows : shows_of picture.shows ≡ shown_in last.scene.root.entries
  pub reductions : picture.reductions ≡ length picks

-- state n, which begins with m, is settled and has this picture, and the next one begins with
-- `next`
pub record StateGoesOn (plan : Plan) (n : ℕ) (m : Moment) (picture : Picture)
    (next : Moment) : Type 0 where
  pub within : n < plan.states
  pub picks : List ℕ
  pub last : Moment
  pub goes : replay.Goes (setting plan n) plan.reductions m picks last next
  pub picture_is : IsPictureOf plan n picks last picture

-- state n, which begins with m, is settled and has this picture, and the interval ends with it
pub record StateEnds (plan : Plan) (n : ℕ) (m : Moment) (picture : Picture) : Type 0 where
  pub within : n < plan.states
  pub picks : List ℕ
  pub last : Moment
  pub ends : replay.Ends (setting plan n) plan.reductions m picks last
  pub picture_is : IsPictureOf plan n picks last picture

-- states n, n + 1, .. with these pictures, of which each goes on to the next, and what the state
-- after them begins with
abbrev pub StatesLead : Plan → ℕ → Moment → List Picture → Moment → Type 0
StatesLead plan n m [] last = last ≡ m
StatesLead plan n m (p ∷ ps) last =
    (next : Moment) × StateGoesOn plan n m p next × StatesLead plan (suc n) next ps last

-- A run settles states with these pictures, and the state after them begins with this moment.
abbrev pub LeadsTo : Plan → List Picture → Moment → Type 0
LeadsTo plan ps m = StatesLead plan 0 (first_moment plan.program.globals plan.program.main) ps m

-- a limit other than that on states is reached: picks lead to an item that passes it, or use up the
-- reductions
abbrev pub ReachesLimit : Setting → (most : ℕ) → Moment → LimitKind → Type 0
ReachesLimit w most m limit.Reductions = replay.UsesUp w most m
ReachesLimit w most m limit.Number = replay.PassesLimit w most m limit.Number
ReachesLimit w most m limit.List = replay.PassesLimit w most m limit.List
ReachesLimit w most m limit.Calls = replay.PassesLimit w most m limit.Calls
ReachesLimit w most m limit.Nest = replay.PassesLimit w most m limit.Nest

-- the moment that those picks lead to
abbrev pub limit_moment : (w : Setting) (most : ℕ) (m : Moment) (kind : LimitKind)
    → ReachesLimit w most m kind → Moment
limit_moment w most m limit.Reductions end = end.last
limit_moment w most m limit.Number end = end.last
limit_moment w most m limit.List end = end.last
limit_moment w most m limit.Calls end = end.last
limit_moment w most m limit.Nest end = end.last

-- ---- whole runs: the states that were settled, the end, and what it says of every interval

pub record FinishesAt (plan : Plan) (ps : List Picture) (n : ℕ) : Type 0 where
  pub before : List Picture
  pub final : Picture
  pub moment : Moment
  pub pictures : ps ≡ before ++ final ∷ []
  pub leads : LeadsTo plan before moment
  pub ends : StateEnds plan (length before) moment final
  pub count : n ≡ length before

-- A run whose settled states have these pictures ends so: it finishes with the last of them; or the
-- state after them meets a clash, is open at a cell, misses an input, or reaches a limit; or as
-- many states were settled as there may be, and the last of them goes on.
abbrev pub RunEndsWith : Plan → List Picture → Turn → Type 0
RunEndsWith plan ps Went = ⊥
RunEndsWith plan ps (Finished n) = FinishesAt plan ps n
RunEndsWith plan ps (Contradictory state clash) =
    (m : Moment) × LeadsTo plan ps m
    × replay.MeetsClash (setting plan state) plan.reductions m clash × (state ≡ length ps)
    × (state < plan.states)
RunEndsWith plan ps (Undetermined state cell) =
    (m : Moment) × LeadsTo plan ps m × replay.IsOpen (setting plan state) plan.reductions m cell
    × (state ≡ length ps) × (state < plan.states)
RunEndsWith plan ps (StateLimit states) =
    (m : Moment) × LeadsTo plan ps m × (states ≡ length ps) × (states ≡ plan.states)
RunEndsWith plan ps (InputMissing state port) =
    (m : Moment) × LeadsTo plan ps m
    × replay.MissesInput (setting plan state) plan.reductions m port × (state ≡ length ps)
    × (state < plan.states)
RunEndsWith plan ps (Over state limit) =
    (m : Moment) × LeadsTo plan ps m × ReachesLimit (setting plan state) plan.reductions m limit
    × (state ≡ length ps) × (state < plan.states)

-- The moment in which a run ended: what the picks of its last state led to, or, where this state
-- isn't begun, what it would begin with.
abbrev pub end_moment : (plan : Plan) (ps : List Picture) (turn : Turn) → RunEndsWith plan ps turn
    → Moment
end_moment plan ps Went end = absurd end
end_moment plan ps (Finished n) end = end.ends.last
end_moment plan ps (Contradictory state clash) end = end.2.last
end_moment plan ps (Undetermined state cell) end = end.2.last
end_moment plan ps (StateLimit states) end = end.0
end_moment plan ps (InputMissing state port) end = end.2.last
end_moment plan ps (Over state limit) end =
    limit_moment (setting plan state) plan.reductions end.0 limit end.2

-- and what the run's store holds then
abbrev pub end_store : (plan : Plan) (ps : List Picture) (turn : Turn) → RunEndsWith plan ps turn
    → Contents
end_store plan ps turn end = (end_moment plan ps turn end).store

-- the state agrees with each fact
abbrev pub AgreesWithFacts : Course → ℕ → List Fact → Type 0
AgreesWithFacts s a facts = AgreesWithAll (s a).values facts

-- each state from position a on agrees with the picture of its turn
abbrev pub AgreesWithPictures : Course → ℕ → List Picture → Type 0
AgreesWithPictures s a [] = Unit {0}
AgreesWithPictures s a (p ∷ ps) = AgreesWithFacts s a p.facts × AgreesWithPictures s (suc a) ps

-- what the pictures show, from position a on
abbrev pub shown_from : ℕ → List Picture → Shows
shown_from a [] = blank
shown_from a (p ∷ ps) = shown_at a (shows_of p.shows) ⊕ shown_from (suc a) ps

-- An interval satisfies the program and shows S exactly where it is one of the program, has length
-- n, agrees with each picture, and S is what the pictures show.
abbrev pub SatisfiedExactly : Plan → List Picture → ℕ → Type 0
SatisfiedExactly plan ps n = (s : Course) (a b : ℕ) (S : Shows)
    → Satisfies plan.program plan.inputs s a b S
    ↔ (IsInterval plan.program s a b × (b ≡ n + a) × AgreesWithPictures s a ps
    × (S ≡ shown_from a ps))

-- there is an interval that satisfies the program
abbrev pub Satisfiable : Plan → Type 0
Satisfiable plan =
    (s : Course) × (a : ℕ) × (b : ℕ) × (S : Shows) × Satisfies plan.program plan.inputs s a b S

-- no interval satisfies it
abbrev pub Unsatisfiable : Plan → Type 0
Unsatisfiable plan =
    (s : Course) (a b : ℕ) (S : Shows) → Satisfies plan.program plan.inputs s a b S → ⊥

-- each interval that satisfies it begins with states that agree with the pictures, shows there what
-- these show, and has more states than these
abbrev pub ContinuesEach : Plan → List Picture → Type 0
ContinuesEach plan ps =
    (s : Course) (a b : ℕ) (S : Shows) → Satisfies plan.program plan.inputs s a b S
    → (length ps + a ≤ b) × AgreesWithPictures s a ps
    × ((j : ℕ) → j < length ps + a → S j ≡ shown_from a ps j)

-- ---- the picks of a run, one list for each state

-- the picks of states that lead from one moment to another, a list for each state
abbrev pub picks_led : (plan : Plan) (n : ℕ) (m : Moment) (ps : List Picture) (last : Moment)
    → StatesLead plan n m ps last → List (List ℕ)
picks_led plan n m [] last leads = []
picks_led plan n m (p ∷ ps) last leads =
    leads.1.picks ∷ picks_led plan (suc n) leads.0 ps last leads.2

-- the picks of a state in which a limit is reached
abbrev pub limit_picks : (w : Setting) (most : ℕ) (m : Moment) (kind : LimitKind)
    → ReachesLimit w most m kind → List ℕ
limit_picks w most m limit.Reductions reached = reached.picks
limit_picks w most m limit.Number reached = reached.picks
limit_picks w most m limit.List reached = reached.picks
limit_picks w most m limit.Calls reached = reached.picks
limit_picks w most m limit.Nest reached = reached.picks

module _ (plan : Plan) where
  -- what a run begins with
  abbrev pub beginning_of : Moment
  beginning_of = first_moment plan.program.globals plan.program.main

  -- the picks of the states with which a run begins
  abbrev pub picks_before : (ps : List Picture) (m : Moment) → LeadsTo plan ps m → List (List ℕ)
  picks_before ps m leads = picks_led plan 0 beginning_of ps m leads

  -- and those of all states that a whole run begins, the last one too
  abbrev pub picks_of_run : (ps : List Picture) (turn : Turn) → RunEndsWith plan ps turn
      → List (List ℕ)
  picks_of_run ps Went end = []
  picks_of_run ps (Finished n) end =
      picks_before end.before end.moment end.leads ++ end.ends.picks ∷ []
  picks_of_run ps (Contradictory state clash) end = picks_before ps end.0 end.1 ++ end.2.picks ∷ []
  picks_of_run ps (Undetermined state cell) end = picks_before ps end.0 end.1 ++ end.2.picks ∷ []
  picks_of_run ps (StateLimit states) end = picks_before ps end.0 end.1
  picks_of_run ps (InputMissing state port) end = picks_before ps end.0 end.1 ++ end.2.picks ∷ []
  picks_of_run ps (Over state kind) end =
      picks_before ps end.0 end.1
      ++ limit_picks (setting plan state) plan.reductions end.0 kind end.2 ∷ []
