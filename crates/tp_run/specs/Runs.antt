-- Where a run stands, and what its parts make of a state.
use Rattle.std.specs.Prelude.{◌≡◌, ℕ, zero, suc, ◌≤◌, List, ◌++◌, Option, Some, None}
use Rattle.tp_kernel.specs.Read.{definitions_of}
use Rattle.tp_inputs.specs.Read.{inputs_of}
use Rattle.tp_store.specs.Known.{Contents, Variable}
use Rattle.tp_store.specs.Stock.{contents_in}
use Rattle.tp_decide.specs.Read.{shows_of}
use Rattle.tp_slots.specs.Kept.{IsWellKept}
use Rattle.tp_step.specs.Answers.{moment_of}
use Rattle.tp_step.specs.OfVariables.{CellIsOf, ClashIsOf}
use Rattle.tp_step.specs.declared.order.Order.{Order}
use Rattle.tp_meaning.specs.Interval.{ProgramTree, kinds_of}
use Rattle.tp_check.specs.Read.{program_tree}
use Rattle.tp_scene.specs.Scene as S
use Rattle.tp_scene.specs.Pick.{Setting, Moment}
use Rattle.tp_scene.specs.Rest.{settled, goes, ends, IsOpenCell}
use Rattle.tp_scene.specs.Advance.{advanced, shown_in, StoreGoesOn}
use Rattle.tp_scene.specs.Laws.{IsSound}
use Rattle.tp_step_laws.specs.Orders.{IsOrderly}
use Rattle.tp_run.specs.declared.run.Made.{Made}
use Rattle.tp_run.specs.declared.run.Run.{Run}
use Rattle.tp_run.specs.declared.run.Settings.{Settings}
use Rattle.tp_run.specs.declared.run.Stand.{Stand}
use Rattle.tp_run.specs.declared.run.Stand.TheVariants.{Open, Answered, Spent}
use Rattle.tp_show.specs.declared.turn.Picture.{Picture}
use Rattle.tp_show.specs.declared.turn.Turn.{Turn}
use Rattle.tp_show.specs.declared.turn.Turn.TheVariants.{Went, Finished, Contradictory, Undetermined, StateLimit, InputMissing, Over}
use Rattle.tp_show.specs.Line.{line_parts, plain_parts}
use Rattle.tp_run.specs.History.{Plan, globals_of, setting, AreGlobals}
use Rattle.tp_run.specs.Standing.{RunPlace, Standing, open_at, answered, spent}

-- where a run stands with what its store holds
abbrev pub stands_at : Stand → Contents → Standing
stands_at (Open scene) store = open_at (moment_of scene store)
stands_at (Answered turn scene) store = answered turn (moment_of scene store)
stands_at Spent store = spent

-- the program that is run
abbrev pub program_of : Run → ProgramTree
program_of run = program_tree run.program

-- where the run stands, and the number of the state that it makes next
abbrev pub standing_of : Run → Standing
standing_of run = stands_at run.stand (contents_in run.store)

abbrev pub next_state_of : Run → ℕ
next_state_of run = run.state

-- the order in which it takes the items of each state, a seed from its first word on
abbrev pub order_of : Run → Order
order_of run = run.order

-- The first of these variables are those.
abbrev pub HasFirst : List Variable → List Variable → Type 0
HasFirst xs ys = (more : List Variable) × (ys ≡ xs ++ more)

-- an answer that speaks of these variables alone
abbrev pub TurnIsOf : List Variable → Turn → Type 0
TurnIsOf xs Went = Unit {0}
TurnIsOf xs (Finished length) = Unit {0}
TurnIsOf xs (Contradictory state clash) = ClashIsOf xs clash
TurnIsOf xs (Undetermined state cell) = CellIsOf xs cell
TurnIsOf xs (StateLimit states) = Unit {0}
TurnIsOf xs (InputMissing state port) = Unit {0}
TurnIsOf xs (Over state limit) = Unit {0}

-- a run that has answered last speaks of these variables alone
abbrev pub StandIsOf : List Variable → Stand → Type 0
StandIsOf xs (Open scene) = Unit {0}
StandIsOf xs (Answered turn scene) = TurnIsOf xs turn
StandIsOf xs Spent = Unit {0}

-- and so does an answer with where the run then stands
abbrev pub MadeIsOf : List Variable → Made → Type 0
MadeIsOf xs made = TurnIsOf xs made.turn × StandIsOf xs made.stand

-- what its store holds
abbrev pub store_of : Run → Contents
store_of run = contents_in run.store

-- all of these
abbrev pub standing_place : Run → RunPlace
standing_place run =
    record { standing = standing_of run; state = next_state_of run; store = store_of run }

-- what is carried to the next state: the scene that it begins with, where one was settled before
-- it; a run that hasn't begun, has ended or gave up carries nothing
abbrev pub carried_scene : ℕ → Standing → Option S.Scene
carried_scene (suc n) (open_at m) = Some m.scene
carried_scene zero (open_at m) = None
carried_scene n (answered turn m) = None
carried_scene n spent = None

-- the scene in which a run ended: what the picks of its last state led to
abbrev pub last_scene_in : Standing → Option S.Scene
last_scene_in (open_at m) = None
last_scene_in (answered turn m) = Some m.scene
last_scene_in spent = None

-- before a state it stands at a sound moment
abbrev pub StandsSound : Plan → ℕ → Standing → Type 0
StandsSound plan n (open_at m) = IsSound (setting plan n) (kinds_of plan.program.globals) m
StandsSound plan n (answered turn m) = Unit {0}
StandsSound plan n spent = Unit {0}

-- and at an orderly one: it is sound, and kept lengths, bound values and inputs are within the
-- limits
abbrev pub StandsOrderly : Plan → ℕ → Standing → Type 0
StandsOrderly plan n (open_at m) = IsOrderly (setting plan n) (kinds_of plan.program.globals) m
StandsOrderly plan n (answered turn m) = Unit {0}
StandsOrderly plan n spent = Unit {0}

-- the scene of a run, before a state and at its end, is well kept
abbrev pub StandIsKept : Stand → Type 0
StandIsKept (Open scene) = IsWellKept scene
StandIsKept (Answered turn scene) = IsWellKept scene
StandIsKept Spent = Unit {0}

-- The settings are those of this plan.
pub record IsSettingsOf (plan : Plan) (settings : Settings) : Type 0 where
  pub inputs : inputs_of settings.setting.inputs.now ≡ plan.inputs
  pub states : settings.limits.states ≡ plan.states
  pub reductions : settings.limits.reductions ≡ plan.reductions
  pub globals : settings.globals ≡ globals_of plan
  pub definitions : definitions_of settings.setting.defs.now ≡ plan.program.defs

-- The run is one of this plan.
pub record IsRunOf (plan : Plan) (run : Run) : Type 0 where
  pub program : program_of run ≡ plan.program
  pub inputs : inputs_of run.inputs ≡ plan.inputs
  pub states : run.limits.states ≡ plan.states
  pub reductions : run.limits.reductions ≡ plan.reductions
  pub within : next_state_of run ≤ plan.states
  pub orderly : StandsOrderly plan (next_state_of run) (standing_of run)
  pub kept : StandIsKept run.stand
  pub named : StandIsOf run.store.variables run.stand

-- The picture of a state with this number, of so many globals, after so many reductions.
pub record HasPicture (globals n reductions : ℕ) (m : Moment) (picture : Picture) : Type 0 where
  pub state : picture.state ≡ n
  pub facts : AreGlobals globals m.store.facts picture.facts
  pub parts : plain_parts picture.parts ≡ line_parts picture.facts
  pub shows : shows_of picture.shows ≡ shown_in m.scene.root.entries
  pub reductions_are : picture.reductions ≡ reductions

-- what the next state begins with
pub record NextOf (m next : Moment) : Type 0 where
  pub scene : next.scene ≡ advanced m.scene
  pub store : StoreGoesOn m.store next.store

-- What becomes of a state at rest, where the run then stands, and what its store holds.
abbrev pub RestTurns : Setting → (globals reductions : ℕ) → Moment → Picture → Picture → Standing
    → Contents → Turn → Type 0
RestTurns w globals k m old new standing store Went =
    (settled m.scene ≡ goes) × HasPicture globals w.state k m new
    × ((next : Moment) × NextOf m next × (standing ≡ open_at next) × (store ≡ next.store))
RestTurns w globals k m old new standing store (Finished length) =
    (settled m.scene ≡ ends) × HasPicture globals w.state k m new × (length ≡ w.state)
    × (standing ≡ answered (Finished length) m) × (store ≡ m.store)
RestTurns w globals k m old new standing store (Undetermined state cell) =
    IsOpenCell w m cell × (state ≡ w.state) × (new ≡ old)
    × (standing ≡ answered (Undetermined state cell) m) × (store ≡ m.store)
RestTurns w globals k m old new standing store (Contradictory state clash) = ⊥
RestTurns w globals k m old new standing store (StateLimit states) = ⊥
RestTurns w globals k m old new standing store (InputMissing state port) = ⊥
RestTurns w globals k m old new standing store (Over state limit) = ⊥
