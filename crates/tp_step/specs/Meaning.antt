-- What the calls' answers say of every interval.
use Rattle.std.specs.Prelude.{◌≡◌, ◌↔◌, ◌≤◌, ℕ, Bool, List, [], length}
use Rattle.tp_meaning.specs.Syntax.{FormulaTree}
use Rattle.tp_meaning.specs.Course.{Course, Shows}
use Rattle.tp_meaning.specs.Holds.{Holds}
use Rattle.tp_meaning.specs.Interval.{kinds_of}
use Rattle.tp_meaning.specs.Fits.{FormulaFits, DefinitionsFit}
use Rattle.tp_store.specs.Known.{Contents, new_store}
use Rattle.tp_scene.specs.Pick.{Setting, Moment}
use Rattle.tp_scene.specs.Rest as rest
use Rattle.tp_scene.specs.StandsFor.{StandsFor, context_of}
use Rattle.tp_scene.specs.Laws.{IsSound, StandsForNone, AdvanceStands, EndStands}
use Rattle.tp_scene.specs.Advance.{StoreGoesOn}
use Rattle.tp_slots.specs.declared.scene.Scene.{Scene}
use Rattle.tp_slots.specs.Read.{scene_of}
use Rattle.tp_step.specs.Answers.{moment_of}
use Rattle.tp_step.specs.declared.answer.Tried.{Tried}
use Rattle.tp_step.specs.declared.answer.Tried.TheVariants as tried

-- A reduction keeps what scene and store stand for, of the intervals whose first state has the
-- state's own number; where an item meets a clash, or misses an input, they stand for none of
-- these.
abbrev pub TryMeans : Setting → (m next : Moment) → Tried → Type 0
TryMeans w m next (tried.Reduced news) =
    (kinds : List Bool) → IsSound w kinds m → (s : Course) (a b : ℕ) (S : Shows)
    → (s a).own ≡ w.state → StandsFor w (length kinds) m s a b S
    ↔ StandsFor w (length kinds) next s a b S
TryMeans w m next (tried.Clash clash) =
    (kinds : List Bool) → IsSound w kinds m → StandsForNone w kinds m
TryMeans w m next (tried.Missing port) =
    (kinds : List Bool) → IsSound w kinds m → StandsForNone w kinds m
TryMeans w m next (tried.Waits first other) = Unit {0}
TryMeans w m next tried.Rests = Unit {0}
TryMeans w m next (tried.Over limit) = Unit {0}

-- A scene, with a new store of the globals, stands for exactly the intervals on which the formula
-- holds, with what is shown on them.
abbrev pub StandsForAllOf : FormulaTree → Scene → Type 0
StandsForAllOf main scene =
    (w : Setting) (names : List (List ℕ)) → DefinitionsFit w.defs (kinds_of names)
    → FormulaFits w.defs (kinds_of names) main 0
    → (s : Course) (a b : ℕ) (S : Shows)
    → StandsFor w (length (kinds_of names)) (moment_of scene (new_store names)) s a b S
    ↔ ((a ≤ b) × ((d : ℕ) × Holds (context_of w) d main [] s a b S))

-- and both are sound
abbrev pub StartIsSound : FormulaTree → Scene → Type 0
StartIsSound main scene =
    (w : Setting) (names : List (List ℕ)) → DefinitionsFit w.defs (kinds_of names)
    → FormulaFits w.defs (kinds_of names) main 0
    → IsSound w (kinds_of names) (moment_of scene (new_store names))

-- Scene and store stood for the intervals that have a next state, whose first state agrees with the
-- facts of the globals and shows what the scene shows, and whose rest the next scene and a store
-- for the next state stand for.
abbrev pub AdvanceMeans : (scene next : Scene) → Type 0
AdvanceMeans scene next =
    (w : Setting) (kinds : List Bool) (k j : Contents) → IsSound w kinds (moment_of scene k)
    → StoreGoesOn k j → AdvanceStands w kinds (moment_of scene k) (moment_of next j)

-- and these are sound in the next state, whatever its number
abbrev pub AdvanceIsSound : (scene next : Scene) → Type 0
AdvanceIsSound scene next =
    (w : Setting) (kinds : List Bool) (k j : Contents) → IsSound w kinds (moment_of scene k)
    → StoreGoesOn k j → (own : ℕ)
    → IsSound (record { defs = w.defs; inputs = w.inputs; state = own }) kinds
    (moment_of next j)

-- Where a scene is settled and ends, it and its store stand for the intervals of one state that
-- agrees with the facts of the globals, which show what the scene shows.
abbrev pub EndMeans : Scene → Type 0
EndMeans scene =
    rest.settled (scene_of scene) ≡ rest.ends → (w : Setting) (kinds : List Bool) (k : Contents)
    → IsSound w kinds (moment_of scene k) → EndStands w kinds (moment_of scene k)
