-- What steps and the next state keep.
use Rattle.std.specs.Prelude.{◌≡◌, ◌↔◌, ℕ, suc, ◌≤◌, ◌<◌, true, Bool, List, [], length, slice_get, Some}
use Rattle.tp_meaning.specs.Syntax.{FormulaTree}
use Rattle.tp_meaning.specs.Course.{Course, Shows, ◌⊕◌, shown_at}
use Rattle.tp_meaning.specs.Holds.{Holds}
use Rattle.tp_meaning.specs.Interval.{kinds_of, KeepsLasting}
use Rattle.tp_meaning.specs.Fits.{FormulaFits, DefinitionsFit}
use Rattle.tp_store.specs.Known.{Contents, NoClash, AreOfVariables}
use Rattle.tp_scene.specs.declared.answer.Clash.{Clash}
use Rattle.tp_scene.specs.Scene.{has}
use Rattle.tp_scene.specs.Step.{Reduction, clashes, misses}
use Rattle.tp_scene.specs.Pick.{Setting, Moment, Reduces, outcome_of}
use Rattle.tp_scene.specs.Rest.{ends, goes, settled}
use Rattle.tp_scene.specs.Advance.{advanced, shown_in, StoreGoesOn}
use Rattle.tp_scene.specs.StandsFor.{StandsFor, context_of, AgreesWithGlobals}
use Rattle.tp_scene.specs.Beginning.{first_moment}
use Rattle.tp_scene.specs.Fits.{MomentFits, kinds_in}

-- A store keeps facts of its variables without a clash, and its first variables are the globals.
pub record StoreFits (kinds : List Bool) (k : Contents) : Type 0 where
  pub no_clash : NoClash k.facts
  pub facts : AreOfVariables k.variables k.facts
  pub globals : (i : ℕ) (b : Bool) → slice_get kinds i ≡ Some b
      → slice_get (kinds_in k.variables) i ≡ Some b

-- What a run has between its steps, over global variables of these kinds.
pub record IsSound (w : Setting) (kinds : List Bool) (m : Moment) : Type 0 where
  pub definitions : DefinitionsFit w.defs kinds
  pub moment : MomentFits w.defs kinds m
  pub store : StoreFits kinds m.store

-- A reduction keeps what a moment stands for, of the intervals whose first state has the state's
-- own number.
abbrev pub StepsKeep : Type 0
StepsKeep =
    (w : Setting) (kinds : List Bool) (m : Moment) (t : ℕ) (r : Reduction) (next : Moment)
    → IsSound w kinds m → Reduces w m t r next
    → (s : Course) (a b : ℕ) (S : Shows) → (s a).own ≡ w.state
    → StandsFor w (length kinds) m s a b S ↔ StandsFor w (length kinds) next s a b S

-- and it leaves a sound moment
abbrev pub StepsFit : Type 0
StepsFit =
    (w : Setting) (kinds : List Bool) (m : Moment) (t : ℕ) (r : Reduction) (next : Moment)
    → IsSound w kinds m → Reduces w m t r next → IsSound w kinds next

-- no interval whose first state has the state's own number is stood for
abbrev pub StandsForNone : Setting → List Bool → Moment → Type 0
StandsForNone w kinds m =
    (s : Course) (a b : ℕ) (S : Shows) → (s a).own ≡ w.state → StandsFor w (length kinds) m s a b S
    → ⊥

-- where an item meets a clash, or misses an input, there is none
pub record RefusalsMean (w : Setting) (kinds : List Bool) (m : Moment) (t : ℕ) : Type 0 where
  pub clash : (c : Clash) → outcome_of w m.store m.scene t ≡ clashes c → StandsForNone w kinds m
  pub missing : (port : List ℕ) → outcome_of w m.store m.scene t ≡ misses port
      → StandsForNone w kinds m

abbrev pub RefusalsStandForNone : Type 0
RefusalsStandForNone =
    (w : Setting) (kinds : List Bool) (m : Moment) (t : ℕ) → IsSound w kinds m
    → has t m.scene.root.entries ≡ true → RefusalsMean w kinds m t

-- A settled scene that goes on stands for exactly the intervals whose first state agrees with the
-- facts of the globals, which show there what the scene shows, and whose rest the advanced scene
-- with the next store stands for.
abbrev pub AdvanceStands : Setting → List Bool → (m next : Moment) → Type 0
AdvanceStands w kinds m next = (s : Course) (a b : ℕ) (S : Shows) → KeepsLasting kinds s a b
    → StandsFor w (length kinds) m s a b S
    ↔ ((a < b) × AgreesWithGlobals (length kinds) s a m.store.facts
    × ((U : Shows) × (S ≡ shown_at a (shown_in m.scene.root.entries) ⊕ U)
    × StandsFor w (length kinds) next s (suc a) b U))

abbrev pub AdvancesKeep : Type 0
AdvancesKeep =
    (w : Setting) (kinds : List Bool) (m next : Moment) → IsSound w kinds m → settled m.scene ≡ goes
    → next.scene ≡ advanced m.scene → StoreGoesOn m.store next.store → AdvanceStands w kinds m next

-- and it is sound in each state
abbrev pub AdvancesFit : Type 0
AdvancesFit =
    (w : Setting) (kinds : List Bool) (m next : Moment) → IsSound w kinds m → settled m.scene ≡ goes
    → next.scene ≡ advanced m.scene → StoreGoesOn m.store next.store
    → (own : ℕ) → IsSound (record { defs = w.defs; inputs = w.inputs; state = own }) kinds next

-- One that ends stands for exactly the intervals of one state that agrees with the facts of the
-- globals, which show what the scene shows.
abbrev pub EndStands : Setting → List Bool → Moment → Type 0
EndStands w kinds m = (s : Course) (a b : ℕ) (S : Shows)
    → StandsFor w (length kinds) m s a b S
    ↔ ((a ≡ b) × AgreesWithGlobals (length kinds) s a m.store.facts
    × (S ≡ shown_at a (shown_in m.scene.root.entries)))

abbrev pub EndsStand : Type 0
EndsStand =
    (w : Setting) (kinds : List Bool) (m : Moment) → IsSound w kinds m → settled m.scene ≡ ends
    → EndStands w kinds m

-- A run begins with what stands for exactly the intervals on which the formula holds, and is sound.
pub record BeginsRun (w : Setting) (names : List (List ℕ)) (main : FormulaTree) : Type 0 where
  pub stands : (s : Course) (a b : ℕ) (S : Shows)
      → StandsFor w (length (kinds_of names)) (first_moment names main) s a b S
      ↔ ((a ≤ b) × ((d : ℕ) × Holds (context_of w) d main [] s a b S))
  pub sound : IsSound w (kinds_of names) (first_moment names main)

abbrev pub RunsBegin : Type 0
RunsBegin =
    (w : Setting) (names : List (List ℕ)) (main : FormulaTree)
    → DefinitionsFit w.defs (kinds_of names) → FormulaFits w.defs (kinds_of names) main 0
    → BeginsRun w names main
