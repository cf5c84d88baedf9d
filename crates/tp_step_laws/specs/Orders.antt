-- Orders of picks: two picks in either order, and one rest for every list of picks.
use Rattle.std.specs.Prelude.{◌≡◌, ◌≢◌, ◌⊎◌, ℕ, ◌+◌, true, Bool, List, length}
use Rattle.tp_meaning.specs.Syntax.{FormulaTree}
use Rattle.tp_meaning.specs.Interval.{kinds_of}
use Rattle.tp_meaning.specs.Fits.{FormulaFits, DefinitionsFit}
use Rattle.tp_scene.specs.Scene.{has}
use Rattle.tp_scene.specs.Step.{Reduction}
use Rattle.tp_scene.specs.Pick.{Setting, Moment, Reduces, Leads, outcome_of}
use Rattle.tp_scene.specs.Rest.{AtRest, goes, settled}
use Rattle.tp_scene.specs.Advance.{advanced, StoreGoesOn}
use Rattle.tp_scene.specs.Beginning.{first_moment}
use Rattle.tp_scene.specs.Laws.{IsSound}
use Rattle.tp_step_laws.specs.Rows.{IsFailure}
use Rattle.tp_inputs.specs.Within.{InputsWithin}
use Rattle.tp_step_laws.specs.Within.{LengthsAreWithin, EntriesWithin}
use Rattle.tp_step_laws.specs.Maps.{Renaming}
use Rattle.tp_step_laws.specs.Alike.{AlikeBy, Alike}

-- What a run has between its steps: a sound moment in which kept lengths, bound values and inputs
-- are within the limits.
pub record IsOrderly (w : Setting) (kinds : List Bool) (m : Moment) : Type 0 where
  pub sound : IsSound w kinds m
  pub lengths : LengthsAreWithin m.store.facts
  pub bound : EntriesWithin m.scene.root.entries
  pub inputs : InputsWithin w.inputs

-- Steps keep that.
abbrev pub StepsStayOrderly : Type 0
StepsStayOrderly = (w : Setting) (kinds : List Bool) (m : Moment) (t : ℕ) (r : Reduction)
    (next : Moment)
    → IsOrderly w kinds m → Reduces w m t r next → IsOrderly w kinds next

-- A run begins so, with such inputs,
abbrev pub BeginsOrderly : Type 0
BeginsOrderly = (w : Setting) (names : List (List ℕ)) (main : FormulaTree)
    → DefinitionsFit w.defs (kinds_of names) → FormulaFits w.defs (kinds_of names) main 0
    → InputsWithin w.inputs
    → IsOrderly w (kinds_of names) (first_moment names main)

-- and so does the next state, whatever its number.
abbrev pub AdvancesStayOrderly : Type 0
AdvancesStayOrderly = (w : Setting) (kinds : List Bool) (m next : Moment) → IsOrderly w kinds m
    → settled m.scene ≡ goes
    → next.scene ≡ advanced m.scene → StoreGoesOn m.store next.store
    → (own : ℕ) → IsOrderly (record { defs = w.defs; inputs = w.inputs; state = own }) kinds next

-- the item is live, and meets a clash, misses an input or passes a limit
abbrev pub MeetsFailure : Setting → Moment → ℕ → Type 0
MeetsFailure w m t = (has t m.scene.root.entries ≡ true)
    × IsFailure (outcome_of w m.store m.scene t)

-- picking the item leads to that moment
abbrev pub StepsTo : Setting → Moment → ℕ → Moment → Type 0
StepsTo w m t next = (r : Reduction) × Reduces w m t r next

-- What fails goes on to fail where another item has a step.
abbrev pub FailuresStay : Type 0
FailuresStay = (w : Setting) (kinds : List Bool) (m next : Moment) (t u : ℕ) → t ≢ u
    → IsOrderly w kinds m → StepsTo w m t next → MeetsFailure w m u → MeetsFailure w next u

-- Each of two items has a step after the other's, with ends that are alike.
pub record BothOrders (w : Setting) (globals : ℕ) (a b : Moment) (t u : ℕ) : Type 0 where
  pub first : Moment
  pub second : Moment
  pub then_other : StepsTo w a u first
  pub other_then : StepsTo w b t second
  pub alike : Alike globals first second

-- Where the second fails after the first, the first fails after the second.
abbrev pub FailuresAreMutual : Type 0
FailuresAreMutual = (w : Setting) (kinds : List Bool) (m a b : Moment) (t u : ℕ) → t ≢ u
    → IsOrderly w kinds m → StepsTo w m t a → StepsTo w m u b → MeetsFailure w a u
    → MeetsFailure w b t

-- Two items that both have a step have one in both orders, or each fails after the other.
abbrev pub Commute : Type 0
Commute = (w : Setting) (kinds : List Bool) (m a b : Moment) (t u : ℕ) → t ≢ u → IsOrderly w kinds m
    → StepsTo w m t a → StepsTo w m u b
    → BothOrders w (length kinds) a b t u ⊎ (MeetsFailure w a u × MeetsFailure w b t)

-- Moments that are alike have the same steps and failures, up to the renaming, and rest together.
pub record AlikeSteps (w : Setting) (kinds : List Bool) (m n : Moment) (ρ : Renaming) : Type 0 where
  pub steps : (t : ℕ) (next : Moment) → StepsTo w m t next → (next' : Moment)
      × StepsTo w n (ρ.item.to t) next' × AlikeBy (length kinds) ρ next next'
  pub fails : (t : ℕ) → MeetsFailure w m t → MeetsFailure w n (ρ.item.to t)
  pub rest : AtRest w m → AtRest w n

-- They do, where they are orderly.
abbrev pub AlikeMomentsStep : Type 0
AlikeMomentsStep = (w : Setting) (kinds : List Bool) (m n : Moment) (ρ : Renaming)
    → IsOrderly w kinds m → IsOrderly w kinds n → AlikeBy (length kinds) ρ m n
    → AlikeSteps w kinds m n ρ

-- likeness is an equivalence of sound moments
pub record AlikeIsEquivalence (w : Setting) (kinds : List Bool) : Type 0 where
  pub itself : (m : Moment) → IsSound w kinds m → Alike (length kinds) m m
  pub back : (m n : Moment) → IsSound w kinds m → IsSound w kinds n → Alike (length kinds) m n
      → Alike (length kinds) n m
  pub on : (m n k : Moment) → IsSound w kinds m → IsSound w kinds n → IsSound w kinds k
      → Alike (length kinds) m n → Alike (length kinds) n k → Alike (length kinds) m k
  -- a step leads to one moment, up to the order of facts
  pub one : (m a b : Moment) (t : ℕ) → IsSound w kinds m → StepsTo w m t a → StepsTo w m t b
      → Alike (length kinds) a b

-- A list of picks goes on to a rest that is alike, with as many picks in all, and meets no failure.
pub record GoesOnToRest (w : Setting) (globals : ℕ) (picks : ℕ) (end : Moment) (so_far : List ℕ)
    (there : Moment) : Type 0 where
  pub more : List ℕ
  pub last : Moment
  pub leads : Leads w there more last
  pub count : length so_far + length more ≡ picks
  pub alike : Alike globals end last
  pub rest : AtRest w last
  pub safe : (t : ℕ) → MeetsFailure w there t → ⊥

-- Where some picks lead to rest, every list of picks does so.
abbrev pub OneRestOf : Setting → List Bool → Type 0
OneRestOf w kinds = (m end there : Moment) (ps qs : List ℕ) → IsOrderly w kinds m → Leads w m ps end
    → AtRest w end → Leads w m qs there
    → GoesOnToRest w (length kinds) (length ps) end qs there
