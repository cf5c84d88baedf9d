-- One state of a run: what picks lead to, and how a state ends.
use Rattle.std.specs.Prelude.{◌≡◌, ℕ, ◌≤◌, true, List, length}
use Rattle.tp_kernel.specs.declared.fault.LimitKind.{LimitKind}
use Rattle.tp_scene.specs.declared.answer.Cell.{Cell}
use Rattle.tp_scene.specs.declared.answer.Clash.{Clash}
use Rattle.tp_scene.specs.Scene.{has}
use Rattle.tp_scene.specs.Step.{Reduction, PickOutcome, reduces, clashes, misses, passes}
use Rattle.tp_scene.specs.Pick.{Setting, Moment, Leads, outcome_of}
use Rattle.tp_scene.specs.Rest.{AtRest, settled, goes, ends, IsOpenCell}
use Rattle.tp_scene.specs.Advance.{advanced, StoreGoesOn}

-- Of a state that begins with the moment m, within which there are at most `most` picks.
-- picking these items leads to a scene at rest
pub record Closes (w : Setting) (most : ℕ) (m : Moment) (picks : List ℕ)
    (last : Moment) : Type 0 where
  pub leads : Leads w m picks last
  pub within : length picks ≤ most
  pub rest : AtRest w last

-- which is settled and goes on, and `next` is what the next state begins with
pub record Goes (w : Setting) (most : ℕ) (m : Moment) (picks : List ℕ)
    (last next : Moment) : Type 0 where
  pub closes : Closes w most m picks last
  pub settles : settled last.scene ≡ goes
  pub scene : next.scene ≡ advanced last.scene
  pub store : StoreGoesOn last.store next.store

-- which is settled and ends
pub record Ends (w : Setting) (most : ℕ) (m : Moment) (picks : List ℕ)
    (last : Moment) : Type 0 where
  pub closes : Closes w most m picks last
  pub settles : settled last.scene ≡ ends

-- which is open at this cell
pub record IsOpen (w : Setting) (most : ℕ) (m : Moment) (cell : Cell) : Type 0 where
  pub picks : List ℕ
  pub last : Moment
  pub closes : Closes w most m picks last
  pub cell_is : IsOpenCell w last cell

-- Picks lead to where some live item has this outcome.
pub record MeetsOutcome (w : Setting) (most : ℕ) (m : Moment) (met : PickOutcome) : Type 0 where
  pub picks : List ℕ
  pub last : Moment
  pub leads : Leads w m picks last
  pub within : length picks ≤ most
  pub item : ℕ
  pub lives : has item last.scene.root.entries ≡ true
  pub outcome : outcome_of w last.store last.scene item ≡ met

abbrev pub MeetsClash : Setting → ℕ → Moment → Clash → Type 0
MeetsClash w most m clash = MeetsOutcome w most m (clashes clash)

abbrev pub MissesInput : Setting → ℕ → Moment → (port : List ℕ) → Type 0
MissesInput w most m port = MeetsOutcome w most m (misses port)

abbrev pub PassesLimit : Setting → ℕ → Moment → LimitKind → Type 0
PassesLimit w most m limit = MeetsOutcome w most m (passes limit)

-- As many picks as there may be lead to where one more item has a step.
pub record UsesUp (w : Setting) (most : ℕ) (m : Moment) : Type 0 where
  pub picks : List ℕ
  pub last : Moment
  pub leads : Leads w m picks last
  pub all : length picks ≡ most
  pub item : ℕ
  pub reduction : Reduction
  pub lives : has item last.scene.root.entries ≡ true
  pub outcome : outcome_of w last.store last.scene item ≡ reduces reduction
