-- The items that aren't picked stay what they are.
use Rattle.std.specs.Prelude.{◌≡◌, ◌≢◌, ℕ, true, Bool, List}
use Rattle.tp_scene.specs.Scene.{Place, root_place, has}
use Rattle.tp_scene.specs.Pick.{Setting, Moment}
use Rattle.tp_scene.specs.Laws.{IsSound}
use Rattle.tp_step_laws.specs.Edits.{Thing, At, Stays}
use Rattle.tp_step_laws.specs.Orders.{StepsTo}

-- The item is live in both moments, as the same thing, which knows as much or more in the second.
pub record StandsAsBefore (m next : Moment) (u : ℕ) : Type 0 where
  pub thing : Thing
  pub place : Place
  pub before : At u thing place m.scene.root.entries (root_place m.scene.root)
  pub after : Stays u thing place next.scene.root.entries (root_place next.scene.root)

-- A live item does so where another one is picked.
abbrev pub OthersStandAsBefore : Type 0
OthersStandAsBefore = (w : Setting) (kinds : List Bool) (m next : Moment) (t u : ℕ) → t ≢ u
    → IsSound w kinds m → StepsTo w m t next → has u m.scene.root.entries ≡ true
    → StandsAsBefore m next u
