-- Where a state goes on, the next one begins with a scene of `Do`, `Split` and `SplitProject`
-- alone.
use Rattle.std.specs.Prelude.{ℕ, Bool, List}
use Rattle.tp_scene.specs.Pick.{Setting, Moment}
use Rattle.tp_scene.specs.Replay.{Goes}
use Rattle.tp_scene.specs.Advance.{advanced}
use Rattle.tp_scene.specs.Laws.{IsSound}
use Rattle.tp_residual.specs.Carried.{AreCarried}

pub record NextScenesAreCarried : Type 0 where
  -- what a sound moment leaves for the next state
  pub advance : (w : Setting) (kinds : List Bool) (m : Moment) → IsSound w kinds m
      → AreCarried (advanced m.scene).root.entries
  -- and what a state leaves that begins with one
  pub goes : (w : Setting) (kinds : List Bool) (most : ℕ) (m : Moment) (picks : List ℕ)
      (last next : Moment) → IsSound w kinds m → Goes w most m picks last next
      → AreCarried next.scene.root.entries
