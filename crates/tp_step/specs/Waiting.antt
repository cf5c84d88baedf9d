-- Which item of a state waits first.
use Rattle.std.specs.Prelude.{◌≡◌, ◌↔◌, ℕ, Bool, List, ◌∷◌, ◌++◌}
use Rattle.std.specs.List.{Contains}
use Rattle.tp_scene.specs.LiveItems.{live_items}
use Rattle.tp_scene.specs.Pick.{Setting, Moment}
use Rattle.tp_scene.specs.Rest.{AtRest, waiting, settled}
use Rattle.tp_scene.specs.CellLaws.{ItemWaits}
use Rattle.tp_scene.specs.Laws.{IsSound}

-- Of the live items in walk order this is the first that waits.
pub record WaitsFirst (w : Setting) (m : Moment) (item : ℕ) : Type 0 where
  pub waits : ItemWaits w m item
  pub before : List ℕ
  pub after : List ℕ
  pub walk : live_items m.scene.root.entries ≡ before ++ item ∷ after
  pub none_before : (earlier : ℕ) → Contains before earlier → ItemWaits w m earlier → ⊥

-- At rest, settling names an item exactly where it is the first that waits.
abbrev pub FirstWaitingIsNamed : Type 0
FirstWaitingIsNamed =
    (w : Setting) (kinds : List Bool) (m : Moment) (item : ℕ) → IsSound w kinds m → AtRest w m
    → settled m.scene ≡ waiting item ↔ WaitsFirst w m item

-- Where it names none, no live item waits.
abbrev pub NoneNamedNoneWaits : Type 0
NoneNamedNoneWaits = (w : Setting) (kinds : List Bool) (m : Moment) → IsSound w kinds m → AtRest w m
    → ((item : ℕ) → settled m.scene ≡ waiting item → ⊥) → (item : ℕ) → ItemWaits w m item → ⊥
