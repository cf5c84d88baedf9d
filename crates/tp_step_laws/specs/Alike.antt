-- Moments that are alike: a renaming carries one into the other.
use Rattle.std.specs.Prelude.{◌≡◌, ℕ, Bool, List, length, slice_get}
use Rattle.tp_store.specs.Known.{facts_below}
use Rattle.tp_store.specs.Changes.{HaveSameShapes}
use Rattle.tp_scene.specs.declared.answer.Cell.{Cell}
use Rattle.tp_scene.specs.Pick.{Setting, Moment}
use Rattle.tp_scene.specs.Rest.{ends, goes, settled, IsOpenCell}
use Rattle.tp_scene.specs.Advance.{advanced, shown_in, StoreGoesOn}
use Rattle.tp_scene.specs.Laws.{IsSound}
use Rattle.tp_step_laws.specs.Renaming.{FactsAlike, renamed_region, FixesFrom}
use Rattle.tp_step_laws.specs.Maps.{Renaming, FixesBelow, renamed_cell}

-- The renaming carries the one moment into the other. It leaves the numbers alone that the next
-- step takes, and the globals.
pub record AlikeBy (globals : ℕ) (ρ : Renaming) (m n : Moment) : Type 0 where
  pub root : n.scene.root ≡ renamed_region ρ m.scene.root
  pub next_item : n.scene.next_item ≡ m.scene.next_item
  pub next_region : n.scene.next_region ≡ m.scene.next_region
  pub count : length n.store.variables ≡ length m.store.variables
  pub variables : (i : ℕ)
      → slice_get n.store.variables (ρ.local.to i) ≡ slice_get m.store.variables i
  pub facts : FactsAlike ρ m.store.facts n.store.facts
  pub items_fixed : FixesFrom m.scene.next_item ρ.item
  pub regions_fixed : FixesFrom m.scene.next_region ρ.region
  pub locals_fixed : FixesFrom (length m.store.variables) ρ.local
  pub globals_fixed : FixesBelow globals ρ.local

-- some renaming does
abbrev pub Alike : (globals : ℕ) → Moment → Moment → Type 0
Alike globals m n = (ρ : Renaming) × AlikeBy globals ρ m n

-- Of moments that are alike one is settled where the other is, and as that one; one is open at a
-- cell where the other is open at the renamed one; both show the same, and have the same facts of
-- the globals.
pub record SettlesAlike (w : Setting) (globals : ℕ) (m n : Moment) (ρ : Renaming) : Type 0 where
  pub ends_too : settled m.scene ≡ ends → settled n.scene ≡ ends
  pub goes_too : settled m.scene ≡ goes → settled n.scene ≡ goes
  pub open_too : (c : Cell) → IsOpenCell w m c → IsOpenCell w n (renamed_cell ρ c)
  pub shows : shown_in n.scene.root.entries ≡ shown_in m.scene.root.entries
  pub facts : HaveSameShapes (facts_below globals n.store.facts) (facts_below globals m.store.facts)

-- They are, where they are sound.
abbrev pub AlikeMomentsSettle : Type 0
AlikeMomentsSettle = (w : Setting) (kinds : List Bool) (m n : Moment) (ρ : Renaming)
    → IsSound w kinds m → IsSound w kinds n
    → AlikeBy (length kinds) ρ m n → SettlesAlike w (length kinds) m n ρ

-- Where the next states begin with what moments that are alike go on to, these are alike too.
abbrev pub AlikeMomentsAdvance : Type 0
AlikeMomentsAdvance = (globals : ℕ) (m n m' n' : Moment) → Alike globals m n
    → m'.scene ≡ advanced m.scene → StoreGoesOn m.store m'.store → n'.scene ≡ advanced n.scene
    → StoreGoesOn n.store n'.store
    → Alike globals m' n'
