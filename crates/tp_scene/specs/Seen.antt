-- What picking an item sees of the region where it stands, and what an item that waits names.
use Rattle.std.specs.Prelude.{◌≡◌, ℕ, suc, Bool, List, Option, Some}
use Rattle.tp_scene.specs.declared.answer.Cell.{Cell}
use Rattle.tp_scene.specs.declared.answer.Cell.TheVariants.{Part, End}
use Rattle.tp_scene.specs.Scene.{Head, Leaf, Holder, Entries, leaf, node, Scene, held_place}
use Rattle.tp_scene.specs.Regions.{LiveRegion, the_root, the_held, IsTail}
use Rattle.tp_scene.specs.RegionLaws.{computed_place}
use Rattle.tp_scene.specs.Step.{waits, leaf_step, holder_step}
use Rattle.tp_scene.specs.Pick.{Setting, Moment, outcome_of, numbers_of}
use Rattle.tp_scene.specs.Laws.{IsSound}

-- Picking an item of a live region sees the region's place, and of a holder the place of the region
-- that it holds, which is in that place.
pub record SeenIn (w : Setting) (m : Moment) (h : Head) (es : Entries)
    (region : LiveRegion m.scene h es) : Type 0 where
  pub leaves : (t : ℕ) (l : Leaf) (rest : Entries) → IsTail (leaf t l rest) es
      → outcome_of w m.store m.scene t
      ≡ leaf_step w.defs w.inputs w.state m.store.facts l (computed_place region)
      (numbers_of m.scene m.store.variables)
  pub holders : (t : ℕ) (k : Holder) (i : Head) (held : Entries) (g : Head) (second rest : Entries)
      → IsTail (node t k i held g second rest) es
      → outcome_of w m.store m.scene t
      ≡ holder_step w.defs w.inputs w.state m.store.facts k (record { head = i; entries = held })
      (record { head = g; entries = second })
      (held_place k i held (computed_place region)) (numbers_of m.scene m.store.variables)

abbrev pub PicksSeePlaces : Type 0
PicksSeePlaces = (w : Setting) (kinds : List Bool) (m : Moment) → IsSound w kinds m
    → (h : Head) (es : Entries) (region : LiveRegion m.scene h es) → SeenIn w m h es region

-- how many regions stand around a region
abbrev pub regions_around : {s : Scene} {h : Head} {es : Entries} → LiveRegion s h es → ℕ
regions_around the_root = 0
regions_around (the_held around in_it) = suc (regions_around around)

-- A live region has this number and this depth.
pub record IsLiveNumber (s : Scene) (number depth : ℕ) : Type 0 where
  pub head : Head
  pub entries : Entries
  pub region : LiveRegion s head entries
  pub numbered : head.number ≡ number
  pub deep : regions_around region ≡ depth

-- a path, or the end of a live region with its depth
abbrev pub NamesCell : Scene → Cell → Type 0
NamesCell s (Part p) = Unit {0}
NamesCell s (End region depth) = IsLiveNumber s region depth

-- Each cell that an item waits for is so.
pub record AreNamed (s : Scene) (first : Cell) (other : Option Cell) : Type 0 where
  pub names_first : NamesCell s first
  pub names_other : (cell : Cell) → other ≡ Some cell → NamesCell s cell

abbrev pub WaitedEndsAreLive : Type 0
WaitedEndsAreLive =
    (w : Setting) (kinds : List Bool) (m : Moment) (t : ℕ) (first : Cell) (other : Option Cell)
    → IsSound w kinds m → outcome_of w m.store m.scene t ≡ waits first other
    → AreNamed m.scene first other
