-- Picking an item of a scene.
use Rattle.std.specs.Prelude.{◌≡◌, ℕ, ◌+◌, ◌&&◌, true, cond, eqb, List, [], ◌∷◌, ◌++◌, length, Option, Some, None}
use Rattle.tp_value.specs.declared.path.Fact.{Fact}
use Rattle.tp_value.specs.declared.path.Path.{Path}
use Rattle.tp_meaning.specs.Syntax.{Definition}
use Rattle.tp_meaning.specs.Inputs.{InputTable}
use Rattle.tp_store.specs.Facts.{kept_shape}
use Rattle.tp_store.specs.Known.{Contents, Variable, NoClash}
use Rattle.tp_scene.specs.Scene.{Side, Ending, Going, Head, Entries, none, leaf, node, Region, Scene, second_lives, has, has_here, append, Place, root_place, held_place, second_place}
use Rattle.tp_scene.specs.Step.{Reduction, PickOutcome, reduces, waits, rests, clashes, misses, passes, Numbers, leaf_step, holder_step}

-- what a state is read with: the program's definitions, the inputs, and the state's own number
pub record Setting : Type 0 where
  pub defs : List Definition
  pub inputs : InputTable
  pub state : ℕ

module _ (w : Setting) (facts : List Fact) where
  -- what picking the live item t gives, in a region of that place; resting where it isn't there
  abbrev pub pick : ℕ → Entries → Place → Numbers → PickOutcome
  pick t none p n = rests
  pick t (leaf id l rest) p n =
      cond (eqb id t) (leaf_step w.defs w.inputs w.state facts l p n) (pick t rest p n)
  pick t (node id k h held g second rest) p n =
      cond (eqb id t) (holder_step w.defs w.inputs w.state facts k
      (record { head = h; entries = held }) (record { head = g; entries = second })
      (held_place k h held p) n)
      (cond (second_lives k && has t second) (pick t second (second_place g second p) n)
      (cond (has t held) (pick t held (held_place k h held p) n) (pick t rest p n)))

abbrev pub mark_head : Option Side → Head → Head
mark_head None h = h
mark_head (Some Ending) h = record { number = h.number; ends = true; goes = h.goes }
mark_head (Some Going) h = record { number = h.number; ends = h.ends; goes = true }

-- the mark goes to the region in which the item itself stands
abbrev pub mark_at : ℕ → Option Side → Head → Entries → Head
mark_at t m h es = cond (has_here t es) (mark_head m h) h

-- the entries with `news` in place of the item t
abbrev pub put : ℕ → Option Side → (news : Entries) → Entries → Entries
put t m news none = none
put t m news (leaf id l rest) = cond (eqb id t) (append news rest) (leaf id l (put t m news rest))
put t m news (node id k h held g second rest) =
    cond (eqb id t) (append news rest)
    (cond (second_lives k && has t second)
    (node id k h held (mark_at t m g second) (put t m news second) rest)
    (cond (has t held) (node id k (mark_at t m h held) (put t m news held) g second rest)
    (node id k h held g second (put t m news rest))))

abbrev pub put_in : ℕ → Option Side → (news : Entries) → Region → Region
put_in t m news r = record { head = mark_at t m r.head r.entries; entries = put t m news r.entries }

-- new items, regions and locals take the next numbers
abbrev pub numbers_of : Scene → List Variable → Numbers
numbers_of s variables =
    record { item = λ i. i + s.next_item; region = s.next_region; local = length variables }

-- what picking an item gives
abbrev pub outcome_of : Setting → Contents → Scene → ℕ → PickOutcome
outcome_of w store s t =
    pick w store.facts t s.root.entries (root_place s.root) (numbers_of s store.variables)

-- the scene after a reduction of the item t
abbrev pub scene_after : ℕ → Reduction → Scene → Scene
scene_after t r s =
    record {
      root = put_in t r.mark r.news s.root;
      next_item = s.next_item + r.items;
      next_region = s.next_region + r.regions;
    }

abbrev pub with_local : Option Variable → List Variable → List Variable
with_local None xs = xs
with_local (Some x) xs = xs ++ x ∷ []

-- The store after a reduction keeps what was kept and the new facts, in any order, and has the new
-- local. (What was kept stays kept.)
pub record HasAdded (old : Contents) (facts : List Fact) (local : Option Variable)
    (new : Contents) : Type 0 where
  pub kept : (p : Path) → kept_shape new.facts p ≡ kept_shape (old.facts ++ facts) p
  pub no_clash : NoClash new.facts
  pub variables : new.variables ≡ with_local local old.variables

-- Where a state stands: its scene, and what is known.
pub record Moment : Type 0 where
  pub scene : Scene
  pub store : Contents

-- Picking the item t leads from one moment to another by this reduction.
pub record Reduces (w : Setting) (m : Moment) (t : ℕ) (r : Reduction) (next : Moment) : Type 0 where
  pub lives : has t m.scene.root.entries ≡ true
  pub outcome : outcome_of w m.store m.scene t ≡ reduces r
  pub scene : next.scene ≡ scene_after t r m.scene
  pub store : HasAdded m.store r.facts r.local next.store

-- Picking these items in order leads from one moment to another.
abbrev pub Leads : Setting → Moment → (picks : List ℕ) → Moment → Type 0
Leads w m [] last = last ≡ m
Leads w m (t ∷ ts) last =
    (r : Reduction) × (next : Moment) × Reduces w m t r next × Leads w next ts last

-- nothing comes of the item in this state as it is
abbrev pub IsIdle : PickOutcome → Type 0
IsIdle (waits first other) = Unit {0}
IsIdle rests = Unit {0}
IsIdle (reduces r) = ⊥
IsIdle (clashes c) = ⊥
IsIdle (misses port) = ⊥
IsIdle (passes k) = ⊥
