-- Rest, and what a scene at rest has come to.
use Rattle.std.specs.Prelude.{◌≡◌, ℕ, Bool, true, false, not, List, [], ◌∷◌, ◌++◌, Option, if◌then◌else◌}
use Rattle.tp_scene.specs.declared.answer.Cell.{Cell}
use Rattle.tp_scene.specs.declared.answer.Cell.TheVariants.{End}
use Rattle.tp_scene.specs.Scene.{Ending, Going, Leaf, Do, Later, Shown, Holder, Split, SplitProject, Closed, Opened, Running, Entries, none, leaf, node, Scene, second_lives, only_if, has, Place, root_place, held_place, second_place}
use Rattle.tp_scene.specs.Step.{waits}
use Rattle.tp_scene.specs.Pick.{Setting, Moment, outcome_of, IsIdle}

-- At rest: no live item reduces, clashes, misses an input or passes a limit.
abbrev pub AtRest : Setting → Moment → Type 0
AtRest w m = (t : ℕ) → has t m.scene.root.entries ≡ true → IsIdle (outcome_of w m.store m.scene t)

-- an item that isn't done with this state: a formula that is to hold from it on, a `Split` whose
-- left region doesn't go, an `Opened` whose region doesn't end
abbrev pub is_unsettled : Leaf → Bool
is_unsettled (Do f env) = true
is_unsettled (Later f env) = false
is_unsettled (Shown vs) = false

-- by the place of the items of its region
abbrev pub holds_back : Holder → Place → Bool
holds_back (Split f env) q = not (q.is Going)
holds_back (SplitProject f env) q = not (q.is Going)
holds_back Closed q = false
holds_back (Opened f env) q = not (q.is Ending)
holds_back (Running f env) q = false

-- those items, in walk order
abbrev pub unsettled_items : Entries → Place → List ℕ
unsettled_items none p = []
unsettled_items (leaf id l rest) p = only_if (is_unsettled l) (id ∷ []) ++ unsettled_items rest p
unsettled_items (node id k h held g second rest) p =
    (only_if (second_lives k) (unsettled_items second (second_place g second p))
    ++ unsettled_items held (held_place k h held p))
    ++ (only_if (holds_back k (held_place k h held p)) (id ∷ []) ++ unsettled_items rest p)

-- what a scene has come to: its first item that isn't settled, or else the root's status, which may
-- be open
pub data Settled : Type 0 where
  waiting : (item : ℕ) → Settled
  end_open : Settled
  ends : Settled
  goes : Settled

abbrev pub settled_by : List ℕ → Place → Settled
settled_by (t ∷ ts) p = waiting t
settled_by [] p = if p.is Ending then ends else (if p.is Going then goes else end_open)

abbrev pub settled : Scene → Settled
settled s = settled_by (unsettled_items s.root.entries (root_place s.root)) (root_place s.root)

-- The open cell of a scene at rest that isn't settled: the first cell that its first waiting item
-- waits for, or else the root's end.
abbrev pub IsOpenCell : Setting → Moment → Cell → Type 0
IsOpenCell w m cell = by_settled (settled m.scene)
  where
    by_settled : Settled → Type 0
    by_settled (waiting t) =
        (other : Option Cell) × (outcome_of w m.store m.scene t ≡ waits cell other)
    by_settled end_open = cell ≡ End m.scene.root.head.number 0
    by_settled ends = ⊥
    by_settled goes = ⊥
