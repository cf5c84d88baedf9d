-- Picking an item by its slot.
use Rattle.std.specs.Prelude.{ℕ, ◌&&◌, cond, eqb}
use Rattle.tp_value.specs.declared.path.Fact.{Fact}
use Rattle.tp_scene.specs.Scene.{Entries, none, leaf, node, has, second_lives, Place, held_place, second_place}
use Rattle.std.specs.Prelude.{List}
use Rattle.tp_scene.specs.Step.{PickOutcome, rests, Numbers, leaf_step, holder_step}
use Rattle.tp_scene.specs.Pick.{Setting}
use Rattle.tp_slots.specs.Plain.{What, bare, holds, gone, Slots, head_at, other_head, second_of, entries_at}

-- the place of the region in which the live item t stands, where that of these entries is p
abbrev pub item_place : (t : ℕ) → Place → Entries → Place
item_place t p none = p
item_place t p (leaf id l rest) = cond (eqb id t) p (item_place t p rest)
item_place t p (node id k h held g second rest) =
    cond (eqb id t) p (cond (second_lives k && has t second)
    (item_place t (second_place g second p) second)
    (cond (has t held) (item_place t (held_place k h held p) held) (item_place t p rest)))

-- what comes of picking what stands in a slot, in a region of that place
abbrev pub what_step : Setting → List Fact → Slots → What → Place → Numbers → PickOutcome
what_step w facts s (bare l) p n = leaf_step w.defs w.inputs w.state facts l p n
what_step w facts s (holds k r q) p n =
    holder_step w.defs w.inputs w.state facts k
    (record { head = head_at s r; entries = entries_at s r })
    (record { head = other_head s q; entries = second_of (entries_at s) q })
    (held_place k (head_at s r) (entries_at s r) p) n
what_step w facts s (gone by) p n = rests

-- it holds a region
abbrev pub IsHolding : What → Type 0
IsHolding (bare l) = ⊥
IsHolding (holds k r q) = Unit {0}
IsHolding (gone by) = ⊥

-- the region that it holds, which isn't the outer one of `SplitProject` and of `Running`
abbrev pub first_held : What → ℕ
first_held (bare l) = 0
first_held (holds k r q) = r
first_held (gone by) = 0

-- what comes of picking what stands in a slot, where the region that it holds has that place
abbrev pub held_step : Setting → List Fact → Slots → What → Place → Numbers → PickOutcome
held_step w facts s (bare l) p n = rests
held_step w facts s (holds k r q) p n =
    holder_step w.defs w.inputs w.state facts k
    (record { head = head_at s r; entries = entries_at s r })
    (record { head = other_head s q; entries = second_of (entries_at s) q }) p n
held_step w facts s (gone by) p n = rests
