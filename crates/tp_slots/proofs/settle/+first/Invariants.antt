use Rattle.std.proofs.Common.{◌≡◌, None, ℕ, ◌+◌, ◌-◌, ◌*◌, ◌∷◌, List, take, length}
use Rattle.tp_slots.specs.Plain.{slot_at}
use Rattle.tp_slots.specs.Cost.{cost_of}
use Rattle.tp_slots.specs.Read.{afters_of, slots_of}
use Rattle.tp_slots.specs.Settled.{first_waiting}
use Rattle.tp_slots.specs.Walk.{live_in}
use Rattle.tp_slots.proofs.Firsts.{AreToVisit, cost_after}
use Rattle.tp_slots.proofs.settle.+first.Given as goal

abbrev pub decreases-first_held : goal.decreases-first_held
decreases-first_held l = 3 * (length (slots_of l.scene.now).regions - (slot_at (slots_of l.scene.now) l.item).home)

abbrev pub decreases-first_from : goal.decreases-first_from
decreases-first_from l = 3 * (length (slots_of l.scene.now).regions - (slot_at (slots_of l.scene.now) l.root).home) + 1

abbrev pub decreases-first_inside : goal.decreases-first_inside
decreases-first_inside l = 3 * (length (slots_of l.scene.now).regions - l.region) + 2

abbrev pub invariant-first_from-walk : goal.invariant-first_from-walk
invariant-first_from-walk l = (rest : List ℕ) × AreToVisit (slots_of l.scene) (afters_of l.scene) (first_waiting l.scene) l.root (l.at ∷ rest)

abbrev pub decreases-first_from-walk : goal.decreases-first_from-walk
decreases-first_from-walk l = cost_of (slots_of l.scene) l.at + cost_after (cost_of (slots_of l.scene)) (afters_of l.scene) (cost_of (slots_of l.scene) l.root) l.at

abbrev pub invariant-first_inside-loop-i : goal.invariant-first_inside-loop-i
invariant-first_inside-loop-i l = first_waiting l.scene (live_in (slots_of l.scene) (take l.i l.here.roots.items)) ≡ None
