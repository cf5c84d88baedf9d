use Rattle.std.proofs.Common.{◌≡◌, ◌<◌, length}
use Rattle.tp_decide.specs.Decided.{mark_of}
use Rattle.tp_slots.specs.Places.{place_outward}
use Rattle.tp_slots.specs.Read.{holders_of, slots_of}
use Rattle.tp_slots.proofs.flags.sees.Given as goal

abbrev pub invariant-outward : goal.invariant-outward
invariant-outward l =
    (l.at < length l.scene.regions.items)
    × ((place_outward (slots_of l.scene) (holders_of l.scene) l.at).is (mark_of l.side) ≡ (place_outward (slots_of l.scene) (holders_of l.scene) l.region).is (mark_of l.side))

abbrev pub decreases-outward : goal.decreases-outward
decreases-outward l = l.at
