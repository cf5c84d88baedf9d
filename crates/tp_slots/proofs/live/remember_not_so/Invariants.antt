use Rattle.std.proofs.Common.{◌≡◌, ◌<◌, false, length}
use Rattle.tp_decide.specs.Decided.{mark_of}
use Rattle.tp_slots.specs.Looks.{LooksAreRight}
use Rattle.tp_slots.specs.Places.{place_outward}
use Rattle.tp_slots.specs.Read.{holders_of, slots_of}
use Rattle.tp_slots.proofs.live.remember_not_so.Given as goal

abbrev pub invariant-outward : goal.invariant-outward
invariant-outward l = record {
  within : l.at < length l.fn.scene.regions.items;
  slots : l.scene.slots ≡ l.fn.scene.slots;
  regions : l.scene.regions ≡ l.fn.scene.regions;
  not_so : (place_outward (slots_of l.fn.scene) (holders_of l.fn.scene) l.at).is (mark_of l.side) ≡ false;
  looks : LooksAreRight (slots_of l.fn.scene) (holders_of l.fn.scene) l.scene.looks;
}

abbrev pub decreases-outward : goal.decreases-outward
decreases-outward l = l.at
