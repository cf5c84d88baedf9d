use Rattle.std.proofs.Common.{◌≡◌, ◌≤◌, ◌<◌, true, length}
use Rattle.tp_decide.specs.Decided.{mark_of}
use Rattle.tp_scene.specs.Scene.{other_side}
use Rattle.tp_slots.specs.Flags.{AgreeBelow, Pending, flags_in}
use Rattle.tp_slots.specs.Kept.{IsQuiet}
use Rattle.tp_slots.specs.Lives.{lives_in}
use Rattle.tp_slots.specs.Read.{afters_of, flags_of, holders_of, slots_of}
use Rattle.tp_slots.proofs.flags.raise.Given as goal

abbrev pub invariant-outward : goal.invariant-outward
invariant-outward l = record {
  within : l.at < length l.scene.regions.items;
  slots : slots_of l.scene ≡ slots_of l.fn.scene;
  holders : holders_of l.scene ≡ holders_of l.fn.scene;
  other : flags_of (other_side (mark_of l.side)) l.scene ≡ flags_of (other_side (mark_of l.side)) l.fn.scene;
  afters : afters_of l.scene ≡ afters_of l.fn.scene;
  looks : l.scene.looks ≡ l.fn.scene.looks;
  lives : lives_in (slots_of l.fn.scene) (holders_of l.fn.scene) l.at ≡ true;
  pending : Pending (slots_of l.fn.scene) (mark_of l.side) (flags_in (flags_of (mark_of l.side) l.scene)) l.at;
  most : l.at ≤ l.top;
  below : AgreeBelow l.top (flags_in (flags_of (mark_of l.side) l.fn.scene)) (flags_in (flags_of (mark_of l.side) l.scene));
  quiet : IsQuiet (slots_of l.fn.scene) (holders_of l.fn.scene) (flags_in (flags_of (mark_of l.side) l.scene));
}

abbrev pub decreases-outward : goal.decreases-outward
decreases-outward l = l.at
