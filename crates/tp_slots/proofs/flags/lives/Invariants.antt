use Rattle.std.proofs.Common.{◌≡◌, ◌<◌, length}
use Rattle.tp_slots.specs.Lives.{lives_in}
use Rattle.tp_slots.specs.Read.{holders_of, slots_of}
use Rattle.tp_slots.proofs.flags.lives.Given as goal

abbrev pub invariant-outward : goal.invariant-outward
invariant-outward l = (l.at < length l.scene.regions.items) × (lives_in (slots_of l.scene) (holders_of l.scene) l.at ≡ lives_in (slots_of l.scene) (holders_of l.scene) l.region)

abbrev pub decreases-outward : goal.decreases-outward
decreases-outward l = l.at
