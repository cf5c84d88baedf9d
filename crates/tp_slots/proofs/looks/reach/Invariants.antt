use Rattle.std.proofs.Common.{◌+◌, ◌-◌, length}
use Rattle.tp_slots.specs.Looks.{IsLonger}
use Rattle.tp_slots.proofs.looks.reach.Given as goal

abbrev pub invariant-longer : goal.invariant-longer
invariant-longer l = IsLonger l.region l.fn.depths.items l.depths.items

abbrev pub decreases-longer : goal.decreases-longer
decreases-longer l = l.region + 1 - length l.depths.items
