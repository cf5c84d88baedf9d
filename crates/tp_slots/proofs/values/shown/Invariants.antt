use Rattle.std.proofs.Common.{◌≡◌, map, take}
use Rattle.tp_decide.specs.Read.{values_of}
use Rattle.tp_slots.specs.Read.{slots_of}
use Rattle.tp_slots.specs.Settled.{shows_at}
use Rattle.tp_slots.proofs.values.shown.Given as goal

abbrev pub invariant-loop-i : goal.invariant-loop-i
invariant-loop-i l = map values_of l.all.items ≡ shows_at (slots_of l.scene) (take l.i l.ids.items)
