use Rattle.std.proofs.Common.{◌≡◌, map, take}
use Rattle.tp_value.specs.Read.{tree}
use Rattle.tp_slots.proofs.values.copy_values.Given as goal

abbrev pub invariant-loop-value : goal.invariant-loop-value
invariant-loop-value l = map tree l.items.items ≡ map tree (take l.value-index l.value-items)
