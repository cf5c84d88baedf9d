use Rattle.std.proofs.Common.{map, drop, take}
use Rattle.tp_value.specs.Range.{HaveMachineNumbers}
use Rattle.tp_value.specs.Read.{tree}
use Rattle.tp_value.specs.Tree.{of_items}
use Rattle.tp_value.proofs.WritingLemmas.{Writes}
use Rattle.tp_value.proofs.writing.+append_value.Given as goal

abbrev pub invariant-loop-i : goal.invariant-loop-i
invariant-loop-i l =
    Writes l.fn.out l.out l.i (map tree (drop l.i l.item-items)) (map tree l.item-items) × HaveMachineNumbers (of_items (map tree (take l.i l.item-items)))
