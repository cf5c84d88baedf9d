use Rattle.std.proofs.Common.{◌≡◌, ◌++◌, All, take, map}
use Rattle.std.specs.List.{flat_map}
use Rattle.tp_value.specs.Range.{HasMachineNumbers}
use Rattle.tp_value.specs.Read.{tree}
use Rattle.tp_show.specs.Line.{shown_value}
use Rattle.tp_show.proofs.line.append_show.Given as goal

abbrev pub invariant-loop-value : goal.invariant-loop-value
invariant-loop-value l =
    (l.out ≡ l.initial.out ++ flat_map shown_value (map tree (take l.value-index l.value-items))) × All HasMachineNumbers (map tree (take l.value-index l.value-items))
