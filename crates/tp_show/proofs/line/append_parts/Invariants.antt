use Rattle.std.proofs.Common.{◌≡◌, ◌++◌, take, map}
use Rattle.std.specs.List.{flat_map}
use Rattle.tp_show.specs.Line.{plain_part, spaced_text}
use Rattle.tp_show.specs.Told.{ArePartsInRange}
use Rattle.tp_show.proofs.line.append_parts.Given as goal

abbrev pub invariant-loop-part : goal.invariant-loop-part
invariant-loop-part l =
    (l.out ≡ l.initial.out ++ flat_map (spaced_text l.globals) (map plain_part (take l.part-index l.part-items))) × ArePartsInRange (map plain_part (take l.part-index l.part-items))
