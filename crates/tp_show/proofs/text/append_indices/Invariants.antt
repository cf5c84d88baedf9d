use Rattle.std.proofs.Common.{◌≡◌, ◌++◌, take, All}
use Rattle.std.specs.List.{flat_map}
use Rattle.tp_show.specs.Texts.{index_text}
use Rattle.tp_show.specs.Told.{FitsIn64Bits}
use Rattle.tp_show.proofs.text.append_indices.Given as goal

abbrev pub invariant-loop-index : goal.invariant-loop-index
invariant-loop-index l =
    (l.out ≡ l.initial.out ++ flat_map index_text (take l.index-index l.index-items)) × All FitsIn64Bits (take l.index-index l.index-items)
