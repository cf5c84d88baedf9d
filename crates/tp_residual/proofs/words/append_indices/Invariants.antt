use Rattle.std.proofs.Common.{◌≡◌, ◌++◌, drop}
use Rattle.std.specs.List.{flat_map}
use Rattle.tp_show.specs.Texts.{index_text}
use Rattle.tp_residual.proofs.words.append_indices.Given as goal

-- those that are left come behind
abbrev pub invariant-loop-index : goal.invariant-loop-index
invariant-loop-index l = l.out ++ flat_map index_text (drop l.index-index l.index-items) ≡ l.fn.out ++ flat_map index_text l.fn.at
