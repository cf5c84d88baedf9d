use Rattle.std.proofs.Common.{◌≡◌, ◌-◌, ◌++◌}
use Rattle.std.specs.List.{flat_map, range_with_len}
use Rattle.tp_gen.specs.Source.{beginning_text, link_text}
use Rattle.tp_gen.proofs.source.append_source.Given as goal

-- those that are left come behind
abbrev pub invariant-loop-number : goal.invariant-loop-number
invariant-loop-number l =
    l.out ++ flat_map link_text (range_with_len l.number (l.fn.n - 1 - l.number)) ≡ l.fn.out ++ (beginning_text (l.fn.n - 1) ++ flat_map link_text (range_with_len 0 (l.fn.n - 1)))
