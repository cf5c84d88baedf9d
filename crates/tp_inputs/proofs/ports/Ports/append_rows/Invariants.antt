use Rattle.std.proofs.Common.{◌≡◌, ◌++◌, map}
use Rattle.std.specs.List.{flat_map}
use Rattle.tp_inputs.specs.Converted.{row_lines, with_feed}
use Rattle.tp_inputs.specs.Model.{named_port, table_of}
use Rattle.tp_inputs.proofs.ports.Ports.append_rows.Given as goal

abbrev pub invariant-loop-name : goal.invariant-loop-name
invariant-loop-name l =
    l.out ++ flat_map with_feed (flat_map row_lines (map (λ e. named_port e.0.items e.1) l.name-iterator))
    ≡ l.fn.out ++ flat_map with_feed (flat_map row_lines (table_of l.self))
