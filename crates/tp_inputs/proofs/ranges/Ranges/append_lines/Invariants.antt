use Rattle.std.proofs.Common.{◌≡◌, ◌++◌, length, map}
use Rattle.std.specs.List.{All, flat_map}
use Rattle.std.specs.Map.{values_of}
use Rattle.tp_inputs.specs.Converted.{row_line, with_feed}
use Rattle.tp_inputs.specs.Model.{row_of, rows_of}
use Rattle.tp_inputs.specs.Places.{IsPlaced}
use Rattle.tp_inputs.proofs.ranges.Ranges.append_lines.Given as goal

abbrev pub invariant-loop-first : goal.invariant-loop-first
invariant-loop-first l = record {
  so_far : l.out ++ flat_map (λ r. with_feed (row_line l.port r)) (map (row_of l.self.values.items) l.first-iterator)
      ≡ l.fn.out ++ flat_map (λ r. with_feed (row_line l.port r)) (rows_of l.self);
  placed : All (IsPlaced (length l.self.values.items)) (values_of l.first-iterator);
}
