use Rattle.std.proofs.Common.{ap, sym, subst, ◌≡◌, ◌∙◌, ◌∷◌, ◌++◌, length, map}
use Rattle.std.specs.List.{All, flat_map}
use Rattle.std.specs.Map.{values_of}
use Rattle.std.proofs.lemmas.List.Elements.{All-head, All-tail}
use Rattle.tp_value.specs.Read.{tree}
use Rattle.tp_inputs.specs.Converted.{row_line, with_feed}
use Rattle.tp_inputs.specs.Model.{row_of}
use Rattle.tp_inputs.specs.Places.{IsPlaced}
use Rattle.tp_inputs.proofs.ConvertLemmas.{lines_more}
use Rattle.tp_inputs.proofs.EntryLemmas.{Entries}
use Rattle.tp_inputs.proofs.PlaceLemmas.{tree_found}
use Rattle.tp_inputs.proofs.ranges.Ranges.append_lines.Goals as goal

pub loop-first-preserved : goal.loop-first-preserved
loop-first-preserved c =
    let vs = c.args.self.now.values.items in
    let port = c.args.port.now in
    let row = c.in-Some.row.now in
    let first : c.loop-first.first-iterator ≡ (c.in-Some.first.now, row) ∷ c.next.new.self = c.in-Some.ensures.steps in
    let placed : All (IsPlaced (length vs)) (values_of ((c.in-Some.first.now, row) ∷ c.next.new.self)) = subst (λ (es : Entries). All (IsPlaced (length vs)) (values_of es)) first c.loop-first.invariant.placed in
    let low = (All-head (IsPlaced (length vs)) row (values_of c.next.new.self) placed).1 in
    record {
      so_far = lines_more vs port c.loop-first.out c.append_row.new.out _ c.in-Some.first.now row c.next.new.self (tree c.index-value.result.now) c.from.result c.from-in-loop-first.result c.from.ensures c.from-in-loop-first.ensures
          (tree_found vs row.value c.index-value.result.now low c.index-value.ensures)
          (ap (λ (es : Entries). c.loop-first.out ++ flat_map (λ r. with_feed (row_line port r)) (map (row_of vs) es)) (sym first) ∙ c.loop-first.invariant.so_far)
          c.in_ok-append_row.ensures;
      placed = All-tail (IsPlaced (length vs)) row (values_of c.next.new.self) placed;
    }
