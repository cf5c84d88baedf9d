use Rattle.std.proofs.Common.{ap, sym, ◌∙◌, ◌++◌, map, ℕ, List}
use Rattle.std.specs.List.{flat_map}
use Rattle.std.specs.Map.Iter.{deref_pair}
use Rattle.std.proofs.lemmas.Map.Iter.{rest_more}
use Rattle.tp_inputs.specs.Converted.{row_line, row_lines, with_feed}
use Rattle.tp_inputs.specs.Model.{named_port, rows_of}
use Rattle.tp_inputs.proofs.ConvertLemmas.{rows_more}
use Rattle.tp_inputs.proofs.ports.Ports.append_rows.Goals as goal

pub loop-name-preserved : goal.loop-name-preserved
loop-name-preserved c =
    let first = rest_more deref_pair _ _ _ _ c.in-Some.is c.next.ensures.steps in
    rows_more
    c.loop-name.out
    c.append_lines.new.out
    _
    (named_port c.in-Some.name.now.items c.in-Some.port.now)
    (map (λ e. named_port e.0.items e.1) c.next.new.self)
    (ap (λ es. c.loop-name.out ++ flat_map with_feed (flat_map row_lines (map (λ e. named_port e.0.items e.1) es))) (sym first) ∙ c.loop-name.invariant)
    (c.in_ok-append_lines.ensures ∙ ap (λ (name : List ℕ). c.loop-name.out ++ flat_map (λ r. with_feed (row_line name r)) (rows_of c.in-Some.port.now.ranges)) c.deref.ensures.value)
