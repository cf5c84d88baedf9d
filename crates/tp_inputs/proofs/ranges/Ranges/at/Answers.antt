use Rattle.std.proofs.Common.{ap, sym, ◌∙◌, Some}
use Rattle.tp_inputs.specs.Model.{row_of, rows_of}
use Rattle.tp_inputs.proofs.EntryLemmas.{entry_row}
use Rattle.tp_inputs.proofs.PlaceLemmas.{found_placed, index_low, tree_found}
use Rattle.tp_inputs.proofs.RowMoves.{has_row}
use Rattle.tp_inputs.proofs.ranges.Ranges.at.Goals as goal

pub index-requires : goal.index-requires
index-requires c =
    let r = c.args.self.now in
    index_low r.values c.in-Some.row.value (found_placed r.rows.entries _ c.in-Some.field-0-0 c.in-Some.row r.placed c.in-Some.ensures.0).1

pub returns-in-Some : goal.returns-in-Some
returns-in-Some c =
    let r = c.args.self.now in
    let vs = r.values.items in
    let f = c.in-Some.ensures in
    let first = c.in-Some.field-0-0 in
    let row = c.in-Some.row in
    let low = (found_placed r.rows.entries _ first row r.placed f.0).1 in
    sym (has_row (rows_of r) first c.args.state (row_of vs (first, row)) c.requires (entry_row vs r.rows.entries first row f.0) f.1 f.2 ∙ ap Some (tree_found vs row.value c.index.result.now low c.index.ensures))
