use Rattle.std.proofs.Common.{refl, ap, sym, subst, ◌∙◌, ◌≡◌, List, Some, map, length}
use Rattle.std.specs.Ordering.{nat_cmp}
use Rattle.std.specs.List.{All}
use Rattle.std.specs.Map.{values_of}
use Rattle.std.specs.BTreeMap.{is_at}
use Rattle.std.proofs.lemmas.Map.Views.{All-map-remove_entry}
use Rattle.tp_value.specs.Read.{tree}
use Rattle.tp_meaning.specs.Inputs.{InputRow, row_value}
use Rattle.tp_inputs.specs.Model.{row_of, rows_of}
use Rattle.tp_inputs.specs.Moves.{IsTaken}
use Rattle.tp_inputs.specs.Places.{IsPlaced}
use Rattle.tp_inputs.proofs.EntryLemmas.{Entries, entry_row, removed_row}
use Rattle.tp_inputs.proofs.PlaceLemmas.{found_placed, index_low, tree_found}
use Rattle.tp_inputs.proofs.RowMoves.{has_row, taken}
use Rattle.tp_inputs.proofs.ranges.Ranges.take_row.Goals as goal

pub index-requires : goal.index-requires
index-requires c =
    let r = c.args.self.now in
    index_low r.values c.in-Some.row.value (found_placed r.rows.entries _ c.in-Some.first c.in-Some.row r.placed c.in-Some.ensures.0).1

pub returns-in_default-clause-taken : goal.returns-in_default-clause-taken
returns-in_default-clause-taken c =
    let r = c.args.self.now in
    let vs = r.values.items in
    let f = c.in-Some.ensures in
    let first = c.in-Some.first in
    let row = c.in-Some.row in
    let low = (found_placed r.rows.entries _ first row r.placed f.0).1 in
    let some : row_value (rows_of r) c.args.state ≡ Some (tree c.index.result.now) = has_row (rows_of r) first c.args.state (row_of vs (first, row)) c.requires (entry_row vs r.rows.entries first row f.0) f.1 f.2 ∙ ap Some (tree_found vs row.value c.index.result.now low c.index.ensures) in
    (refl, λ h. let both : Some (tree c.index.result.now) ≡ Some (tree c.args.value.now) = sym some ∙ h in let same : tree c.index.result.now ≡ tree c.args.value.now = cc in let yes = c.if-same.ensures.1 same in cc)

pub invariant_of-self : goal.invariant_of-self
invariant_of-self c =
    let r = c.args.self.now in
    let count = length r.values.items in
    record { placed = subst (λ (es : Entries). All (IsPlaced count) (values_of es)) (sym c.remove.ensures.entries) (All-map-remove_entry (is_at (nat_cmp c.in-Some.first)) (λ e. e.1) (IsPlaced count) r.rows.entries r.placed) }

pub returns-clause-taken : goal.returns-clause-taken
returns-clause-taken c =
    let r = c.args.self.now in
    let vs = r.values.items in
    let first = c.in-Some.first in
    let row = c.in-Some.row in
    let low = (found_placed r.rows.entries _ first row r.placed c.in-Some.ensures.0).1 in
    let left : map (row_of vs) c.remove.new.self.entries ≡ _ = ap (map (row_of vs)) c.remove.ensures.entries ∙ removed_row vs r.rows.entries first in
    subst (λ (z : List InputRow). IsTaken (rows_of r) c.args.state (tree c.args.value.now) first row.last z) (sym left)
    (taken (rows_of r) first c.args.state (row_of vs (first, row)) (tree c.args.value.now) c.requires (entry_row vs r.rows.entries first row c.in-Some.ensures.0) c.in-Some.ensures.1 c.in-Some.ensures.2 (tree_found vs row.value c.index.result.now low c.index.ensures ∙ c.if-same.ensures.0 refl))

pub returns-clause-place : goal.returns-clause-place
returns-clause-place c =
    let r = c.args.self.now in
    let vs = r.values.items in
    let row = c.in-Some.row in
    let low = (found_placed r.rows.entries _ c.in-Some.first row r.placed c.in-Some.ensures.0).1 in
    (low, tree_found vs row.value c.index.result.now low c.index.ensures ∙ c.if-same.ensures.0 refl)

pub returns-clause-within : goal.returns-clause-within
returns-clause-within c =
    let r = c.args.self.now in
    (found_placed r.rows.entries _ c.in-Some.first c.in-Some.row r.placed c.in-Some.ensures.0).0
