use Rattle.std.proofs.Common.{ap, sym, subst, ◌∙◌, ◌≡◌, ℕ, List, map, length, inr, arith}
use Rattle.tp_value.specs.Read.{tree}
use Rattle.tp_value.specs.Tree.{Tree}
use Rattle.tp_meaning.specs.Inputs.{InputRow}
use Rattle.tp_inputs.specs.Model.{row_of, rows_of}
use Rattle.tp_inputs.specs.Moves.{GivesRows, IsOpened, IsClosed}
use Rattle.tp_inputs.proofs.EntryLemmas.{inserted_row}
use Rattle.tp_inputs.proofs.PlaceLemmas.{insert_placed}
use Rattle.tp_inputs.proofs.RowLemmas.{meets_none}
use Rattle.tp_inputs.proofs.RowMoves.{given_rows, with_row}
use Rattle.tp_inputs.proofs.ranges.Ranges.give.Goals as goal

pub open-from-requires-clause-free : goal.open-from-requires-clause-free
open-from-requires-clause-free c =
    let low = c.requires.ordered in
    let same : c.in_ok-first.first ≡ c.args.first = c.in_ok-first.ensures in
    meets_none (rows_of c.args.self.now) c.args.first c.args.last c.in_ok-first.first c.requires.free (omega arith) (omega arith)

pub close-to-requires-clause-free : goal.close-to-requires-clause-free
close-to-requires-clause-free c =
    let low = c.requires.ordered in
    let begin : c.in_ok-first.first ≡ c.args.first = c.in_ok-first.ensures in
    let end : c.in_ok-last.last ≡ c.args.last = c.in_ok-last.ensures in
    c.open-from.ensures.opened.stays c.in_ok-last.last (inr (omega arith)) ∙ meets_none (rows_of c.args.self.now) c.args.first c.args.last c.in_ok-last.last c.requires.free (omega arith) (omega arith)

pub invariant_of-self : goal.invariant_of-self
invariant_of-self c =
    let r = c.place.new.self in
    record { placed = insert_placed c.insert.result (length r.values.items) r.rows.entries c.insert.new.self.entries c.open-from.result.0 _ c.insert.ensures.entries c.insert.ensures.err r.placed (c.close-to.ensures.within, c.in_ok-place.ensures.place.0) }

pub returns : goal.returns
returns c =
    let value = tree c.args.value in
    let rows = rows_of c.args.self.now in
    let mid = rows_of c.open-from.new.self in
    let left = rows_of c.close-to.new.self in
    let from = c.open-from.result.0 in
    let to = c.close-to.result.0 in
    let vs = c.place.new.self.values.items in
    let es = c.place.new.self.rows.entries in
    let opened : IsOpened rows value from c.args.first mid = subst (λ (n : ℕ). IsOpened rows value from n mid) c.in_ok-first.ensures c.open-from.ensures.opened in
    let closed : IsClosed mid value c.args.last to left = subst (λ (n : ℕ). IsClosed mid value n to left) c.in_ok-last.ensures c.close-to.ensures.closed in
    let more : map (row_of vs) c.insert.new.self.entries ≡ with_row (record { first = from; last = to; value = value }) left =
    ap (map (row_of vs)) c.in_ok-insert.ensures.entries
    ∙ (inserted_row vs es from _
    ∙ (ap (λ (t : Tree). with_row (record { first = from; last = to; value = t }) (map (row_of vs) es)) c.in_ok-place.ensures.place.1
    ∙ ap (with_row (record { first = from; last = to; value = value })) c.in_ok-place.ensures.kept)) in
    subst (λ (z : List InputRow). GivesRows c.args.first c.args.last value rows z) (sym more)
    (given_rows rows mid left value from c.args.first c.args.last to opened closed c.requires.ordered c.requires.free)
