use Rattle.std.proofs.Common.{◌*◌, ◌+◌, arith}
use Rattle.std.proofs.lemmas.Nat.{leading_top}
use Rattle.std.specs.Prelude.{slice_index}
use Rattle.tp_lanes.proofs.Words.{highest, above_highest}
use Rattle.tp_lanes.proofs.members.last_member.Goals as goal

pub returns-clause-member : goal.returns-clause-member
returns-clause-member c =
    let word = c.last_word-word.result in
    let here = c.last_word-word.ensures.here in
    let small = (c.type_inv.words word).fits in
    let t = leading_top 64 (slice_index c.args.words.now word) here small in
    highest c.args.words.now word here small _ (omega (arith, t.1))

pub returns-clause-greatest : goal.returns-clause-greatest
returns-clause-greatest c = λ k more less.
    let word = c.last_word-word.result in
    let here = c.last_word-word.ensures.here in
    let small = (c.type_inv.words word).fits in
    let t = leading_top 64 (slice_index c.args.words.now word) here small in
    above_highest c.args.words.now word here small _ (omega (arith, t.1)) (8 * c.args.row + 8) c.last_word-word.ensures.behind k more (omega (arith, less))
