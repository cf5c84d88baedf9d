use Rattle.std.proofs.Common.{◌*◌, ◌+◌, ◌≤◌, refl, arith, rules}
use Rattle.tp_lanes.specs.Planes.{bit_in}
use Rattle.tp_lanes.proofs.Words.{word_has}
use Rattle.tp_lanes.proofs.Passing.{at_most}
use Rattle.tp_lanes.proofs.members.row_count.Goals as goal

pub loop-word-preserved : goal.loop-word-preserved
loop-word-preserved c =
    let word = c.loop-word.word in
    let has = word_has c.args.words.now word (64 * word) (64 * (word + 1)) refl (omega arith) (c.type_inv.words word).fits in
    omega (arith, has, c.loop-word.invariant, c.ones-total.ensures)

pub overflow_add-total : goal.overflow_add-total
overflow_add-total c =
    let word = c.loop-word.word in
    let has = word_has c.args.words.now word (64 * word) (64 * (word + 1)) refl (omega arith) (c.type_inv.words word).fits in
    let most = at_most (bit_in c.args.words.now) (512 * c.args.row) (64 * (word + 1)) (omega (arith, c.loop-word.auto.word)) in
    let low : c.loop-word.total + c.ones-total.result ≤ 512 = omega (arith, has, most, c.loop-word.invariant, c.ones-total.ensures, c.loop-word-test.true) in
    search (rules, low)
