use Rattle.std.proofs.Common.{◌*◌, ◌+◌, refl, arith, ◌∙◌}
use Rattle.tp_lanes.proofs.Words.{at_word, within_word}
use Rattle.tp_lanes.proofs.members.member_of_place.Goals as goal

pub returns-clause-member : goal.returns-clause-member
returns-clause-member c =
    let word = c.word_of_place-found.result.0 in
    let bit = c.bit_of_place-bit in
    at_word c.args.words.now (64 * word + bit.result) word bit.result refl bit.ensures.within ∙ bit.ensures.member

pub returns-clause-before : goal.returns-clause-before
returns-clause-before c =
    let word = c.word_of_place-found.result.0 in
    let bit = c.bit_of_place-bit in
    let part = within_word c.args.words.now word bit.result (64 * word + bit.result) refl (omega (arith, bit.ensures.within)) in
    omega (arith, part, bit.ensures.before, c.word_of_place-found.ensures.before)
