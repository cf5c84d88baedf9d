use Rattle.std.proofs.Common.{◌*◌, arith}
use Rattle.tp_lanes.proofs.Words.{lowest, below_lowest}
use Rattle.tp_lanes.proofs.members.first_member.Goals as goal

pub returns-clause-member : goal.returns-clause-member
returns-clause-member c =
    let word = c.first_word-word.result in
    lowest c.args.words.now word c.first_word-word.ensures.here (c.type_inv.words word).fits

pub returns-clause-least : goal.returns-clause-least
returns-clause-least c = λ k from less.
    let word = c.first_word-word.result in
    below_lowest c.args.words.now word c.first_word-word.ensures.here (c.type_inv.words word).fits (8 * c.args.row) c.first_word-word.ensures.before k (omega (arith, from)) less
