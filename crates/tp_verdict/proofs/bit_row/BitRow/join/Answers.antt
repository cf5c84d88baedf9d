use Rattle.std.proofs.Common.{arith}
use Rattle.tp_verdict.proofs.RowLemmas.{joined}
use Rattle.tp_verdict.proofs.bit_row.BitRow.join.Goals as goal

pub returns-clause-bits : goal.returns-clause-bits
returns-clause-bits c = joined c.words.self.words.items c.args.self.now.words.items c.args.other.now.words.items
    c.words.invariant.length c.requires (λ i h. c.words.invariant.before i (omega (arith, h)))
