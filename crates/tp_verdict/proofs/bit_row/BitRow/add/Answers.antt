use Rattle.std.proofs.Common.{◌∙◌, ◌/◌, arith}
use Rattle.std.proofs.lemmas.List.{get_or_default}
use Rattle.tp_verdict.proofs.RowLemmas.{added}
use Rattle.tp_verdict.proofs.bit_row.BitRow.add.Goals as goal

pub returns-clause-bits : goal.returns-clause-bits
returns-clause-bits c =
    let words = c.args.self.now.words.items in
    added words c.args.k c.index_mut.result.now c.requires (c.index_mut.ensures.value ∙ get_or_default words (c.args.k / 64) _ 0 (omega arith))
