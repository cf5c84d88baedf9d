use Rattle.std.proofs.Common.{sym, rules}
use Rattle.tp_words.proofs.NumeralLemmas.{large_numeral}
use Rattle.tp_words.proofs.numeral.numeral_value.Goals as goal

pub returns-in-Err : goal.returns-in-Err
returns-in-Err c = sym (large_numeral c.args.most c.args.text.now (search rules) c.in-Err.ensures.value.0)
