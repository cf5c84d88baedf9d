use Rattle.tp_inputs.proofs.ConvertedReads.{converted_is_table}
use Rattle.tp_inputs.proofs.ConvertedWithin.{tables_end_within}
use Rattle.tp_inputs.proofs.laws.converted_is_the_table.Goals as goal

pub returns : goal.returns
returns c = record { same = converted_is_table; within = tables_end_within }
