use Rattle.tp_inputs.proofs.LawLemmas.{each_text, one_table, one_first_fault, no_faulty_table, values_refused}
use Rattle.tp_inputs.proofs.WithinLemmas.{tables_within}
use Rattle.tp_inputs.proofs.laws.texts_have_one_table.Goals as goal

pub returns : goal.returns
returns c = record { some = each_text; table = one_table; fault = one_first_fault; never_both = no_faulty_table; refused = values_refused; within = tables_within }
