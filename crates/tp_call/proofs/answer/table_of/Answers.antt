use Rattle.tp_call.proofs.SourceLemmas.{table_read_back}
use Rattle.tp_call.proofs.answer.table_of.Goals as goal

pub returns-in-Ok-clause-read_back : goal.returns-in-Ok-clause-read_back
returns-in-Ok-clause-read_back c = table_read_back _ _ c.requires c.in-Ok.ensures.table
