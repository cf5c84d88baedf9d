use Rattle.tp_value.proofs.ReadLemmas.{value_clause, refused_clause, read_back_clause, written_found}
use Rattle.tp_value.proofs.reader.read_value.Goals as goal

pub returns-clause-value : goal.returns-clause-value
returns-clause-value c = value_clause c.args.bytes.now c.args.from c.read.result c.requires c.read.ensures.ok

pub returns-clause-refused : goal.returns-clause-refused
returns-clause-refused c = refused_clause c.args.bytes.now c.args.from c.read.result c.requires c.read.ensures.err

pub returns-clause-read_back : goal.returns-clause-read_back
returns-clause-read_back c t rest limits follows is =
    read_back_clause c.args.bytes.now c.args.from c.read.result t _ c.read.ensures.ok c.read.ensures.err (written_found c.args.bytes.now c.args.from t rest limits follows is)
