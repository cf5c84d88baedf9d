use Rattle.tp_lex.proofs.NameLemmas.{names_are_spelled}
use Rattle.tp_lex.proofs.laws.names_are_spelled.Goals as goal

pub returns : goal.returns
returns c = names_are_spelled
