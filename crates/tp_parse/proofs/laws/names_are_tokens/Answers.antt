use Rattle.tp_parse.proofs.NameLemmas.{names_are_tokens}
use Rattle.tp_parse.proofs.laws.names_are_tokens.Goals as goal

pub returns : goal.returns
returns c = names_are_tokens
