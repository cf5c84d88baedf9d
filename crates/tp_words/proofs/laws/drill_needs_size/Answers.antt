use Rattle.tp_words.proofs.LawLemmas.{no_drill}
use Rattle.tp_words.proofs.laws.drill_needs_size.Goals as goal

pub returns : goal.returns
returns c = no_drill
