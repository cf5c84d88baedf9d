use Rattle.tp_words.proofs.LawLemmas.{two_are_enough}
use Rattle.tp_words.proofs.laws.two_words_are_enough.Goals as goal

pub returns : goal.returns
returns c = two_are_enough
