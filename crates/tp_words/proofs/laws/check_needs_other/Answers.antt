use Rattle.tp_words.proofs.LawLemmas.{two_are_too_few}
use Rattle.tp_words.proofs.laws.check_needs_other.Goals as goal

pub returns : goal.returns
returns c = two_are_too_few
