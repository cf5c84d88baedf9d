use Rattle.tp_show.proofs.ReadBackLemmas.{text_shows_states}
use Rattle.tp_show.proofs.laws.text_shows_states.Goals as goal

pub returns : goal.returns
returns c = text_shows_states
