use Rattle.tp_show.proofs.ReadBackLemmas.{texts_tell}
use Rattle.tp_show.proofs.laws.texts_tell.Goals as goal

pub returns : goal.returns
returns c = texts_tell
