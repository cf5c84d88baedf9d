use Rattle.tp_show.proofs.EndsToldLemmas.{end_lines_tell}
use Rattle.tp_show.proofs.laws.end_lines_tell.Goals as goal

pub returns : goal.returns
returns c = end_lines_tell
