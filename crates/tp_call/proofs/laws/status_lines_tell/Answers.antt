use Rattle.tp_call.proofs.StatusLines.{status_lines_tell}
use Rattle.tp_call.proofs.laws.status_lines_tell.Goals as goal

pub returns : goal.returns
returns c = status_lines_tell
