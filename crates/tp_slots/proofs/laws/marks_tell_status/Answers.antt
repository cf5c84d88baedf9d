use Rattle.tp_slots.proofs.MarksTell.{marks_tell_status as law}
use Rattle.tp_slots.proofs.laws.marks_tell_status.Goals as goal

pub returns : goal.returns
returns c = law
