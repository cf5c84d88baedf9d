use Rattle.tp_agenda.proofs.Outer.{IsFiledBelow}
use Rattle.tp_agenda.proofs.index.file_path.Given as goal

abbrev pub invariant-loop-count : goal.invariant-loop-count
invariant-loop-count l = IsFiledBelow l.fn.index l.index l.place l.path l.count
