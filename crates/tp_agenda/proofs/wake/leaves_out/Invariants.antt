use Rattle.std.proofs.Common.{◌≡◌, drop}
use Rattle.tp_store.specs.Facts.{leaves_out}
use Rattle.tp_agenda.proofs.wake.leaves_out.Given as goal

abbrev pub invariant-loop-i : goal.invariant-loop-i
invariant-loop-i l = leaves_out (drop l.i l.at) l.shape (drop l.i l.beyond) ≡ leaves_out l.at l.shape l.beyond
