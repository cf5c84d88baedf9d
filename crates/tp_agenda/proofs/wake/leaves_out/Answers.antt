use Rattle.std.proofs.Common.{arith, sym}
use Rattle.tp_store.proofs.Indices.{leaves_out-shorter}
use Rattle.tp_agenda.proofs.wake.leaves_out.Goals as goal

pub returns-then-beyond-at : goal.returns-then-beyond-at
returns-then-beyond-at c = sym (leaves_out-shorter c.args.at.now c.args.beyond.now c.args.shape (omega arith))
