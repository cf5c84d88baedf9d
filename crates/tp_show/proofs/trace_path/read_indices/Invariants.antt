use Rattle.std.proofs.Common.{length}
use Rattle.tp_show.proofs.TracePaths.{IndicesGoOn}
use Rattle.tp_show.proofs.trace_path.read_indices.Given as goal

abbrev pub invariant-loop-rest : goal.invariant-loop-rest
invariant-loop-rest l = IndicesGoOn l.text l.rest l.items.items

abbrev pub decreases-loop-rest : goal.decreases-loop-rest
decreases-loop-rest l = length l.rest
