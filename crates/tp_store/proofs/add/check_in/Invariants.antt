use Rattle.std.proofs.Common.{◌≡◌, drop}
use Rattle.tp_store.specs.Known.{checked, Addition}
use Rattle.tp_store.proofs.add.check_in.Given as goal

abbrev pub invariant-loop-fact : goal.invariant-loop-fact
invariant-loop-fact l = (o : Addition) → checked l.kept.facts (drop l.fact-index l.facts) o ≡ checked l.kept.facts l.facts o
