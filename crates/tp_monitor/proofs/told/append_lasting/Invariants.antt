use Rattle.std.proofs.Common.{◌≡◌, ◌++◌, drop}
use Rattle.tp_store.specs.Known.{lasting_facts}
use Rattle.tp_monitor.proofs.told.append_lasting.Given as goal

abbrev pub invariant-loop-fact : goal.invariant-loop-fact
invariant-loop-fact l = l.out.items ++ lasting_facts (drop l.fact-index l.facts) ≡ l.initial.out.items ++ lasting_facts l.facts
