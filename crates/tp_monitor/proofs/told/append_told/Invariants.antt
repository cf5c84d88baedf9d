use Rattle.std.proofs.Common.{◌≡◌, ◌++◌, take}
use Rattle.tp_monitor.specs.Told.{facts_among}
use Rattle.tp_monitor.proofs.told.append_told.Given as goal

abbrev pub invariant-loop-fact : goal.invariant-loop-fact
invariant-loop-fact l = l.out.items ≡ l.initial.out.items ++ facts_among l.globals (take l.fact-index l.facts)
