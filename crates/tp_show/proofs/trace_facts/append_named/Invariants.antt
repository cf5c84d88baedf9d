use Rattle.std.proofs.Common.{◌≡◌, ◌++◌, map, take}
use Rattle.tp_show.specs.Trace.{fact_named}
use Rattle.tp_show.proofs.trace_facts.append_named.Given as goal

abbrev pub invariant-loop-fact : goal.invariant-loop-fact
invariant-loop-fact l = l.out.items ≡ l.initial.out.items ++ map (fact_named l.name) (take l.fact-index l.facts)
