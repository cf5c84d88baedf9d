use Rattle.std.proofs.Common.{◌≡◌, take}
use Rattle.tp_show.specs.Trace.{parts_facts}
use Rattle.tp_show.specs.TraceReading.{trace_parts_of}
use Rattle.tp_show.proofs.trace_facts.all_facts.Given as goal

abbrev pub invariant-loop-part : goal.invariant-loop-part
invariant-loop-part l = l.facts.items ≡ parts_facts (trace_parts_of (take l.part-index l.parts))
