use Rattle.std.proofs.Common.{◌≡◌, map, take}
use Rattle.tp_store.specs.Known.{global_variable}
use Rattle.tp_store.specs.Stock.{contents_in}
use Rattle.tp_store.specs.Changes.{IsSoundStore}
use Rattle.tp_show.specs.Trace.{parts_facts}
use Rattle.tp_show.specs.TraceReading.{trace_parts_of}
use Rattle.tp_show.proofs.TraceFiled.{IsFiled}
use Rattle.tp_show.proofs.trace_facts.facts_clash.Given as goal

abbrev pub invariant-loop-part : goal.invariant-loop-part
invariant-loop-part l = record {
  variables : l.store.variables ≡ map global_variable l.globals;
  sound : IsSoundStore (contents_in l.store);
  filed : IsFiled l.globals (parts_facts (trace_parts_of (take l.part-index l.parts))) l.store.facts;
}
