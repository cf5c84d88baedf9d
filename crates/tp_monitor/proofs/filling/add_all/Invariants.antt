use Rattle.std.proofs.Common.{◌≡◌, ◌++◌, take}
use Rattle.tp_store.specs.Stock.{contents_in}
use Rattle.tp_store.specs.Changes.{IsSoundStore}
use Rattle.tp_monitor.specs.Standing.{StandFor}
use Rattle.tp_monitor.proofs.filling.add_all.Given as goal

abbrev pub invariant-loop-fact : goal.invariant-loop-fact
invariant-loop-fact l = record {
  variables : l.store.variables ≡ l.initial.store.variables;
  sound : IsSoundStore (contents_in l.store);
  stand : StandFor l.store.facts (l.initial.store.facts ++ take l.fact-index l.facts);
}
