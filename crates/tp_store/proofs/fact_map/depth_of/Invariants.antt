use Rattle.std.proofs.Common.{◌≡◌, drop, max, ◌<◌, ◌^◌}
use Rattle.tp_store.specs.Known.{deepest}
use Rattle.tp_store.proofs.fact_map.depth_of.Given as goal

abbrev pub invariant-loop-fact : goal.invariant-loop-fact
invariant-loop-fact l = record {
  most : max l.most (deepest (drop l.fact-index l.facts)) ≡ deepest l.facts;
  bound : l.most < 2 ^ 63;
}
