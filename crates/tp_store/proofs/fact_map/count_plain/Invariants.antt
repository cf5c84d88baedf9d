use Rattle.std.proofs.Common.{◌-◌}
use Rattle.tp_store.specs.Nodes.{ArePlainItems}
use Rattle.tp_store.proofs.fact_map.count_plain.Given as goal

abbrev pub invariant-items : goal.invariant-items
invariant-items l = ArePlainItems l.count l.number l.nodes

abbrev pub decreases-items : goal.decreases-items
decreases-items l = 4294967296 - l.count
