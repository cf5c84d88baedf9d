use Rattle.std.proofs.Common.{◌≡◌, ℕ, ◌+◌, ◌-◌, ◌*◌, map}
use Rattle.tp_value.specs.Read.{tree}
use Rattle.tp_store.specs.Facts.{item_path}
use Rattle.tp_store.specs.Known.{whole, items_known}
use Rattle.tp_store.specs.Nodes.{facts_in_tree}
use Rattle.tp_store.proofs.Whole.{before}
use Rattle.tp_store.proofs.full.+whole.Given as goal

abbrev pub decreases-whole_at : goal.decreases-whole_at
decreases-whole_at l = 2 * l.deeper

abbrev pub decreases-items_at : goal.decreases-items_at
decreases-items_at l = 2 * l.deeper + 1

abbrev pub invariant-items_at-loop-k : goal.invariant-items_at-loop-k
invariant-items_at-loop-k l =
    ((j : ℕ) × l.inner ≡ item_path l.path j)
    × before (map tree l.items.items) (items_known (whole l.deeper (facts_in_tree l.path.var.lasting l.nodes)) l.path (l.count - l.k) l.k) ≡ items_known (whole l.deeper (facts_in_tree l.path.var.lasting l.nodes)) l.path l.count 0
