use Rattle.std.proofs.Common.{◌≡◌, ℕ, ◌++◌, map, drop}
use Rattle.tp_value.specs.Tree.{of_items}
use Rattle.tp_value.specs.Limits.{items_in}
use Rattle.tp_value.specs.Read.{tree}
use Rattle.tp_store.specs.Facts.{facts_of_items, item_path}
use Rattle.tp_store.proofs.add.+append_facts.Given as goal

abbrev pub decreases-append_facts : goal.decreases-append_facts
decreases-append_facts l = items_in (tree l.value.now)

abbrev pub invariant-loop-k : goal.invariant-loop-k
invariant-loop-k l =
    ((j : ℕ) × l.inner ≡ item_path l.path j)
    × l.out.items ++ facts_of_items l.path l.k (of_items (map tree (drop l.k l.all.items.items))) ≡ l.initial.out.items ++ facts_of_items l.path 0 (of_items (map tree l.all.items.items))
