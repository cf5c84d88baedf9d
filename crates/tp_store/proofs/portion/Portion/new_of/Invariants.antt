use Rattle.std.proofs.Common.{◌≡◌, ◌++◌}
use Rattle.std.specs.Vec.Iter.{into_iter_items}
use Rattle.tp_store.specs.Known.{new_facts}
use Rattle.tp_store.proofs.portion.Portion.new_of.Given as goal

abbrev pub invariant-loop-fact : goal.invariant-loop-fact
invariant-loop-fact l = l.news.items ++ new_facts l.self.facts (into_iter_items l.fact-iterator) ≡ new_facts l.self.facts l.fn.facts.items
