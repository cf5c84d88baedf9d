use Rattle.std.proofs.Common.{◌≡◌, ◌++◌, drop}
use Rattle.tp_store.specs.Known.{facts_below}
use Rattle.tp_store.specs.Wholes.{whole_facts}
use Rattle.tp_store.proofs.wholes.copy_wholes.Given as goal

abbrev pub invariant-loop-i : goal.invariant-loop-i
invariant-loop-i l =
    l.facts.items ++ facts_below l.below (whole_facts l.lasting (drop l.i l.wholes.entries))
    ≡ l.initial.facts.items ++ facts_below l.below (whole_facts l.lasting l.wholes.entries)
