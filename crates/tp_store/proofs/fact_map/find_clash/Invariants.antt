use Rattle.std.proofs.Common.{◌≡◌, drop}
use Rattle.std.specs.Option.{option_copied}
use Rattle.tp_store.specs.Known.{first_clash}
use Rattle.tp_store.proofs.fact_map.find_clash.Given as goal

abbrev pub invariant-loop-i : goal.invariant-loop-i
invariant-loop-i l = option_copied l.first ≡ first_clash (drop l.i l.facts) l.fact
