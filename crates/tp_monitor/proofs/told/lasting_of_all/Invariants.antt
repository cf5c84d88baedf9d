use Rattle.std.proofs.Common.{◌≡◌, take}
use Rattle.std.specs.List.{flat_map}
use Rattle.tp_store.specs.Known.{lasting_facts}
use Rattle.tp_monitor.proofs.told.lasting_of_all.Given as goal

abbrev pub invariant-loop-state : goal.invariant-loop-state
invariant-loop-state l = l.lasting.items ≡ flat_map lasting_facts (take l.state-index l.told)
