use Rattle.std.proofs.Common.{take}
use Rattle.tp_monitor.specs.Standing.{EachStandsFor}
use Rattle.tp_monitor.proofs.filling.state_stores.Given as goal

abbrev pub invariant-loop-state : goal.invariant-loop-state
invariant-loop-state l = EachStandsFor l.stores.items (take l.state-index l.states) l.lasting
