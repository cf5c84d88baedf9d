use Rattle.std.proofs.Common.{◌≡◌, take}
use Rattle.tp_monitor.specs.Told.{told_by_trace}
use Rattle.tp_monitor.proofs.told.told_states.Given as goal

abbrev pub invariant-loop-state : goal.invariant-loop-state
invariant-loop-state l = l.told.items ≡ told_by_trace l.globals (take l.state-index l.states)
