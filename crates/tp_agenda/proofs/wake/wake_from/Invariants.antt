use Rattle.tp_agenda.specs.Wakes.{is_decided_by}
use Rattle.tp_agenda.proofs.Waking.{WakesSo}
use Rattle.tp_agenda.proofs.wake.wake_from.Given as goal

abbrev pub invariant-links : goal.invariant-links
invariant-links l = WakesSo l.waits (is_decided_by l.cause) l.links l.newest l.at l.initial.ready l.initial.over.items l.ready l.over.items

abbrev pub decreases-links : goal.decreases-links
decreases-links l = l.at
