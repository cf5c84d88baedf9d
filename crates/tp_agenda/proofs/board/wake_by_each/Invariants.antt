use Rattle.tp_agenda.proofs.Waked.{WakesFor}
use Rattle.tp_agenda.proofs.board.wake_by_each.Given as goal

abbrev pub invariant-loop-fact : goal.invariant-loop-fact
invariant-loop-fact l =
    (goal.iterator-loop-fact).can_next l.fact-iterator ×
    (goal.iterator-loop-fact).is_finite l.fact-iterator ×
    WakesFor l.waits l.index l.yielded l.fn.ready l.fn.over.items l.ready l.over.items
