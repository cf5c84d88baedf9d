use Rattle.tp_agenda.proofs.Waked.{for_more}
use Rattle.tp_agenda.proofs.board.wake_by_each.Goals as goal

pub loop-fact-preserved-in-Some : goal.loop-fact-preserved-in-Some
loop-fact-preserved-in-Some c = (
  tt,
  tt,
  for_more c.args.waits.now c.args.index.now c.loop-fact.yielded c.in-Some.fact c.args.ready.now c.args.over.now.items c.loop-fact.ready c.loop-fact.over.items c.wake_by.new.ready c.wake_by.new.over.items
      c.loop-fact.invariant.2 c.wake_by.ensures.only c.wake_by.ensures.all c.wake_by.ensures.filed,
)
