use Rattle.std.proofs.Common.{arith}
use Rattle.tp_store.specs.Nodes.{way_of}
use Rattle.tp_store.proofs.Room.{room_next, room_first}
use Rattle.tp_store.proofs.keeping.room_for.Goals as goal

pub loop-fact-init : goal.loop-fact-init
loop-fact-init c =
    let f = c.in-Some.first.now in
    let all = room_first c.args.facts.now f c.in-Some.ensures.value in
    record { room = omega (arith, c.node_count-room.ensures, all) }

pub loop-fact-preserved : goal.loop-fact-preserved
loop-fact-preserved c =
    let inv = c.loop-fact.invariant in
    let f = c.fact-item.result in
    let left = room_next (way_of c.loop-fact.before.now) c.args.facts.now c.loop-fact.fact-index f c.loop-fact-test.true c.fact-item.is in
    record { room = omega (arith, inv.room, left, c.in-Some-checked_add.ensures, c.nodes_behind.ensures) }
