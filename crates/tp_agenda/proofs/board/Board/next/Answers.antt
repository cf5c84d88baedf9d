use Rattle.std.proofs.Common.{refl}
use Rattle.tp_slots.proofs.NumberSets.{flag_within}
use Rattle.tp_agenda.proofs.Turns.{IsFlagged, turn_is_ready}
use Rattle.tp_agenda.proofs.board.Board.next.Goals as goal

pub clear-requires : goal.clear-requires
clear-requires c =
    let ready = c.args.self.now.ready in
    let item = c.in_ok-item.item in
    flag_within ready item (turn_is_ready (IsFlagged ready) c.args.order.now c.whose_turn.new.order item (c.in_ok-item.ensures.some item refl))
