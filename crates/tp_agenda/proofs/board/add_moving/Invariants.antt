use Rattle.std.proofs.Common.{◌≡◌, length, take}
use Rattle.tp_slots.specs.Read.{scene_of}
use Rattle.tp_agenda.specs.Board.{moving_among}
use Rattle.tp_agenda.specs.Held.{AddsReady}
use Rattle.tp_agenda.proofs.board.add_moving.Given as goal

abbrev pub invariant-loop-item : goal.invariant-loop-item
invariant-loop-item l = record {
  adds : AddsReady (moving_among (scene_of l.scene).root.entries (take l.item-index l.items)) l.fn.ready l.ready;
  size : length l.ready ≡ length l.fn.ready;
}
