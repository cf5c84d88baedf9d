use Rattle.std.proofs.Common.{◌≡◌, ◌⊎◌, ◌+◌, ◌*◌, ◌^◌, true, length, count_by}
use Rattle.std.specs.Prelude.{not}
use Rattle.tp_lanes.specs.Planes.{flag}
use Rattle.tp_agenda.specs.Held.{IsAmong}
use Rattle.tp_agenda.specs.Taking.{TakesRegions}
use Rattle.tp_agenda.proofs.board.Board.wake_inside.Given as goal

abbrev pub invariant-regions : goal.invariant-regions
invariant-regions l = record {
  takes : TakesRegions l.scene l.waits l.left.items l.fn.self l.self;
  region : (flag l.self.taken.items l.region ≡ true) ⊎ IsAmong l.left.items l.region;
}

abbrev pub decreases-regions : goal.decreases-regions
decreases-regions l = count_by not l.self.taken.items * 2 ^ 64 + length l.left.items
