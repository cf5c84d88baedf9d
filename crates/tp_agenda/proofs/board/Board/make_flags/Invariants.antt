use Rattle.std.proofs.Common.{◌≡◌, ℕ, ◌-◌, length}
use Rattle.tp_lanes.specs.Planes.{flag}
use Rattle.tp_agenda.proofs.board.Board.make_flags.Given as goal

abbrev pub invariant-loop-self : goal.invariant-loop-self
invariant-loop-self l = record {
  rest : l.self ≡ record l.fn.self { taken = l.self.taken };
  flags : (r : ℕ) → flag l.self.taken.items r ≡ flag l.fn.self.taken.items r;
}

abbrev pub decreases-loop-self : goal.decreases-loop-self
decreases-loop-self l = length l.scene.regions.items - length l.self.taken.items
