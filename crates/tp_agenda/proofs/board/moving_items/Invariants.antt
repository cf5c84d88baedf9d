use Rattle.std.proofs.Common.{◌≡◌, ◌↔◌, ℕ, ◌<◌, true, length}
use Rattle.tp_slots.specs.Kept.{IsUnchanged, IsWellKept}
use Rattle.tp_slots.specs.Read.{scene_of}
use Rattle.tp_lanes.specs.Planes.{flag}
use Rattle.tp_agenda.specs.Ready.{may_move}
use Rattle.tp_agenda.proofs.board.moving_items.Given as goal

abbrev pub invariant-loop-item : goal.invariant-loop-item
invariant-loop-item l = record {
  room : length l.ready ≡ l.bound;
  moving : (t : ℕ) → (flag l.ready t ≡ true) ↔ ((t < l.item) × (may_move t (scene_of l.initial.scene).root.entries ≡ true));
  same : IsUnchanged l.initial.scene l.scene;
  kept : IsWellKept l.scene;
}
