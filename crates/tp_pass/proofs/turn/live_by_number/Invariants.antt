use Rattle.tp_slots.specs.Read.{scene_of}
use Rattle.tp_pass.proofs.Live.{AreLiveBelow}
use Rattle.tp_pass.proofs.turn.live_by_number.Given as goal

abbrev pub invariant-loop-item : goal.invariant-loop-item
invariant-loop-item l = AreLiveBelow (scene_of l.scene).root.entries l.item l.live.items
