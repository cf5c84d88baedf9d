use Rattle.std.proofs.Common.{◌≡◌, ◌++◌, drop}
use Rattle.tp_slots.specs.Own.{own_in, own_inside}
use Rattle.tp_slots.specs.Read.{slots_of}
use Rattle.tp_residual.proofs.scene.own_items.Given as goal

-- those that are left come behind
abbrev pub invariant-loop-item : goal.invariant-loop-item
invariant-loop-item l = l.out.items ++ own_in (slots_of l.scene) (drop l.item-index l.item-items) ≡ own_inside l.scene l.region
