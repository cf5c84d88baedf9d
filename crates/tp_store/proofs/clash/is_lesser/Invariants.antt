use Rattle.std.proofs.Common.{◌≡◌, drop}
use Rattle.tp_store.specs.Known.{is_lesser}
use Rattle.tp_store.proofs.clash.is_lesser.Given as goal

abbrev pub invariant-loop-i : goal.invariant-loop-i
invariant-loop-i l = is_lesser (drop l.i l.a) (drop l.i l.b) ≡ is_lesser l.a l.b
