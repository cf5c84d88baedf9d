use Rattle.std.proofs.Common.{◌≡◌, ℕ, true}
use Rattle.tp_agenda.specs.Outward.{LeadsThrough, is_due}
use Rattle.tp_agenda.proofs.Outward.{AreInLine}
use Rattle.tp_agenda.proofs.ends.outermost_due.Given as goal

abbrev pub invariant-outward : goal.invariant-outward
invariant-outward l = record {
  due : is_due l.scene l.taken l.at ≡ true;
  line : (top : ℕ) → LeadsThrough l.scene l.taken l.region top → AreInLine l.scene l.taken top l.at;
}

abbrev pub decreases-outward : goal.decreases-outward
decreases-outward l = l.at
