use Rattle.std.proofs.Common.{◌≡◌}
use Rattle.tp_store.specs.Stock.{contents_in}
use Rattle.tp_decide.specs.Decided.{setting_of}
use Rattle.tp_slots.specs.Kept.{IsWellKept}
use Rattle.tp_step.specs.Answers.{moment_of}
use Rattle.tp_pass.proofs.AllPasses.{IsClosing}
use Rattle.tp_pass.proofs.pass.close_by_passes.Given as goal

abbrev pub invariant-passes : goal.invariant-passes
invariant-passes g l = record {
  so_far : IsClosing (setting_of l.setting) (moment_of l.initial.scene (contents_in l.initial.store)) (moment_of l.scene (contents_in l.store)) l.initial.strategy.order l.strategy.order l.initial.strategy.room l.strategy.room l.initial.tally.picks l.tally.picks;
  kept : IsWellKept l.scene;
  waits : l.tally.waits ≡ l.initial.tally.waits;
  rests : l.tally.rests ≡ l.initial.tally.rests;
}

abbrev pub decreases-passes : goal.decreases-passes
decreases-passes g l = l.strategy.room
