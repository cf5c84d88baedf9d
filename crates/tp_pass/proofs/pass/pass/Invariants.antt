use Rattle.std.proofs.Common.{◌≡◌}
use Rattle.tp_store.specs.Stock.{contents_in}
use Rattle.tp_decide.specs.Decided.{setting_of}
use Rattle.tp_slots.specs.Kept.{IsWellKept}
use Rattle.tp_step.specs.Answers.{moment_of}
use Rattle.tp_pass.specs.Sweeps.{turns_left}
use Rattle.tp_pass.proofs.OnePass.{IsPassing}
use Rattle.tp_pass.proofs.pass.pass.Given as goal

abbrev pub invariant-items : goal.invariant-items
invariant-items g l =
    let first = moment_of l.initial.scene (contents_in l.initial.store) in
    record {
      so_far : IsPassing (setting_of l.setting) first (moment_of l.scene (contents_in l.store)) l.initial.sweep l.sweep l.initial.strategy.room l.strategy.room l.initial.tally.picks l.tally.picks;
      order : l.strategy.order ≡ l.initial.strategy.order;
      waits : l.tally.waits ≡ l.initial.tally.waits;
      rests : l.tally.rests ≡ l.initial.tally.rests;
      kept : IsWellKept l.scene;
    }

abbrev pub decreases-items : goal.decreases-items
decreases-items g l = turns_left l.sweep
