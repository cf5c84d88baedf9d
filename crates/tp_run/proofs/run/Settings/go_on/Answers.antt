use Rattle.std.proofs.Common.{refl}
use Rattle.tp_store.specs.Stock.{contents_in}
use Rattle.tp_step.specs.Answers.{moment_of}
use Rattle.tp_run.proofs.run.Settings.go_on.Goals as goal

pub returns-clause-stand : goal.returns-clause-stand
returns-clause-stand c = (
  moment_of c.in_ok-next.next (contents_in c.next_state.new.self),
  record {
    scene = c.in_ok-next.ensures.scene;
    store = record { kept = c.next_state.ensures.facts; no_clash = c.next_state.ensures.sound.no_clash; variables = c.next_state.ensures.variables };
  },
  refl,
  refl,
)
