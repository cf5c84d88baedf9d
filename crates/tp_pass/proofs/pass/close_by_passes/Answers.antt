use Rattle.std.proofs.Common.{◌∙◌, refl}
use Rattle.tp_store.specs.Stock.{contents_in}
use Rattle.tp_step.specs.declared.ending.Ending.TheVariants.{Rest}
use Rattle.tp_decide.specs.Decided.{setting_of}
use Rattle.tp_step.specs.Answers.{moment_of}
use Rattle.tp_pass.proofs.AllPasses.{ClosesByPasses, closure_begins, closure_goes_on, closed_at_rest, closed_with}
use Rattle.tp_step.proofs.Picks.{on_refusal, made_on}
use Rattle.tp_pass.proofs.pass.close_by_passes.Given.{Over}
use Rattle.tp_pass.proofs.pass.close_by_passes.Goals.{In-Some, Then-strategy-before}
use Rattle.tp_pass.proofs.pass.close_by_passes.Goals as goal

pub passes-init : goal.passes-init
passes-init g c = record {
  so_far = closure_begins (setting_of c.args.setting.now) (moment_of c.args.scene.now (contents_in c.args.store.now)) c.args.strategy.order c.args.strategy.room c.args.tally.now.picks;
  kept = c.requires.kept;
  waits = refl;
  rests = refl;
}

pub passes-preserved : goal.passes-preserved
passes-preserved g c = record {
  so_far = closure_goes_on (setting_of c.args.setting.now) (moment_of c.args.scene.now (contents_in c.args.store.now)) (moment_of c.passes.scene (contents_in c.passes.store)) (moment_of c.pass.new.scene (contents_in c.pass.new.store))
      _ _ _ _ _ _ _ _ _ c.passes.invariant.so_far c.in_ok-ending.field-0 c.in_ok-ending.ensures.made c.in-None.is c.if-strategy-before.false;
  kept = c.pass.ensures.kept;
  waits = c.pass.ensures.waits ∙ c.passes.invariant.waits;
  rests = c.pass.ensures.rests ∙ c.passes.invariant.rests;
}

-- all that is promised where a pass ends the closure, and where the last one reduces nothing
ends_in_pass : (g : Over) (c : In-Some g) → ClosesByPasses (setting_of c.args.setting.now) c.args.strategy.order c.args.strategy.room (moment_of c.args.scene.now (contents_in c.args.store.now)) (moment_of c.pass.new.scene (contents_in c.pass.new.store)) c.args.tally.now.picks c.pass.new.tally.picks c.in-Some.ending
ends_in_pass g c = closed_with (setting_of c.args.setting.now) (moment_of c.args.scene.now (contents_in c.args.store.now)) (moment_of c.passes.scene (contents_in c.passes.store)) (moment_of c.pass.new.scene (contents_in c.pass.new.store))
    _ _ _ _ _ _ _ _ _ c.passes.invariant.so_far c.in_ok-ending.field-0 c.in_ok-ending.ensures.made c.requires.sound.0 c.requires.sound.1 c.in-Some.ending c.in-Some.is

ends_at_rest : (g : Over) (c : Then-strategy-before g) → ClosesByPasses (setting_of c.args.setting.now) c.args.strategy.order c.args.strategy.room (moment_of c.args.scene.now (contents_in c.args.store.now)) (moment_of c.pass.new.scene (contents_in c.pass.new.store)) c.args.tally.now.picks c.pass.new.tally.picks Rest
ends_at_rest g c = closed_at_rest (setting_of c.args.setting.now) (moment_of c.args.scene.now (contents_in c.args.store.now)) (moment_of c.passes.scene (contents_in c.passes.store)) (moment_of c.pass.new.scene (contents_in c.pass.new.store))
    _ _ _ _ _ _ _ _ _ c.passes.invariant.so_far c.in_ok-ending.field-0 c.in_ok-ending.ensures.made c.requires.sound.0 c.requires.sound.1 c.in-None.is c.if-strategy-before.true

pub returns-in-Some-clause-sound : goal.returns-in-Some-clause-sound
returns-in-Some-clause-sound g c = (ends_in_pass g (goal.at.returns-in-Some-clause-sound g c).In-Some).sound

pub returns-in-Some-clause-closes : goal.returns-in-Some-clause-closes
returns-in-Some-clause-closes g c = (ends_in_pass g (goal.at.returns-in-Some-clause-closes g c).In-Some).closes

pub returns-in-Some-clause-order : goal.returns-in-Some-clause-order
returns-in-Some-clause-order g c = (ends_in_pass g (goal.at.returns-in-Some-clause-order g c).In-Some).order

pub returns-in-Some-clause-commutes : goal.returns-in-Some-clause-commutes
returns-in-Some-clause-commutes g c = (ends_in_pass g (goal.at.returns-in-Some-clause-commutes g c).In-Some).commutes

pub returns-in-Some-clause-room : goal.returns-in-Some-clause-room
returns-in-Some-clause-room g c = (ends_in_pass g (goal.at.returns-in-Some-clause-room g c).In-Some).room

pub returns-then-strategy-before-clause-sound : goal.returns-then-strategy-before-clause-sound
returns-then-strategy-before-clause-sound g c = (ends_at_rest g (goal.at.returns-then-strategy-before-clause-sound g c).Then-strategy-before).sound

pub returns-then-strategy-before-clause-closes : goal.returns-then-strategy-before-clause-closes
returns-then-strategy-before-clause-closes g c = (ends_at_rest g (goal.at.returns-then-strategy-before-clause-closes g c).Then-strategy-before).closes

pub returns-then-strategy-before-clause-order : goal.returns-then-strategy-before-clause-order
returns-then-strategy-before-clause-order g c = (ends_at_rest g (goal.at.returns-then-strategy-before-clause-order g c).Then-strategy-before).order

pub returns-then-strategy-before-clause-commutes : goal.returns-then-strategy-before-clause-commutes
returns-then-strategy-before-clause-commutes g c = (ends_at_rest g (goal.at.returns-then-strategy-before-clause-commutes g c).Then-strategy-before).commutes

pub returns-then-strategy-before-clause-room : goal.returns-then-strategy-before-clause-room
returns-then-strategy-before-clause-room g c = (ends_at_rest g (goal.at.returns-then-strategy-before-clause-room g c).Then-strategy-before).room

pub returns-in_err-ending-clause-err : goal.returns-in_err-ending-clause-err
returns-in_err-ending-clause-err g c =
    on_refusal c.from_residual.result
    (c.pass.new.strategy.room, made_on (setting_of c.args.setting.now) (moment_of c.args.scene.now (contents_in c.args.store.now)) (moment_of c.passes.scene (contents_in c.passes.store)) (moment_of c.pass.new.scene (contents_in c.pass.new.store)) _ _ _ _ _ _ c.passes.invariant.so_far.made c.in_err-ending.ensures.err)
