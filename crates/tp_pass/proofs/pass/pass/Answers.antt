use Rattle.std.proofs.Common.{◌∙◌, ◌++◌, ◌∷◌, [], ap, refl, sym, Some}
use Rattle.tp_store.specs.Stock.{contents_in}
use Rattle.tp_decide.specs.Decided.{setting_of}
use Rattle.tp_step.specs.declared.tally.Tally.{Tally}
use Rattle.tp_step.specs.Answers.{moment_of}
use Rattle.tp_step.proofs.LiveNumbers.{live_below}
use Rattle.tp_pass.proofs.OnePass.{ComesOfTurn, comes_of_turn, pass_begins, pass_is_whole, passes_over}
use Rattle.tp_pass.proofs.Picks.{picks_have_room}
use Rattle.tp_pass.proofs.pass.pass.Given.{Over}
use Rattle.tp_pass.proofs.pass.pass.Goals.{After-ending_of}
use Rattle.tp_pass.proofs.pass.pass.Goals as goal

pub items-init : goal.items-init
items-init g c = record {
  so_far = pass_begins (setting_of c.args.setting.now) (moment_of c.args.scene.now (contents_in c.args.store.now)) c.args.strategy.now.order c.begin.new.order c.in_ok-sweep.sweep c.args.strategy.now.room c.args.tally.now.picks c.in_ok-sweep.ensures.begins;
  order = refl;
  waits = refl;
  rests = refl;
  kept = c.requires.kept;
}

pub record-requires : goal.record-requires
record-requires g c =
    let room = picks_have_room (setting_of c.args.setting.now) c.in-Some.item c.items.strategy.room (moment_of c.items.scene (contents_in c.items.store)) (moment_of c.try_item.new.scene (contents_in c.try_item.new.store)) in
    record { left = room (Some c.in-Ok.tried) (sym c.has_item.ensures ∙ c.if-not-has_item.false, c.in-Ok.ensures.answer) }

pub items-preserved-then-not-has_item : goal.items-preserved-then-not-has_item
items-preserved-then-not-has_item g c = record {
  so_far = passes_over (setting_of c.args.setting.now) (moment_of c.args.scene.now (contents_in c.args.store.now)) (moment_of c.items.scene (contents_in c.items.store)) c.in_ok-sweep.sweep c.items.sweep c.next.new.self _ _ _ _ c.items.invariant.so_far c.in-Some.item c.in-Some.ensures.turn
      (sym c.has_item.ensures ∙ c.if-not-has_item.true);
  order = c.items.invariant.order;
  waits = c.items.invariant.waits;
  rests = c.items.invariant.rests;
  kept = c.items.invariant.kept;
}

-- what comes of an item that was tried
came : (g : Over) (c : After-ending_of g) → ComesOfTurn (setting_of c.args.setting.now) (moment_of c.args.scene.now (contents_in c.args.store.now)) (moment_of c.try_item.new.scene (contents_in c.try_item.new.store))
    c.in_ok-sweep.sweep c.next.new.self c.args.strategy.now.room c.record.new.left c.args.tally.now.picks c.record.new.tally.picks c.ending_of.result
came g c =
    let item = c.in-Some.item in
    let counts = c.record.ensures.counts c.items.tally.picks item (c.in_ok-push.ensures.items ∙ ap (λ (y : Tally). y.picks ++ item ∷ []) c.tally.view_is) in
    comes_of_turn (setting_of c.args.setting.now) (moment_of c.args.scene.now (contents_in c.args.store.now)) (moment_of c.items.scene (contents_in c.items.store)) c.in_ok-sweep.sweep c.items.sweep c.next.new.self _ _ _ _ c.items.invariant.so_far
    (moment_of c.try_item.new.scene (contents_in c.try_item.new.store)) _ _ item c.in-Some.ensures.turn c.in-Ok.ensures.sound (Some c.in-Ok.tried) (sym c.has_item.ensures ∙ c.if-not-has_item.false, c.in-Ok.ensures.answer) counts c.ending_of.result c.ending_of.ensures

pub items-preserved : goal.items-preserved
items-preserved g c = record {
  so_far = (came g (goal.at.items-preserved g c).After-ending_of).goes_on c.in-None.is;
  order = c.items.invariant.order;
  waits = c.record.ensures.waits ∙ ap (λ (y : Tally). y.waits) c.tally.view_is ∙ c.items.invariant.waits;
  rests = c.record.ensures.rests ∙ ap (λ (y : Tally). y.rests) c.tally.view_is ∙ c.items.invariant.rests;
  kept = c.try_item.ensures.kept;
}

pub returns-in-Some-ending_of-clause-made : goal.returns-in-Some-ending_of-clause-made
returns-in-Some-ending_of-clause-made g c =
    (came g (goal.at.returns-in-Some-ending_of-clause-made g c).After-ending_of).ends _ _ _ c.in_ok-sweep.ensures.begins c.items.invariant.order c.in-Some-ending_of.ending c.in-Some-ending_of.is

pub returns-clause-made : goal.returns-clause-made
returns-clause-made g c =
    pass_is_whole (setting_of c.args.setting.now) (moment_of c.args.scene.now (contents_in c.args.store.now)) (moment_of c.items.scene (contents_in c.items.store)) c.in_ok-sweep.sweep c.items.sweep c.next.new.self _ _ _ _ c.items.invariant.so_far _ _ _
    c.in_ok-sweep.ensures.begins c.items.invariant.order c.in_default.ensures.turn (live_below c.items.scene c.items.invariant.kept)
