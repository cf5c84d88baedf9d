-- The item is told after its region.
use Rattle.std.proofs.Common.{◌++◌, ◌∙◌, ap}
use Rattle.tp_slots.specs.Walk.{visits}
use Rattle.tp_slots.proofs.CostLemmas.{enter_tasks}
use Rattle.tp_slots.proofs.WalkLemmas.{enter_todo}
use Rattle.tp_slots.proofs.walk.enter.Goals as goal

pub returns-clause-told : goal.returns-clause-told
returns-clause-told c = (enter_todo c.args.scene.now c.args.region c.args.item c.index.result.now c.args.stack.now.items c.push.new.self.items c.push_visits.new.stack.items c.requires.sound c.requires.within c.index.ensures c.requires.tasks c.in_ok-push.ensures.items (c.in_ok-push_visits.ensures ∙ ap (λ ids. c.push.new.self.items ++ visits ids) c.as_slice.ensures.value)).0

pub returns-clause-tasks : goal.returns-clause-tasks
returns-clause-tasks c = (enter_todo c.args.scene.now c.args.region c.args.item c.index.result.now c.args.stack.now.items c.push.new.self.items c.push_visits.new.stack.items c.requires.sound c.requires.within c.index.ensures c.requires.tasks c.in_ok-push.ensures.items (c.in_ok-push_visits.ensures ∙ ap (λ ids. c.push.new.self.items ++ visits ids) c.as_slice.ensures.value)).1

pub returns-clause-cost : goal.returns-clause-cost
returns-clause-cost c = enter_tasks c.args.scene.now c.args.region c.args.item c.index.result.now c.args.stack.now.items c.push.new.self.items c.push_visits.new.stack.items c.requires.sound c.requires.within c.index.ensures c.in_ok-push.ensures.items (c.in_ok-push_visits.ensures ∙ ap (λ ids. c.push.new.self.items ++ visits ids) c.as_slice.ensures.value)
