-- What was told, and what is to be told, are the live items.
use Rattle.std.proofs.Common.{arith, ◌<◌, ◌++◌, [], ◌∙◌, ap, sym}
use Rattle.std.proofs.lemmas.List.{append-nil}
use Rattle.tp_scene.specs.LiveItems.{live_items}
use Rattle.tp_slots.specs.Plain.{entries_at}
use Rattle.tp_slots.specs.Walk.{visits, todo}
use Rattle.tp_slots.specs.Read.{slots_of}
use Rattle.tp_slots.specs.Cost.{tasks_cost}
use Rattle.tp_slots.proofs.CostLemmas.{popped_cost}
use Rattle.tp_slots.proofs.WalkLemmas.{region_todo, popped}
use Rattle.tp_slots.proofs.walk.items_inside.Goals as goal

pub walk-init : goal.walk-init
walk-init c =
    let first = region_todo c.args.scene.now c.args.region c.index.result.now [] c.push_visits.new.stack.items c.requires.kept.shape.ordered c.requires.region c.index.ensures tt
    (c.in_ok-push_visits.ensures ∙ (λ i. c.new-stack.ensures.items i ++ visits (c.as_slice.ensures.value i))) in
    (ap (λ ns. ns ++ todo (slots_of c.args.scene.now) c.push_visits.new.stack.items) c.new-out.ensures.items ∙ (first.0 ∙ append-nil (live_items (entries_at (slots_of c.args.scene.now) c.args.region))), first.1)

pub perform-requires-clause-task : goal.perform-requires-clause-task
perform-requires-clause-task c = (popped c.args.scene.now c.in-Some.task c.walk.stack.items c.pop.new.self.items c.in-Some.ensures.items c.walk.invariant.1).1

pub perform-requires-clause-tasks : goal.perform-requires-clause-tasks
perform-requires-clause-tasks c = (popped c.args.scene.now c.in-Some.task c.walk.stack.items c.pop.new.self.items c.in-Some.ensures.items c.walk.invariant.1).2

pub walk-preserved : goal.walk-preserved
walk-preserved c =
    let p = popped c.args.scene.now c.in-Some.task c.walk.stack.items c.pop.new.self.items c.in-Some.ensures.items c.walk.invariant.1 in
    (c.in_ok-perform-in-Some.ensures.told ∙ (ap (λ ns. c.walk.out.items ++ ns) (sym p.0) ∙ c.walk.invariant.0), c.in_ok-perform-in-Some.ensures.tasks)

pub walk-smaller : goal.walk-smaller
walk-smaller c =
    let a = popped_cost c.args.scene.now c.in-Some.task c.walk.stack.items c.pop.new.self.items c.in-Some.ensures.items in
    let b = c.in_ok-perform-in-Some.ensures.cost in
    let d : tasks_cost (slots_of c.args.scene.now) c.perform.new.stack.items < tasks_cost (slots_of c.args.scene.now) c.walk.stack.items = omega (arith, a, b) in
    d
