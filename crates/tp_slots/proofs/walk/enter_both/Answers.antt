-- The outer region is told first.
use Rattle.std.proofs.Common.{arith, ◌++◌, ◌∷◌, ◌∙◌, ap, sym}
use Rattle.std.proofs.lemmas.List.{append_assoc}
use Rattle.tp_scene.specs.LiveItems.{live_items}
use Rattle.tp_slots.specs.Plain.{entries_at}
use Rattle.tp_slots.specs.Walk.{visits, todo}
use Rattle.tp_slots.specs.Read.{slots_of}
use Rattle.tp_slots.proofs.CostLemmas.{region_tasks}
use Rattle.tp_slots.proofs.WalkLemmas.{region_todo}
use Rattle.tp_slots.proofs.walk.enter_both.Goals as goal

pub returns-clause-told : goal.returns-clause-told
returns-clause-told c =
    (region_todo c.args.scene.now c.args.outer c.index.result.now c.enter.new.stack.items c.push_visits.new.stack.items c.requires.sound c.requires.outer c.index.ensures c.in_ok-enter.ensures.tasks (c.in_ok-push_visits.ensures ∙ ap (λ ids. c.enter.new.stack.items ++ visits ids) c.as_slice.ensures.value)).0
    ∙ (ap (λ ns. live_items (entries_at (slots_of c.args.scene.now) c.args.outer) ++ ns) c.in_ok-enter.ensures.told
    ∙ sym (append_assoc (live_items (entries_at (slots_of c.args.scene.now) c.args.outer)) (live_items (entries_at (slots_of c.args.scene.now) c.args.inner)) (c.args.item ∷ todo (slots_of c.args.scene.now) c.args.stack.now.items)))

pub returns-clause-tasks : goal.returns-clause-tasks
returns-clause-tasks c = (region_todo c.args.scene.now c.args.outer c.index.result.now c.enter.new.stack.items c.push_visits.new.stack.items c.requires.sound c.requires.outer c.index.ensures c.in_ok-enter.ensures.tasks (c.in_ok-push_visits.ensures ∙ ap (λ ids. c.enter.new.stack.items ++ visits ids) c.as_slice.ensures.value)).1

pub returns-clause-cost : goal.returns-clause-cost
returns-clause-cost c =
    let a = region_tasks c.args.scene.now c.args.outer c.index.result.now c.enter.new.stack.items c.push_visits.new.stack.items c.requires.sound c.requires.outer c.index.ensures (c.in_ok-push_visits.ensures ∙ ap (λ ids. c.enter.new.stack.items ++ visits ids) c.as_slice.ensures.value) in
    let b = c.in_ok-enter.ensures.cost in
    omega (arith, a, b)
