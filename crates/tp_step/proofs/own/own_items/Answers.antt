-- What was listed, and what the stack leads to, are the items of the region.
use Rattle.std.proofs.Common.{arith, ◌≡◌, ◌<◌, ◌++◌, ◌∙◌, ap, sym, subst, length, rules}
use Rattle.tp_slots.specs.Cost.{sum_over, cost_of}
use Rattle.tp_step.specs.Listing.{own_stacked, backward}
use Rattle.tp_slots.specs.Plain.{AreIn}
use Rattle.tp_slots.specs.Read.{slots_of}
use Rattle.tp_step.proofs.Listing.{roots_listed, taken_off}
use Rattle.tp_slots.proofs.OwnItems.{slot_is}
use Rattle.tp_step.proofs.own.own_items.Goals as goal

pub list-init : goal.list-init
list-init c =
    let s = c.args.scene.now in
    let new = c.push_backward.new.stack.items in
    let is = c.in_ok-push_backward.ensures ∙ (λ i. c.new-stack.ensures.items i ++ backward (c.as_slice.ensures.value i)) in
    let x = roots_listed s c.args.region c.index.result.now new c.requires.sound c.requires.region c.index.ensures is in
    (ap (λ ns. ns ++ own_stacked (slots_of s) new) c.new-out.ensures.items ∙ x.0, x.1)

pub index-requires-in-Some : goal.index-requires-in-Some
index-requires-in-Some c =
    let l = (taken_off c.args.scene.now c.args.region c.in-Some.item c.list.stack.items c.pop.new.self.items c.list.invariant.1 c.in-Some.ensures.items).1 in
    let e : length c.args.scene.now.slots.items ≡ c.args.scene.now.slots.len = search rules in
    omega (arith, l, e)

pub list_what-requires-clause-within : goal.list_what-requires-clause-within
list_what-requires-clause-within c = (taken_off c.args.scene.now c.args.region c.in-Some.item c.list.stack.items c.pop.new.self.items c.list.invariant.1 c.in-Some.ensures.items).1

pub list_what-requires-clause-slot : goal.list_what-requires-clause-slot
list_what-requires-clause-slot c =
    slot_is c.args.scene.now c.in-Some.item c.index-in-Some.result.now (taken_off c.args.scene.now c.args.region c.in-Some.item c.list.stack.items c.pop.new.self.items c.list.invariant.1 c.in-Some.ensures.items).1 c.index-in-Some.ensures

pub list_what-requires-clause-items : goal.list_what-requires-clause-items
list_what-requires-clause-items c =
    let x = taken_off c.args.scene.now c.args.region c.in-Some.item c.list.stack.items c.pop.new.self.items c.list.invariant.1 c.in-Some.ensures.items in
    subst (λ r. AreIn (slots_of c.args.scene.now) 0 r c.pop.new.self.items) (sym x.2) x.3

pub list-preserved : goal.list-preserved
list-preserved c =
    let x = taken_off c.args.scene.now c.args.region c.in-Some.item c.list.stack.items c.pop.new.self.items c.list.invariant.1 c.in-Some.ensures.items in (
      c.in_ok-list_what-in-Some.ensures.listed ∙ (ap (λ ns. c.list.out.items ++ ns) (sym x.0) ∙ c.list.invariant.0),
      subst (λ r. AreIn (slots_of c.args.scene.now) 0 r c.list_what.new.stack.items) x.2 c.in_ok-list_what-in-Some.ensures.items,
    )

pub list-smaller : goal.list-smaller
list-smaller c =
    let a = (taken_off c.args.scene.now c.args.region c.in-Some.item c.list.stack.items c.pop.new.self.items c.list.invariant.1 c.in-Some.ensures.items).4 in
    let b = c.in_ok-list_what-in-Some.ensures.cost in
    let d : sum_over (cost_of (slots_of c.args.scene.now)) c.list_what.new.stack.items < sum_over (cost_of (slots_of c.args.scene.now)) c.list.stack.items = omega (arith, a, b) in
    d
