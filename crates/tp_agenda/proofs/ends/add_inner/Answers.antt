-- One item's regions after the other's are added.
use Rattle.std.proofs.Common.{◌≡◌, ◌++◌, length, take, get_or, ap, sym, ◌∙◌, arith, rules, append_assoc}
use Rattle.std.proofs.lemmas.List.{get_or_default}
use Rattle.tp_slots.specs.Read.{item_what}
use Rattle.tp_slots.proofs.OwnItems.{item_of_region, slot_is}
use Rattle.tp_agenda.specs.Outward.{held_by_what, held_by_items}
use Rattle.tp_agenda.proofs.Around.{held_more}
use Rattle.tp_agenda.proofs.ends.add_inner.Goals as goal

pub index-requires : goal.index-requires
index-requires c =
    let ids = c.as_slice-item-items.result.now in
    let i = c.loop-item.item-index in
    let x = get_or ids i 0 in
    let less = c.loop-item-test.true in
    let l = (item_of_region c.args.scene.now c.args.region i ids x c.requires.kept.shape.ordered c.requires.within (c.as_slice-item-items.ensures.value ∙ c.in_ok-items.ensures) less (get_or_default ids i 0 x less)).0 in
    let e : length c.args.scene.now.slots.items ≡ c.args.scene.now.slots.len = search rules in
    omega (arith, l, e)

pub loop-item-preserved : goal.loop-item-preserved
loop-item-preserved c =
    let s = c.args.scene.now in
    let ids = c.as_slice-item-items.result.now in
    let i = c.loop-item.item-index in
    let x = get_or ids i 0 in
    let old = c.args.left.now.items in
    let less = c.loop-item-test.true in
    let within = (item_of_region c.args.scene.now c.args.region i ids x c.requires.kept.shape.ordered c.requires.within (c.as_slice-item-items.ensures.value ∙ c.in_ok-items.ensures) less (get_or_default ids i 0 x less)).0 in
    let what = slot_is s x c.index.result.now within c.index.ensures in
    c.in_ok-add_held.ensures
    ∙ (ap (λ w. c.loop-item.left.items ++ held_by_what w) what
    ∙ (ap (λ xs. xs ++ held_by_what (item_what s x)) c.loop-item.invariant
    ∙ (append_assoc old (held_by_items s (take i ids)) (held_by_what (item_what s x))
    ∙ ap (λ xs. old ++ xs) (sym (held_more s ids i c.loop-item-test.true)))))
