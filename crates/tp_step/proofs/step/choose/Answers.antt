-- What is chosen for an item is by what stands in its slot.
use Rattle.std.proofs.Common.{◌<◌, length, ap, sym, ◌∙◌, rules}
use Rattle.tp_store.specs.Stock.{contents_in}
use Rattle.tp_scene.specs.Pick.{numbers_of}
use Rattle.tp_decide.specs.Decided.{setting_of, plain_place}
use Rattle.tp_slots.specs.Read.{item_what, scene_of, slots_of}
use Rattle.tp_slots.proofs.Changing.{lives_within}
use Rattle.tp_step.specs.Chosen.{kind_in}
use Rattle.tp_step.proofs.ChoiceLemmas.{what_read, shallow_there, holds_one, decision_fits, holder_is}
use Rattle.tp_step.proofs.step.choose.Goals as goal

pub index-slot-requires : goal.index-slot-requires
index-slot-requires c = let l : c.args.item < length c.args.scene.now.slots.items = lives_within c.args.scene.now c.args.item c.requires.kept.shape.ordered c.requires.lives in search rules

pub place_inside-inside-requires-clause-holding : goal.place_inside-inside-requires-clause-holding
place_inside-inside-requires-clause-holding c =
    let is = what_read c.args.scene.now c.args.item c.index-slot.result.now c.requires.kept c.requires.lives c.index-slot.ensures in
    holds_one (item_what c.args.scene.now c.args.item) c.in-Some.kind (ap kind_in is ∙ sym c.holder_kind.ensures ∙ c.in-Some.is)

pub place_inside-inside-requires-clause-shallow : goal.place_inside-inside-requires-clause-shallow
place_inside-inside-requires-clause-shallow c =
    (shallow_there (setting_of c.args.setting.now) c.requires.sound.0 (contents_in c.args.store.now) c.args.scene.now c.args.item c.requires.sound.1 c.requires.kept c.requires.lives).inside
    (place_inside-inside-requires-clause-holding c)

pub returns-in-Some : goal.returns-in-Some
returns-in-Some c =
    let s = c.args.scene.now in
    let k = contents_in c.args.store.now in
    let w = setting_of c.args.setting.now in
    let n = numbers_of (scene_of s) k.variables in
    let d = c.decide_holder.result in
    let x = item_what s c.args.item in
    let is = ap kind_in (what_read s c.args.item c.index-slot.result.now c.requires.kept c.requires.lives c.index-slot.ensures) ∙ sym c.holder_kind.ensures ∙ c.in-Some.is in (
      decision_fits x c.in-Some.kind d is c.decide_holder.ensures.kind,
      c.place_inside-inside.ensures w k
          ∙ holder_is w k.facts (slots_of s) x c.in-Some.kind d (plain_place c.place_inside-inside.result) n is (λ h held second e. c.decide_holder.ensures.outcome w k.facts h held second n e),
    )
