-- What is chosen for an item without a region is by what stands in its slot.
use Rattle.std.proofs.Common.{◌<◌, length, ap, sym, ◌∙◌, subst, rules}
use Rattle.tp_store.specs.Stock.{contents_in}
use Rattle.tp_scene.specs.Pick.{numbers_of}
use Rattle.tp_decide.specs.Decided.{setting_of, plain_place}
use Rattle.tp_decide.specs.ReadBound.{formula_of, env_of}
use Rattle.tp_slots.specs.Picked.{what_step}
use Rattle.tp_slots.specs.Plain.{What}
use Rattle.tp_slots.specs.Read.{scene_of, slots_of, what_of}
use Rattle.tp_slots.specs.Reductions.{IsBare}
use Rattle.tp_slots.proofs.Changing.{lives_within}
use Rattle.tp_step.proofs.ChoiceLemmas.{what_read, phrase_fits, shallow_there, rests_undue}
use Rattle.tp_step.specs.Chosen.{BindsThere}
use Rattle.tp_step.proofs.BindsLast.{BindsLast, binds_last, binds_there}
use Rattle.tp_step.proofs.step.choose_for_leaf.Goals as goal

pub index-slot-requires : goal.index-slot-requires
index-slot-requires c = let l : c.args.item < length c.args.scene.now.slots.items = lives_within c.args.scene.now c.args.item c.requires.kept.shape.ordered c.requires.lives in search rules

pub place_of_item-place-requires-clause-shallow : goal.place_of_item-place-requires-clause-shallow
place_of_item-place-requires-clause-shallow c =
    (shallow_there (setting_of c.args.setting.now) c.requires.sound.0 (contents_in c.args.store.now) c.args.scene.now c.args.item c.requires.sound.1 c.requires.kept c.requires.lives).stands

pub decide-requires : goal.decide-requires
decide-requires c =
    let is = what_read c.args.scene.now c.args.item c.index-slot.result.now c.requires.kept c.requires.lives c.index-slot.ensures ∙ (rw c.in-Some.is at c.due.ensures) in
    record { fits = phrase_fits (setting_of c.args.setting.now) c.requires.sound.0 (contents_in c.args.store.now) c.args.scene.now c.args.item c.requires.sound.1 c.requires.kept c.requires.lives (formula_of c.in-Some.bound.now) (env_of c.in-Some.bound.now) is }

pub returns-in_ok-decision-in-Some : goal.returns-in_ok-decision-in-Some
returns-in_ok-decision-in-Some c =
    let s = c.args.scene.now in
    let k = contents_in c.args.store.now in
    let w = setting_of c.args.setting.now in
    let n = numbers_of (scene_of s) k.variables in
    let f = formula_of c.in-Some.bound.now in
    let env = env_of c.in-Some.bound.now in
    let d = c.in_ok-decision-in-Some.decision in
    let is = what_read s c.args.item c.index-slot.result.now c.requires.kept c.requires.lives c.index-slot.ensures ∙ (rw c.in-Some.is at c.due.ensures) in (
      subst IsBare (sym is) tt,
      c.in_ok-decision-in-Some.ensures.variables,
      c.place_of_item-place.ensures.outcome w k ∙ ap (λ (x : What). what_step w k.facts (slots_of s) x (plain_place c.place_of_item-place.result) n) is ∙ sym (c.in_ok-decision-in-Some.ensures.outcome n),
      subst (λ (x : What). BindsThere x d) (sym is)
          (binds_there env f k.facts n d (subst (BindsLast env) (sym (c.in_ok-decision-in-Some.ensures.outcome n)) (binds_last env w.defs k.facts w.inputs w.state f (plain_place c.place_of_item-place.result) n))),
    )

pub returns-in-None : goal.returns-in-None
returns-in-None c =
    let is = what_read c.args.scene.now c.args.item c.index-slot.result.now c.requires.kept c.requires.lives c.index-slot.ensures in
    let rests = rests_undue (setting_of c.args.setting.now) c.requires.sound.0 (contents_in c.args.store.now) c.args.scene.now c.args.item c.requires.sound.1 c.requires.kept c.requires.lives (what_of c.index-slot.result.now.what) is c.requires.leaf (rw c.in-None.is at c.due.ensures) in
    (rests.0, tt, rests.1, tt)
