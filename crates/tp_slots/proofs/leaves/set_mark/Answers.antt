-- Only the marks of that region change.
use Rattle.std.proofs.Common.{refl, ◌≡◌, Some, ap, sym, ◌∙◌, map, rules}
use Rattle.tp_scene.specs.Scene.{Ending, Going}
use Rattle.std.specs.Option.{option_map}
use Rattle.tp_decide.specs.Decided.{mark_of}
use Rattle.tp_decide.specs.declared.decision.Side.TheVariants as mark
use Rattle.tp_slots.specs.Replace.{marked_at}
use Rattle.tp_slots.specs.Read.{region_slot_of}
use Rattle.tp_slots.specs.declared.scene.Region.{Region}
use Rattle.tp_slots.proofs.Lists.{set_same, set_marked}
use Rattle.tp_slots.proofs.leaves.set_mark.Goals as goal

pub returns-in-Some-Ending-clause-slots : goal.returns-in-Some-Ending-clause-slots
returns-in-Some-Ending-clause-slots c = set_marked c.args.list.now c.args.at c.index-list-at.result _ (Some Ending) c.requires refl ∙ ap (λ o. marked_at (map region_slot_of c.args.list.now) c.args.at (option_map mark_of o)) (sym is)
  where
    is : c.args.side ≡ Some mark.Ending
    is = search rules

pub returns-in-Some-Ending-clause-holders : goal.returns-in-Some-Ending-clause-holders
returns-in-Some-Ending-clause-holders c = set_same (λ (x : Region). x.holder) c.args.list.now c.args.at c.index-list-at.result _ c.requires refl

pub returns-in-Some-Ending-clause-ends : goal.returns-in-Some-Ending-clause-ends
returns-in-Some-Ending-clause-ends c = set_same (λ (x : Region). x.ends_now) c.args.list.now c.args.at c.index-list-at.result _ c.requires refl

pub returns-in-Some-Ending-clause-goes : goal.returns-in-Some-Ending-clause-goes
returns-in-Some-Ending-clause-goes c = set_same (λ (x : Region). x.goes_now) c.args.list.now c.args.at c.index-list-at.result _ c.requires refl

pub returns-in-Some-Going-clause-slots : goal.returns-in-Some-Going-clause-slots
returns-in-Some-Going-clause-slots c = set_marked c.args.list.now c.args.at c.index-list-at-in-Some-Going.result _ (Some Going) c.requires refl ∙ ap (λ o. marked_at (map region_slot_of c.args.list.now) c.args.at (option_map mark_of o)) (sym is)
  where
    is : c.args.side ≡ Some mark.Going
    is = search rules

pub returns-in-Some-Going-clause-holders : goal.returns-in-Some-Going-clause-holders
returns-in-Some-Going-clause-holders c = set_same (λ (x : Region). x.holder) c.args.list.now c.args.at c.index-list-at-in-Some-Going.result _ c.requires refl

pub returns-in-Some-Going-clause-ends : goal.returns-in-Some-Going-clause-ends
returns-in-Some-Going-clause-ends c = set_same (λ (x : Region). x.ends_now) c.args.list.now c.args.at c.index-list-at-in-Some-Going.result _ c.requires refl

pub returns-in-Some-Going-clause-goes : goal.returns-in-Some-Going-clause-goes
returns-in-Some-Going-clause-goes c = set_same (λ (x : Region). x.goes_now) c.args.list.now c.args.at c.index-list-at-in-Some-Going.result _ c.requires refl
