-- Only that flag changes.
use Rattle.std.proofs.Common.{refl}
use Rattle.std.proofs.lemmas.List.{map-set}
use Rattle.tp_scene.specs.Scene.{Ending, Going}
use Rattle.tp_slots.specs.Read.{flag_of, region_slot_of}
use Rattle.tp_slots.specs.declared.scene.Region.{Region}
use Rattle.tp_slots.proofs.Lists.{set_same}
use Rattle.tp_slots.proofs.flags.set_so.Goals as goal

pub returns-in-Ending-clause-slots : goal.returns-in-Ending-clause-slots
returns-in-Ending-clause-slots c = set_same region_slot_of c.args.list.now c.args.at c.index-list-at.result _ c.requires refl

pub returns-in-Ending-clause-holders : goal.returns-in-Ending-clause-holders
returns-in-Ending-clause-holders c = set_same (λ (x : Region). x.holder) c.args.list.now c.args.at c.index-list-at.result _ c.requires refl

pub returns-in-Ending-clause-set : goal.returns-in-Ending-clause-set
returns-in-Ending-clause-set c = rw c.in-Ending.is (map-set (flag_of Ending) c.args.list.now c.args.at _)

pub returns-in-Ending-clause-other : goal.returns-in-Ending-clause-other
returns-in-Ending-clause-other c = rw c.in-Ending.is (set_same (flag_of Going) c.args.list.now c.args.at c.index-list-at.result _ c.requires refl)

pub returns-in-Going-clause-slots : goal.returns-in-Going-clause-slots
returns-in-Going-clause-slots c = set_same region_slot_of c.args.list.now c.args.at c.index-list-at-in-Going.result _ c.requires refl

pub returns-in-Going-clause-holders : goal.returns-in-Going-clause-holders
returns-in-Going-clause-holders c = set_same (λ (x : Region). x.holder) c.args.list.now c.args.at c.index-list-at-in-Going.result _ c.requires refl

pub returns-in-Going-clause-set : goal.returns-in-Going-clause-set
returns-in-Going-clause-set c = rw c.in-Going.is (map-set (flag_of Going) c.args.list.now c.args.at _)

pub returns-in-Going-clause-other : goal.returns-in-Going-clause-other
returns-in-Going-clause-other c = rw c.in-Going.is (set_same (flag_of Ending) c.args.list.now c.args.at c.index-list-at-in-Going.result _ c.requires refl)
