-- Only the holder of that region changes.
use Rattle.std.proofs.Common.{refl}
use Rattle.std.proofs.lemmas.List.{map-set}
use Rattle.tp_slots.specs.Read.{region_slot_of}
use Rattle.tp_slots.specs.declared.scene.Region.{Region}
use Rattle.tp_slots.proofs.Lists.{set_same}
use Rattle.tp_slots.proofs.put.hold_region.Goals as goal

pub returns-clause-holders : goal.returns-clause-holders
returns-clause-holders c = map-set (λ (x : Region). x.holder) c.args.list.now c.args.at _

pub returns-clause-slots : goal.returns-clause-slots
returns-clause-slots c = set_same region_slot_of c.args.list.now c.args.at c.index-list-at.result _ c.requires refl

pub returns-clause-ends : goal.returns-clause-ends
returns-clause-ends c = set_same (λ (x : Region). x.ends_now) c.args.list.now c.args.at c.index-list-at.result _ c.requires refl

pub returns-clause-goes : goal.returns-clause-goes
returns-clause-goes c = set_same (λ (x : Region). x.goes_now) c.args.list.now c.args.at c.index-list-at.result _ c.requires refl
