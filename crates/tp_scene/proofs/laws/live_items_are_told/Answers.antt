use Rattle.tp_scene.proofs.LiveItems.{live_items_stand}
use Rattle.tp_scene.proofs.Listed.{live_items_are_listed}
use Rattle.tp_scene.proofs.laws.live_items_are_told.Goals as goal

pub returns-clause-regions : goal.returns-clause-regions
returns-clause-regions c = live_items_stand

pub returns-clause-listed : goal.returns-clause-listed
returns-clause-listed c = live_items_are_listed
