-- The region at which a try looks is live.
use Rattle.std.proofs.Common.{◌<◌, length, rules}
use Rattle.tp_slots.proofs.Changing.{lives_within}
use Rattle.tp_slots.proofs.Remembering.{tried_lives, tried_within}
use Rattle.tp_slots.proofs.live.remember.Goals as goal

pub index-requires : goal.index-requires
index-requires c = let l : c.args.item < length c.args.scene.now.slots.items = lives_within c.args.scene.now c.args.item c.requires.kept.shape.ordered c.requires.lives in search rules

pub remember_region-requires-clause-region : goal.remember_region-requires-clause-region
remember_region-requires-clause-region c = tried_within c.args.scene.now c.args.item c.requires.kept c.requires.lives c.index.result.now c.region_tried-region.result c.index.ensures c.region_tried-region.ensures

pub remember_region-requires-clause-lives : goal.remember_region-requires-clause-lives
remember_region-requires-clause-lives c = tried_lives c.args.scene.now c.args.item c.requires.kept c.requires.lives c.index.result.now c.region_tried-region.result c.index.ensures c.region_tried-region.ensures
