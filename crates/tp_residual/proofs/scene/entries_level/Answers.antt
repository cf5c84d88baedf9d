use Rattle.std.proofs.Common.{◌<◌, ◌∙◌, length, get_or, rules}
use Rattle.tp_residual.proofs.Standing.{own_item, only_place, no_place, none_level, one_level, several_level}
use Rattle.tp_residual.proofs.scene.entries_level.Goals as goal

pub item_level-requires : goal.item_level-requires
item_level-requires c =
    let l : 0 < length c.args.items.now = search rules in
    (own_item c.args.residue.now.scene.now c.args.region 0 c.args.items.now c.requires.sound c.requires.region c.requires.items l).0

pub returns-in-len1 : goal.returns-in-len1
returns-in-len1 c =
    let ids = c.args.items.now in
    c.item_level.ensures ∙ one_level c.args.residue.now c.args.region (get_or ids 0 0) ids c.requires.sound c.requires.region c.requires.items (only_place ids c.in-len1.len_at_least c.in-len1.len_below)

pub returns-in-empty : goal.returns-in-empty
returns-in-empty c = none_level c.args.residue.now c.args.region c.args.items.now c.requires.items (no_place c.args.items.now c.in-empty.len_below)

pub returns-in_default : goal.returns-in_default
returns-in_default c = several_level c.args.residue.now c.args.region c.args.items.now c.requires.items c.in_default.len_at_least
