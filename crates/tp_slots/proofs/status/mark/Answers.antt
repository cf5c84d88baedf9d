-- A region has a status where it is live.
use Rattle.std.proofs.Common.{◌≤◌, ◌<◌, Some, length, ap, sym, ◌∙◌, rules}
use Rattle.tp_slots.proofs.Marks.{mark_asleep, mark_beyond, mark_live}
use Rattle.tp_slots.proofs.status.mark.Goals as goal

pub returns-then-region-len : goal.returns-then-region-len
returns-then-region-len c = let past : length c.args.scene.now.regions.items ≤ c.args.region = search rules in mark_beyond c.args.scene.now c.requires c.args.region past

pub returns-then-not-lives : goal.returns-then-not-lives
returns-then-not-lives c = mark_asleep c.args.scene.now c.requires c.args.region (sym c.lives.ensures ∙ c.if-not-lives.true)

pub returns : goal.returns
returns c =
    let within : c.args.region < length c.args.scene.now.regions.items = search rules in
    ap Some c.mark_within.ensures ∙ mark_live c.args.scene.now c.requires c.args.region within (sym c.lives.ensures ∙ c.if-not-lives.false)
