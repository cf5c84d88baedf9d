-- The holder of a region is an item of a region with a smaller number.
use Rattle.std.proofs.Common.{ap, ◌∙◌, arith}
use Rattle.tp_slots.proofs.Seeing.{holder_read, holder_within, home_less}
use Rattle.tp_agenda.proofs.ends.region_around.Goals as goal

pub index-requires-2 : goal.index-requires-2
index-requires-2 c =
    let s = c.args.scene.now in
    let r = c.args.region in
    let w = holder_within s c.requires.kept.shape r c.requires.within c.requires.inner in
    let h = ap (λ x. x.holder) c.index.ensures ∙ holder_read s r c.requires.within c.index.result.now in
    omega (arith, w, h)

pub returns-clause-less : goal.returns-clause-less
returns-clause-less c =
    home_less c.args.scene.now c.requires.kept.shape c.args.region c.requires.within c.requires.inner c.index.result.now c.index-2.result.now c.index.ensures c.index-2.ensures
