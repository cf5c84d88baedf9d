use Rattle.std.proofs.Common.{◌≡◌, ◌-◌, suc, sym, subst, arith, [], ◌∷◌}
use Rattle.tp_agenda.specs.declared.index.Link.{Link}
use Rattle.tp_agenda.specs.Wakes.{is_decided_by, AreOverAt}
use Rattle.tp_agenda.proofs.Waking.{WakesSo, one_so_far}
use Rattle.tp_agenda.proofs.wake.wake_from.Goals as goal

pub links-preserved : goal.links-preserved
links-preserved c =
    let ls = c.args.links.now in
    let ws = c.args.waits.now in
    let test = is_decided_by c.args.cause.now in
    let r = c.args.ready.now in
    let k = c.args.over.now.items in
    let r1 = c.links.ready in
    let k1 = c.links.over.items in
    let r2 = c.wake_place.new.ready in
    let k2 = c.wake_place.new.over.items in
    let n = c.links.at - 1 in
    let some = c.links-test.true in
    let e : c.links.at ≡ suc n = omega (arith, some) in
    let h = subst (λ a. WakesSo ws test ls c.args.newest a r k r1 k1) e c.links.invariant in
    let link = c.link_at-here.ensures in
    subst (λ (z : Link). WakesSo ws test ls c.args.newest z.next r k r2 k2) (sym link)
    (one_so_far ws test ls c.args.newest n r k r1 k1 r2 k2 c.requires.back h c.wake_place.ensures.only
    (subst (λ (z : Link). AreOverAt (z.place ∷ []) ws test k2) link c.wake_place.ensures.all))
