use Rattle.std.proofs.Common.{ℕ, List, length, ap, subst, arith}
use Rattle.tp_agenda.specs.declared.index.Link.{Link}
use Rattle.tp_agenda.specs.Index.{places_named}
use Rattle.tp_agenda.specs.Wakes.{AreOverAt, is_decided_by}
use Rattle.tp_agenda.proofs.Waking.{all_over, filed_on, newest_fits}
use Rattle.tp_agenda.proofs.wake.wake_by.Goals as goal

pub wake_from-requires-clause-newest : goal.wake_from-requires-clause-newest
wake_from-requires-clause-newest c =
    let fits = newest_fits c.args.index.now c.requires.filed.chained c.args.cause.now in
    let newest = c.newest_by-newest.ensures in
    let links = ap length c.as_slice.ensures.value in
    omega (arith, fits, newest, links)

pub returns-clause-all : goal.returns-clause-all
returns-clause-all c =
    let x = c.args.index.now in
    let ws = c.args.waits.now in
    let cause = c.args.cause.now in
    let after = c.wake_from.new.over.items in
    all_over x ws cause c.args.ready.now c.args.over.now.items c.wake_from.new.ready after c.requires.filed c.wake_from.ensures.only
    (subst (λ (n : ℕ). AreOverAt (places_named n x.links.items n) ws (is_decided_by cause) after) c.newest_by-newest.ensures
    (subst (λ (ls : List Link). AreOverAt (places_named c.newest_by-newest.result ls c.newest_by-newest.result) ws (is_decided_by cause) after) c.as_slice.ensures.value c.wake_from.ensures.all))

pub returns-clause-filed : goal.returns-clause-filed
returns-clause-filed c =
    filed_on c.args.index.now c.args.waits.now c.args.over.now.items c.wake_from.new.over.items c.requires.filed c.wake_from.ensures.only.over_kept
