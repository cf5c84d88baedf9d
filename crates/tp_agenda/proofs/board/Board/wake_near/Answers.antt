-- What is inside the outermost due region is woken; where the marked region isn't due, nothing is near it.
use Rattle.std.proofs.Common.{ℕ, List, [], Bool, ap, sym, ◌∙◌, subst}
use Rattle.tp_agenda.specs.declared.board.Board.{Board}
use Rattle.tp_agenda.specs.Board.{FitsBoard}
use Rattle.tp_agenda.specs.Outward.{LeadsThrough, WaitsAreNear, is_due}
use Rattle.tp_agenda.proofs.Taking.{near_over, none_near, takes_fits}
use Rattle.tp_agenda.proofs.board.Board.wake_near.Goals as goal

pub returns-then-not-is_due-clause-all : goal.returns-then-not-is_due-clause-all
returns-then-not-is_due-clause-all c =
    let s = c.args.scene.now in
    let b = c.args.self.now in
    none_near s c.requires.kept c.args.waits.now b.taken.items b.over.items c.args.marked
    (ap (λ xs. is_due s xs c.args.marked) (sym c.as_slice.ensures.value) ∙ (sym c.is_due.ensures ∙ c.if-not-is_due.true)) c.requires.near

pub returns-clause-fits : goal.returns-clause-fits
returns-clause-fits c =
    takes_fits c.args.scene.now c.requires.kept c.args.waits.now [] c.make_flags.new.self c.wake_inside.new.self c.in_ok-wake_inside.ensures.takes
    (subst (λ (b : Board). FitsBoard c.args.waits.now b) (sym c.make_flags.ensures.rest)
    (record { bound = c.requires.fits.bound; small = c.requires.fits.small; sizes = c.requires.fits.sizes; filed = c.requires.fits.filed }))

pub returns-clause-all : goal.returns-clause-all
returns-clause-all c =
    let s = c.args.scene.now in
    let ws = c.args.waits.now in
    let old = c.args.self.now in
    let grown = c.make_flags.new.self in
    let out = c.outermost_due-outermost.result in
    let taken = c.as_slice-2.ensures.value in
    let leads = subst (λ (xs : List Bool). (top : ℕ) → LeadsThrough s xs c.args.marked top → LeadsThrough s xs top out) taken c.outermost_due-outermost.ensures.leads in
    let over = ap (λ (b : Board). b.over.items) c.make_flags.ensures.rest in
    near_over s c.requires.kept ws old.taken.items grown c.wake_inside.new.self c.in_ok-make_flags.ensures.flags c.in_ok-wake_inside.ensures.takes c.args.marked out leads c.in_ok-wake_inside.ensures.region
    (subst (λ (xs : List Bool). WaitsAreNear s old.taken.items c.args.marked ws xs) (sym over) c.requires.near)
