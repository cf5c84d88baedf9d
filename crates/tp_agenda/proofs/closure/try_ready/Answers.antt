-- Each ready item is tried in its turn.
use Rattle.std.proofs.Common.{◌≡◌, ◌<◌, ℕ, List, [], ◌∷◌, ◌++◌, length, refl, ap, sym, ◌∙◌, subst}
use Rattle.std.specs.List.{All}
use Rattle.tp_store.specs.Stock.{contents_in}
use Rattle.tp_decide.specs.Decided.{setting_of}
use Rattle.tp_step.specs.declared.tally.Tally.{Tally}
use Rattle.tp_step.specs.declared.tally.Waits.{Waits}
use Rattle.tp_step.specs.declared.tally.Wait.{Wait}
use Rattle.tp_step.specs.Answers.{moment_of}
use Rattle.tp_step.specs.Closes.{LedByPicks}
use Rattle.tp_step.proofs.Picks.{on_refusal, made_none}
use Rattle.tp_agenda.specs.declared.board.Board.{Board}
use Rattle.tp_agenda.specs.Board.{FitsBoard, NewsAreNear}
use Rattle.tp_agenda.specs.Held.{IsHeld, nothing_due}
use Rattle.tp_agenda.proofs.Near.{news_near}
use Rattle.tp_agenda.proofs.Trying.{agenda_sound}
use Rattle.tp_agenda.proofs.Closing.{ComesOf, agenda_starts, comes_of, turn_lives, tried_made, picks_have_room, rests_with, waits_below, still_fits, same_size}
use Rattle.tp_agenda.proofs.closure.try_ready.Given.{Over}
use Rattle.tp_agenda.proofs.closure.try_ready.Goals.{After-count_pick, After-take_in, In_ok-ending}
use Rattle.tp_agenda.proofs.closure.try_ready.Goals as goal

pub tries-init : goal.tries-init
tries-init g c =
    let w = setting_of c.args.setting.now in
    let m = moment_of c.args.scene.now (contents_in c.args.store.now) in
    let agenda = c.args.agenda.now in
    let tally = c.args.tally.now in
    let over = agenda.board.over.items in
    let ready = agenda.board.ready in
    let q = c.requires in
    record {
      so_far = agenda_starts w m agenda.strategy.order agenda.strategy.room tally.picks tally.waits.items.items tally.rests c.args.steps.now q.no_waits q.no_rests;
      made = made_none w m agenda.strategy.room tally.picks;
      held = subst (λ (xs : List Wait). IsHeld w m xs tally.rests over ready nothing_due) (sym q.no_waits) (subst (λ (ts : List ℕ). IsHeld w m [] ts over ready nothing_due) (sym q.no_rests) q.held);
      fits = subst (λ (xs : List Wait). FitsBoard xs agenda.board) (sym q.no_waits) q.fits;
      flags = q.flags;
      taken = q.taken;
      kept = q.kept;
    }

pub try_item-requires-clause-lives : goal.try_item-requires-clause-lives
try_item-requires-clause-lives g c =
    let tally = c.tries.tally in
    let inv = c.tries.invariant in
    turn_lives (setting_of c.args.setting.now) (moment_of c.args.scene.now (contents_in c.args.store.now)) (moment_of c.tries.scene (contents_in c.tries.store)) _ _ c.next.new.order _ _ _ _ tally.waits.items.items tally.rests _ _
    inv.so_far c.tries.agenda.board c.next.new.self inv.held c.in-Some.item (c.in-Some.ensures.some c.in-Some.item refl) (c.in-Some.ensures.taken c.in-Some.item refl)

pub try_item-requires-clause-sound : goal.try_item-requires-clause-sound
try_item-requires-clause-sound g c =
    let sound = c.requires.sound in
    let tally = c.tries.tally in
    (sound.0, agenda_sound (setting_of c.args.setting.now) (moment_of c.args.scene.now (contents_in c.args.store.now)) (moment_of c.tries.scene (contents_in c.tries.store)) _ _ _ _ _ _ tally.waits.items.items tally.rests _ _ c.tries.invariant.so_far sound.0 sound.1)

pub count_pick-requires : goal.count_pick-requires
count_pick-requires g c = record {
  left = picks_have_room (setting_of c.args.setting.now) c.in-Some.item c.tries.agenda.strategy.room (moment_of c.tries.scene (contents_in c.tries.store)) (moment_of c.try_item.new.scene (contents_in c.try_item.new.store)) c.in-Ok.tried c.in-Ok.ensures.answer;
}

-- the waits are those that there were
same_waits : (g : Over) (c : After-count_pick g) → c.count_pick.new.tally.waits.items.items ≡ c.tries.tally.waits.items.items
same_waits g c = ap (λ (x : Waits). x.items.items) (c.count_pick.ensures.waits ∙ ap (λ (y : Tally). y.waits) c.tally.view_is)

pub take_in-requires-clause-fits : goal.take_in-requires-clause-fits
take_in-requires-clause-fits g c =
    let taken = c.next.new.self in
    subst (λ (xs : List Wait). FitsBoard xs taken) (sym (same_waits g (goal.at.take_in-requires-clause-fits g c).After-count_pick))
    (still_fits c.tries.tally.waits.items.items c.tries.agenda.board taken c.in-Some.item (c.in-Some.ensures.taken c.in-Some.item refl) c.tries.invariant.fits)

pub take_in-requires-clause-below : goal.take_in-requires-clause-below
take_in-requires-clause-below g c =
    let board = c.tries.agenda.board in
    let taken = c.next.new.self in
    subst (λ (xs : List Wait). All (λ (x : Wait). x.item < length taken.ready) xs) (sym (same_waits g (goal.at.take_in-requires-clause-below g c).After-count_pick))
    (waits_below (setting_of c.args.setting.now) (moment_of c.tries.scene (contents_in c.tries.store)) c.tries.tally.waits.items.items c.tries.tally.rests board.over.items board.ready c.tries.invariant.held (length taken.ready)
    (same_size board taken c.in-Some.item (c.in-Some.ensures.taken c.in-Some.item refl)))

pub take_in-requires-clause-near : goal.take_in-requires-clause-near
take_in-requires-clause-near g c =
    let w = setting_of c.args.setting.now in
    let inv = c.tries.invariant in
    let tally = c.tries.tally in
    let board = c.tries.agenda.board in
    let taken = c.next.new.self in
    let sound = c.requires.sound in
    let item = c.in-Some.item in
    let here = moment_of c.tries.scene (contents_in c.tries.store) in
    let without = c.in-Some.ensures.taken item refl in
    let sound_here = agenda_sound w (moment_of c.args.scene.now (contents_in c.args.store.now)) here _ _ _ _ _ _ tally.waits.items.items tally.rests _ _ inv.so_far sound.0 sound.1 in
    let lives = turn_lives w (moment_of c.args.scene.now (contents_in c.args.store.now)) here _ _ c.next.new.order _ _ _ _ tally.waits.items.items tally.rests _ _
    inv.so_far board taken inv.held item (c.in-Some.ensures.some item refl) (c.in-Some.ensures.taken item refl) in
    subst (λ (xs : List Wait). NewsAreNear c.try_item.new.scene c.in-Ok.tried taken xs) (sym (same_waits g (goal.at.take_in-requires-clause-near g c).After-count_pick))
    (news_near w sound.0 c.tries.scene c.try_item.new.scene (contents_in c.tries.store) (contents_in c.try_item.new.store) item sound_here inv.kept c.try_item.ensures.kept lives c.tries.agenda.strategy.room
    tally.waits.items.items tally.rests board taken inv.held inv.taken (ap (λ (b : Board). b.over) without) (ap (λ (b : Board). b.taken) without) c.in-Ok.tried c.in-Ok.ensures.answer)

-- the picks that were made, and what comes of the last try
made : (g : Over) (c : After-take_in g) → LedByPicks (setting_of c.args.setting.now) (moment_of c.args.scene.now (contents_in c.args.store.now)) (moment_of c.try_item.new.scene (contents_in c.try_item.new.store))
    c.args.agenda.now.strategy.room c.count_pick.new.left c.args.tally.now.picks c.take_in.new.tally.picks
made g c =
    let w = setting_of c.args.setting.now in
    let first = moment_of c.args.scene.now (contents_in c.args.store.now) in
    let next = moment_of c.try_item.new.scene (contents_in c.try_item.new.store) in
    subst (λ xs. LedByPicks w first next c.args.agenda.now.strategy.room c.count_pick.new.left c.args.tally.now.picks xs) (sym c.take_in.ensures.picks)
    (tried_made w first (moment_of c.tries.scene (contents_in c.tries.store)) next c.in-Some.item _ _ _ _ c.tries.tally.picks _ c.in-Ok.tried c.tries.invariant.made c.in-Ok.ensures.answer (c.count_pick.ensures.counts c.tries.tally.picks c.in-Some.item (c.in_ok-push.ensures.items ∙ ap (λ (y : Tally). y.picks ++ c.in-Some.item ∷ []) c.tally.view_is)))

came : (g : Over) (c : In_ok-ending g) → ComesOf (setting_of c.args.setting.now) (moment_of c.args.scene.now (contents_in c.args.store.now)) (moment_of c.try_item.new.scene (contents_in c.try_item.new.store))
    c.args.agenda.now.strategy.order c.next.new.order c.args.agenda.now.strategy.room c.tries.agenda.strategy.room c.count_pick.new.left c.args.tally.now.picks c.take_in.new.tally.picks
    c.take_in.new.tally.waits.items.items c.take_in.new.tally.rests c.args.steps.now c.try_item.new.steps c.tries.agenda.board c.take_in.new.self c.in_ok-ending.field-0
came g c =
    let w = setting_of c.args.setting.now in
    let first = moment_of c.args.scene.now (contents_in c.args.store.now) in
    let here = moment_of c.tries.scene (contents_in c.tries.store) in
    let next = moment_of c.try_item.new.scene (contents_in c.try_item.new.store) in
    let item = c.in-Some.item in
    let tally = c.tries.tally in
    let inv = c.tries.invariant in
    let same_waits_now = ap (λ (x : Waits). x.items.items) (c.count_pick.ensures.waits ∙ ap (λ (y : Tally). y.waits) c.tally.view_is) in
    let counts = c.count_pick.ensures.counts tally.picks item (c.in_ok-push.ensures.items ∙ ap (λ (y : Tally). y.picks ++ item ∷ []) c.tally.view_is) in
    let same_rests = c.count_pick.ensures.rests ∙ ap (λ (y : Tally). y.rests) c.tally.view_is in
    comes_of w first here _ _ c.next.new.order _ _ _ tally.picks tally.waits.items.items tally.rests _ _ inv.so_far c.tries.agenda.board c.next.new.self inv.held item
    (c.in-Some.ensures.some item refl) (c.in-Some.ensures.taken item refl) inv.fits inv.flags inv.taken c.requires.sound.0 c.requires.sound.1 next c.count_pick.new.left c.count_pick.new.tally.picks c.try_item.new.steps c.try_item.ensures.steps
    c.take_in.new.self c.take_in.new.tally.waits.items.items c.take_in.new.tally.rests c.count_pick.new.tally.waits.items.items c.count_pick.new.tally.rests same_waits_now same_rests
    c.take_in.new.tally.picks c.take_in.ensures.picks c.in-Ok.tried c.in-Ok.ensures.answer counts c.in_ok-ending.field-0 c.in_ok-ending.ensures.takes

pub tries-preserved : goal.tries-preserved
tries-preserved g c =
    let on = (came g (goal.at.tries-preserved g c).In_ok-ending).goes_on c.in-None.is in
    record {
      so_far = on.so_far;
      made = made g (goal.at.tries-preserved g c).After-take_in;
      held = on.held;
      fits = on.fits;
      flags = on.flags;
      taken = on.taken;
      kept = c.try_item.ensures.kept;
    }

pub tries-smaller : goal.tries-smaller
tries-smaller g c = ((came g (goal.at.tries-smaller g c).In_ok-ending).goes_on c.in-None.is).smaller

pub returns-in-Some-2-clause-closes : goal.returns-in-Some-2-clause-closes
returns-in-Some-2-clause-closes g c = (came g (goal.at.returns-in-Some-2-clause-closes g c).In_ok-ending).ends c.in-Some-2.ending c.in-Some-2.is

pub returns-in_err-ending-clause-err : goal.returns-in_err-ending-clause-err
returns-in_err-ending-clause-err g c = on_refusal c.from_residual-in_err-ending.result (c.count_pick.new.left, made g (goal.at.returns-in_err-ending-clause-err g c).After-take_in)

pub returns-clause-closes : goal.returns-clause-closes
returns-clause-closes g c =
    let tally = c.tries.tally in
    let inv = c.tries.invariant in
    let board = c.tries.agenda.board in
    rests_with (setting_of c.args.setting.now) (moment_of c.args.scene.now (contents_in c.args.store.now)) (moment_of c.tries.scene (contents_in c.tries.store)) _ _ _ _ _ _ tally.waits.items.items tally.rests _ _
    inv.so_far board.over.items board.ready inv.held c.requires.sound.0 c.requires.sound.1 (c.in_default.ensures.none refl)
