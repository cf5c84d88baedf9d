-- One item after the other is added that may move.
use Rattle.std.proofs.Common.{◌≡◌, ◌+◌, ◌<◌, List, Bool, true, take, length, length-set, get_or, slice_set, sym, ◌∙◌, subst, arith}
use Rattle.std.proofs.lemmas.List.{get_or_default}
use Rattle.tp_slots.specs.Read.{scene_of}
use Rattle.tp_step.proofs.LiveNumbers.{live_below}
use Rattle.tp_agenda.specs.Board.{moving_among}
use Rattle.tp_agenda.specs.Held.{AddsReady}
use Rattle.tp_agenda.specs.Ready.{may_move}
use Rattle.tp_agenda.proofs.Adding.{adds_passing, adds_no_more}
use Rattle.tp_agenda.proofs.Movers.{mover_lives}
use Rattle.tp_agenda.proofs.board.add_moving.Goals.{then-may_move, else-may_move}
use Rattle.tp_agenda.proofs.board.add_moving.Goals as goal

pub set-requires : goal.set-requires
set-requires c =
    let s = c.args.scene.now in
    let x = get_or c.args.items.now c.loop-item.item-index 0 in
    let below : x < (scene_of s).next_item = live_below s c.requires.kept x (mover_lives x (scene_of s).root.entries (sym c.may_move.ensures ∙ c.if-may_move.true)) in
    omega (arith, below, c.requires.room, c.loop-item.invariant.size)

pub loop-item-preserved : goal.loop-item-preserved
loop-item-preserved c =
    let s = c.args.scene.now in
    let es = (scene_of s).root.entries in
    let items = c.args.items.now in
    let i = c.loop-item.item-index in
    let x = get_or items i 0 in
    let less : i < length items = c.loop-item-test.true in
    let at = get_or_default items i x 0 less in
    let inv = c.loop-item.invariant in
    let old = c.args.ready.now in
    let ready = c.loop-item.ready in
    let Adds : List Bool → Type 0 = λ after. record {
      adds : AddsReady (moving_among es (take (i + 1) items)) old after;
      size : length after ≡ length old;
    } in
    elim c.if-may_move.branch [
      | then-may_move w ↦ (let is = sym c.may_move.ensures ∙ w.if-may_move.true in
          let below : x < (scene_of s).next_item = live_below s c.requires.kept x (mover_lives x es is) in
          let within : x < length ready = omega (arith, below, c.requires.room, inv.size) in
          let added : Adds (slice_set ready x true) = record {
            adds = adds_passing (λ u. may_move u es) items i x less at old ready inv.adds is within;
            size = length-set ready x true ∙ inv.size;
          } in
          subst Adds (sym (w.ready-is ∙ w.set.ensures)) added)
      | else-may_move w ↦ (let added : Adds ready = record {
        adds = adds_no_more (λ u. may_move u es) items i x less at old ready inv.adds (sym c.may_move.ensures ∙ w.if-may_move.false);
        size = inv.size;
      } in
          subst Adds (sym w.ready-is) added)
    ]
