-- All that may move are below the bound.
use Rattle.std.proofs.Common.{◌<◌, sym, ◌∙◌, arith}
use Rattle.tp_slots.specs.Read.{scene_of}
use Rattle.tp_step.proofs.LiveNumbers.{live_below}
use Rattle.tp_agenda.proofs.Movers.{mover_lives}
use Rattle.tp_agenda.proofs.board.moving_items.Goals as goal

pub returns-clause-moving : goal.returns-clause-moving
returns-clause-moving c = λ t.
    let s = c.args.scene.now in
    let h = c.loop-item.invariant.moving t in (
      λ e. (h.0 e).1,
      λ m. (let below : t < (scene_of s).next_item = live_below s c.requires.kept t (mover_lives t (scene_of s).root.entries m) in
          h.1 (omega (arith, below, c.requires.bound, c.loop-item-test.false), m)),
    )

pub remember-requires-clause-lives : goal.remember-requires-clause-lives
remember-requires-clause-lives c = mover_lives c.loop-item.item (scene_of c.loop-item.scene).root.entries (sym c.may_move.ensures ∙ c.if-may_move.true)
