-- What the step marked is near, as it was asked for what was tried.
use Rattle.std.proofs.Common.{◌≡◌, List, sym, subst, rules}
use Rattle.tp_step.specs.declared.answer.Tried.{Tried}
use Rattle.tp_step.specs.declared.tally.Wait.{Wait}
use Rattle.tp_agenda.specs.Board.{NewsAreNear}
use Rattle.tp_agenda.specs.Outward.{WaitsAreNear}
use Rattle.tp_agenda.proofs.board.Board.take_in.Goals as goal

pub take_news-requires-clause-near : goal.take_news-requires-clause-near
take_news-requires-clause-near c =
    let s = c.args.scene.now in
    let b = c.args.self.now in
    let near = subst (λ (o : Tried). NewsAreNear s o b c.args.tally.now.waits.items.items) c.in-Reduced.is c.requires.near in
    let same : c.as_slice.result.now ≡ c.args.tally.now.waits.items.items = search rules in
    λ region is. subst (λ (xs : List Wait). WaitsAreNear s b.taken.items region xs b.over.items) (sym same) (near region is)
