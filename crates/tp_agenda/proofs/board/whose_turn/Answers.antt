-- The seed's choice is a place among the ready items.
use Rattle.std.proofs.Common.{Option, sym, subst}
use Rattle.std.specs.Option.{IfSome}
use Rattle.tp_step.specs.declared.order.Order.{Order}
use Rattle.tp_step.specs.declared.order.Order.TheVariants.{Seed}
use Rattle.std.proofs.Common.{ℕ}
use Rattle.tp_lanes.specs.Planes.{IsNthMember}
use Rattle.tp_agenda.specs.Agenda.{TriesNext}
use Rattle.tp_agenda.proofs.Turns.{IsFlagged, chosen_turn}
use Rattle.tp_agenda.proofs.board.whose_turn.Goals as goal

pub returns-else-count-eq0-clause-some : goal.returns-else-count-eq0-clause-some
returns-else-count-eq0-clause-some c = λ item e.
    let ready = c.args.ready.now in
    let after = c.choose_place.new.word in
    let member : IsNthMember ready c.choose_place.result item = subst (λ (o : Option ℕ). IfSome o (IsNthMember ready c.choose_place.result)) e c.nth.ensures.member in
    subst (λ (o : Order). TriesNext (IsFlagged ready) o (Seed after) item) (sym c.in-Seed.is)
    (chosen_turn ready c.in-Seed.word after c.count-count.result c.choose_place.result item c.count-count.ensures c.choose_place.ensures.choice c.choose_place.ensures.word member)
