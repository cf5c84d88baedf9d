-- The facts of a whole value decide what is said of its variable.
use Rattle.std.proofs.Common.{◌≡◌, [], List, ap, sym, ◌∙◌, subst}
use Rattle.tp_value.specs.declared.path.Fact.{Fact}
use Rattle.tp_value.specs.Read.{tree}
use Rattle.tp_store.specs.Facts.{facts_at}
use Rattle.tp_store.specs.Learned.{facts_learned}
use Rattle.tp_store.specs.Nodes.{path_along}
use Rattle.tp_agenda.specs.Board.{facts_decide}
use Rattle.tp_agenda.specs.Wakes.{AreOver, WakesOnly}
use Rattle.tp_agenda.proofs.Given.{given_woken, given_over}
use Rattle.tp_agenda.proofs.board.wake_by_facts.Goals.{In-Whole}
use Rattle.tp_agenda.proofs.board.wake_by_facts.Goals as goal

facts_given : (c : In-Whole) → facts_at (path_along c.in-Whole.var []) (tree c.in-Whole.field-1.value) ≡ c.args.facts
facts_given c = sym (ap facts_learned c.in-Whole.is) ∙ c.facts.view_is

pub returns-clause-only : goal.returns-clause-only
returns-clause-only c =
    let woken = c.wake_by.new in
    let given = facts_given ((goal.at.returns-clause-only c).In-Whole) in
    subst (λ (fs : List Fact). WakesOnly c.args.waits.now (facts_decide fs) c.args.ready.now c.args.over.now.items woken.ready woken.over.items) given
    (given_woken c.in-Whole.var (tree c.in-Whole.field-1.value) c.args.waits.now c.args.ready.now c.args.over.now.items woken.ready woken.over.items c.wake_by.ensures.only)

pub returns-clause-all : goal.returns-clause-all
returns-clause-all c =
    let woken = c.wake_by.new in
    let given = facts_given ((goal.at.returns-clause-all c).In-Whole) in
    subst (λ (fs : List Fact). AreOver c.args.waits.now (facts_decide fs) woken.over.items) given
    (given_over c.in-Whole.var (tree c.in-Whole.field-1.value) c.args.waits.now c.args.ready.now c.args.over.now.items woken.ready woken.over.items c.wake_by.ensures.all)
