use Rattle.std.proofs.Common.{arith, ap, true, false, sym, ◌∙◌, subst}
use Rattle.std.proofs.lemmas.Result.{err_from_is_err_and}
use Rattle.tp_store.specs.Known.{Addition}
use Rattle.tp_store.specs.Stock.{contents_in}
use Rattle.tp_store.specs.Answers.{IsRefusal}
use Rattle.tp_store.proofs.Parts.{sound, state_same, static_same, addition_view, state_grown, state_adds, static_grown, static_adds}
use Rattle.tp_store.proofs.store.Store.add_facts.Goals as goal

pub returns-in_err-news-clause-refused : goal.returns-in_err-news-clause-refused
returns-in_err-news-clause-refused c =
    let refused = subst (λ (o : Addition). IsRefusal o c.in_err-news.field-0.0) (addition_view c.self.inside.entries.items c.self.inside.state c.self.inside.fixed _ (ap contents_in c.self.view_is) c.self.invariant true c.args.var c.args.facts.items c.if-var.true c.requires.filed) c.in_err-news.ensures.refused in
    let p = err_from_is_err_and c.from_residual.result c.from_residual.ensures.1 in
    rw (p.1, p.2) refused

pub returns-in_err-news-clause-sound : goal.returns-in_err-news-clause-sound
returns-in_err-news-clause-sound c =
    sound c.self.inside.entries.items c.self.inside.state c.add.new.self
    (static_same c.self.inside.entries.items c.self.inside.state c.self.inside.fixed c.add.new.self c.add.ensures.kind c.in_err-news.ensures.err (omega (arith, c.add.ensures.placed)) c.self.invariant)

pub invariant_of-self-then-var : goal.invariant_of-self-then-var
invariant_of-self-then-var c = static_grown c.self.inside.entries.items c.self.inside.state c.self.inside.fixed _ (ap contents_in c.self.view_is) c.self.invariant c.args.var c.args.facts.items c.in_ok-news.news c.requires.variable c.requires.filed c.add.new.self c.in_ok-news.ensures.added c.in_ok-news.ensures.kind c.in_ok-news.ensures.of_kind c.in_ok-news.ensures.apart c.in_ok-news.ensures.ok c.add.ensures.placed

pub returns-then-var-clause-news : goal.returns-then-var-clause-news
returns-then-var-clause-news c = sym (addition_view c.self.inside.entries.items c.self.inside.state c.self.inside.fixed _ (ap contents_in c.self.view_is) c.self.invariant true c.args.var c.args.facts.items c.if-var.true c.requires.filed) ∙ c.in_ok-news.ensures.added

pub returns-then-var-clause-added : goal.returns-then-var-clause-added
returns-then-var-clause-added c = static_adds c.self.inside.entries.items c.self.inside.state c.self.inside.fixed _ (ap contents_in c.self.view_is) c.self.invariant c.args.var c.args.facts.items c.in_ok-news.news c.requires.variable c.requires.filed c.add.new.self c.in_ok-news.ensures.added c.in_ok-news.ensures.kind c.in_ok-news.ensures.of_kind c.in_ok-news.ensures.apart c.in_ok-news.ensures.ok c.add.ensures.placed

pub returns-then-var-clause-sound : goal.returns-then-var-clause-sound
returns-then-var-clause-sound c = sound c.self.inside.entries.items c.self.inside.state c.add.new.self (static_grown c.self.inside.entries.items c.self.inside.state c.self.inside.fixed _ (ap contents_in c.self.view_is) c.self.invariant c.args.var c.args.facts.items c.in_ok-news.news c.requires.variable c.requires.filed c.add.new.self c.in_ok-news.ensures.added c.in_ok-news.ensures.kind c.in_ok-news.ensures.of_kind c.in_ok-news.ensures.apart c.in_ok-news.ensures.ok c.add.ensures.placed)

pub returns-in_err-news-2-clause-refused : goal.returns-in_err-news-2-clause-refused
returns-in_err-news-2-clause-refused c =
    let refused = subst (λ (o : Addition). IsRefusal o c.in_err-news-2.field-0.0) (addition_view c.self.inside.entries.items c.self.inside.state c.self.inside.fixed _ (ap contents_in c.self.view_is) c.self.invariant false c.args.var c.args.facts.items c.if-var.false c.requires.filed) c.in_err-news-2.ensures.refused in
    let p = err_from_is_err_and c.from_residual-in_err-news-2.result c.from_residual-in_err-news-2.ensures.1 in
    rw (p.1, p.2) refused

pub returns-in_err-news-2-clause-sound : goal.returns-in_err-news-2-clause-sound
returns-in_err-news-2-clause-sound c =
    sound c.self.inside.entries.items c.add-2.new.self c.self.inside.fixed
    (state_same c.self.inside.entries.items c.self.inside.state c.self.inside.fixed c.add-2.new.self c.add-2.ensures.kind c.in_err-news-2.ensures.err (omega (arith, c.add-2.ensures.placed)) c.self.invariant)

pub invariant_of-self-2 : goal.invariant_of-self-2
invariant_of-self-2 c = state_grown c.self.inside.entries.items c.self.inside.state c.self.inside.fixed _ (ap contents_in c.self.view_is) c.self.invariant c.args.var c.args.facts.items c.in_ok-news-2.news c.requires.variable c.requires.filed c.add-2.new.self c.in_ok-news-2.ensures.added c.in_ok-news-2.ensures.kind c.in_ok-news-2.ensures.of_kind c.in_ok-news-2.ensures.apart c.in_ok-news-2.ensures.ok c.add-2.ensures.placed c.if-var.false

pub returns-clause-news : goal.returns-clause-news
returns-clause-news c = sym (addition_view c.self.inside.entries.items c.self.inside.state c.self.inside.fixed _ (ap contents_in c.self.view_is) c.self.invariant false c.args.var c.args.facts.items c.if-var.false c.requires.filed) ∙ c.in_ok-news-2.ensures.added

pub returns-clause-added : goal.returns-clause-added
returns-clause-added c = state_adds c.self.inside.entries.items c.self.inside.state c.self.inside.fixed _ (ap contents_in c.self.view_is) c.self.invariant c.args.var c.args.facts.items c.in_ok-news-2.news c.requires.variable c.requires.filed c.add-2.new.self c.in_ok-news-2.ensures.added c.in_ok-news-2.ensures.kind c.in_ok-news-2.ensures.of_kind c.in_ok-news-2.ensures.apart c.in_ok-news-2.ensures.ok c.add-2.ensures.placed c.if-var.false

pub returns-clause-sound : goal.returns-clause-sound
returns-clause-sound c = sound c.self.inside.entries.items c.add-2.new.self c.self.inside.fixed (state_grown c.self.inside.entries.items c.self.inside.state c.self.inside.fixed _ (ap contents_in c.self.view_is) c.self.invariant c.args.var c.args.facts.items c.in_ok-news-2.news c.requires.variable c.requires.filed c.add-2.new.self c.in_ok-news-2.ensures.added c.in_ok-news-2.ensures.kind c.in_ok-news-2.ensures.of_kind c.in_ok-news-2.ensures.apart c.in_ok-news-2.ensures.ok c.add-2.ensures.placed c.if-var.false)
