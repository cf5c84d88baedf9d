use Rattle.std.proofs.Common.{ap, sym, refl, ◌∙◌, subst}
use Rattle.std.proofs.lemmas.Result.{on_ok_weaker}
use Rattle.std.specs.Result.{IfErr}
use Rattle.tp_store.specs.Known.{Addition, addition}
use Rattle.tp_store.specs.Stock.{contents_in}
use Rattle.tp_store.specs.FactMap.{FactsOfKind}
use Rattle.tp_store.specs.Answers.{Adds, IsRefusal}
use Rattle.tp_store.proofs.Parts.{addition_view}
use Rattle.tp_store.proofs.store.Store.check_facts.Goals as goal

pub returns-clause-ok : goal.returns-clause-ok
returns-clause-ok c =
    let same = ap (λ (m : FactsOfKind). addition m.facts c.args.facts.now) c.part.ensures
    ∙ addition_view c.self.inside.entries.items c.self.inside.state c.self.inside.fixed _ (ap contents_in c.self.view_is) c.self.invariant c.args.var.lasting c.args.var c.args.facts.now refl c.requires.filed in
    on_ok_weaker c.check_in.result (λ e. subst Adds (sym e ∙ same) tt) c.check_in.ensures.ok

pub returns-clause-refused : goal.returns-clause-refused
returns-clause-refused c =
    let same = ap (λ (m : FactsOfKind). addition m.facts c.args.facts.now) c.part.ensures
    ∙ addition_view c.self.inside.entries.items c.self.inside.state c.self.inside.fixed _ (ap contents_in c.self.view_is) c.self.invariant c.args.var.lasting c.args.var c.args.facts.now refl c.requires.filed in
    let P : Addition → Type 0 = λ o. IfErr c.check_in.result (IsRefusal o) in
    subst P same c.check_in.ensures.refused
